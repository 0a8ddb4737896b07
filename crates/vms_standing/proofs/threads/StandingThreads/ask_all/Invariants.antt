use Rattle.std.proofs.Common.{◌≡◌, ◌++◌, List, All, length}
use Rattle.std.specs.Arc.{arc_value}
use Rattle.std.specs.Vec.Iter.{into_iter_items, into_iter_len}
use Rattle.vms_standing.specs.Common.{Pairs}
use Rattle.vms_standing.proofs.threads.StandingThreads.ask_all.Given as goal

-- what is left may be made, and its places complete those that stand
abbrev pub invariant-loop-job : goal.invariant-loop-job
invariant-loop-job g l = All g.D.Answers.asks (into_iter_items l.job-iterator)
    × ((more : List _) → Pairs (λ job reply. arc_value reply ≡ job) (into_iter_items l.job-iterator) more
    → Pairs (λ job reply. arc_value reply ≡ job) l.fn.jobs.items (l.replies.items ++ more))
    × (into_iter_len l.job-iterator ≡ length (into_iter_items l.job-iterator))
