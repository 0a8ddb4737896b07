use Rattle.std.proofs.Common.{◌≡◌, ◌++◌, List, length}
use Rattle.std.specs.Arc.{arc_value}
use Rattle.std.specs.Vec.Iter.{into_iter_items, into_iter_len}
use Rattle.vms_standing.specs.Common.{Pairs}
use Rattle.vms_standing.proofs.threads.take_all.Given as goal

-- what the places that are left give completes what stands
abbrev pub invariant-loop-reply : goal.invariant-loop-reply
invariant-loop-reply g l =
    ((more : List g.row.D.Denot)
    → Pairs (λ reply. g.D.Answers.answers (arc_value reply)) (into_iter_items l.reply-iterator) more
    → Pairs (λ reply. g.D.Answers.answers (arc_value reply)) l.fn.replies.items (l.results.items ++ more))
    × (into_iter_len l.reply-iterator ≡ length (into_iter_items l.reply-iterator))
