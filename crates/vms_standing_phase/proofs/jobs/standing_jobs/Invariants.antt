-- What is left stands among the lines, and makes up the jobs with those that were made.
use Rattle.std.proofs.Common.{◌≡◌, ◌++◌, List, All, length}
use Rattle.std.specs.Arc.{arc_value}
use Rattle.std.specs.Vec.Iter.{into_iter_items, into_iter_len}
use Rattle.vms_world.specs.Common.{lane_items}
use Rattle.vms_phase.specs.declared.jobs.LaneJob.{LaneJob}
use Rattle.vms_standing.specs.Common.{Pairs}
use Rattle.vms_standing_phase.proofs.StandingLanes.{Stands}
use Rattle.vms_standing_phase.proofs.jobs.standing_jobs.Given as goal

abbrev pub invariant-loop-job : goal.invariant-loop-job
invariant-loop-job g l =
    let share = arc_value l.shared in
    All (λ (job : LaneJob). job.lines ≡ lane_items job.lane share.script) (into_iter_items l.job-iterator)
    × ((more : List _) → Pairs (Stands share) (into_iter_items l.job-iterator) more
    → Pairs (Stands share) l.fn.jobs.items (l.made.items ++ more))
    × (into_iter_len l.job-iterator ≡ length (into_iter_items l.job-iterator))
