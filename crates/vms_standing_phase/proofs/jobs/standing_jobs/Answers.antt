-- A further job stands next.
use Rattle.std.proofs.Common.{rules, ◌≡◌, ◌∷◌, ◌++◌, [], ap, length, arith}
use Rattle.std.specs.Arc.{arc_value}
use Rattle.std.proofs.lemmas.List.Elements.{All-rest}
use Rattle.vms_world.specs.Common.{lane_items}
use Rattle.vms_phase.specs.declared.jobs.LaneJob.{LaneJob}
use Rattle.vms_standing.proofs.PairedLists.{goes_on, ends, none_of_length}
use Rattle.vms_standing_phase.proofs.StandingLanes.{Stands}
use Rattle.vms_standing_phase.proofs.jobs.standing_jobs.Goals as goal

pub loop-job-preserved : goal.loop-job-preserved
loop-job-preserved g c =
    let share = arc_value c.args.shared.now in
    let inv = c.loop-job.invariant in
    let is = c.in-Some.ensures.steps.0 in
    let gone = c.in-Some.ensures.steps.1 in
    let short = ap length is in
    let was = inv.2 in
    let grown : c.push.new.self.items ≡ c.loop-job.made.items ++ c.in_ok-one.one ∷ [] = search rules in (
      All-rest (λ (job : LaneJob). job.lines ≡ lane_items job.lane share.script) _ _ _ is inv.0,
      goes_on (Stands share) _ _ _ _ _ _ _ is grown c.in_ok-one.ensures inv.1,
      omega (arith, was, gone, short),
    )

pub returns : goal.returns
returns g c =
    let share = arc_value c.args.shared.now in
    let inv = c.loop-job.invariant in
    ends (Stands share) _ _ _ (none_of_length _ _ inv.2 c.in-None.ensures.steps.0) inv.1
