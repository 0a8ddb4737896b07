-- Lane by lane.
use Rattle.std.proofs.Common.{◌++◌, List, [], ◌∷◌, take, ap, subst, sym, ◌∙◌}
use Rattle.std.proofs.lemmas.List.{take_more}
use Rattle.vms_phase.specs.declared.lane_joins.JoinedLane.{JoinedLane}
use Rattle.vms_phase.specs.Common.{AreGivenBack}
use Rattle.vms_phase.proofs.KeptVolumes.{AreGivenBack-more, AreGivenBack-none}
use Rattle.vms_phase.proofs.volumes.keep_volumes.Goals as goal

pub loop-lane-init : goal.loop-lane-init
loop-lane-init c = AreGivenBack-none c.args.header.now c.args.volumes.now c.requires.all

pub loop-lane-preserved : goal.loop-lane-preserved
loop-lane-preserved c =
    let header = c.args.header.now in
    let lanes = c.args.lanes.now in
    let n = c.loop-lane.lane-index in
    let one = c.lane-item.result in
    let old = c.args.volumes.now in
    let new = c.keep_lane.new.volumes in
    subst (λ (ls : List JoinedLane). AreGivenBack header ls new old)
    (ap (λ (x : JoinedLane). take n lanes ++ x ∷ []) c.lane-item.is ∙ sym (take_more lanes n one c.loop-lane-test.true))
    (AreGivenBack-more header (take n lanes) one new c.loop-lane.volumes old c.loop-lane.invariant c.keep_lane.ensures)
