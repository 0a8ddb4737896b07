-- The answers of the last lane that is left are put into its place.
use Rattle.std.proofs.Common.{refl}
use Rattle.vms_phase.proofs.PlacedAnswers.{ArePlaced-next}
use Rattle.vms_phase.proofs.placing.place_answers.Goals as goal

pub loop-lane-preserved-in-Some : goal.loop-lane-preserved-in-Some
loop-lane-preserved-in-Some c =
    ArePlaced-next c.args.header.now c.args.lanes.items c.loop-lane.rest.items c.pop.new.self.items c.in-Some.lane
    (record { items = c.in-Some.lane.answers }) c.loop-lane.placed.items c.place_of.result c.loop-lane.invariant
    c.in-Some.ensures.items refl c.place_of.ensures

pub loop-lane-preserved : goal.loop-lane-preserved
loop-lane-preserved c =
    ArePlaced-next c.args.header.now c.args.lanes.items c.loop-lane.rest.items c.pop.new.self.items c.in-Some.lane
    (record { items = c.in-Some.lane.answers }) c.loop-lane.placed.items c.place_of.result c.loop-lane.invariant
    c.in-Some.ensures.items refl c.place_of.ensures
