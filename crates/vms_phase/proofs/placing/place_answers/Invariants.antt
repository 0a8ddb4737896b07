-- The answers of the last lanes stand in their places.
use Rattle.vms_phase.proofs.PlacedAnswers.{ArePlaced}
use Rattle.vms_phase.proofs.placing.place_answers.Given as goal

abbrev pub invariant-loop-lane : goal.invariant-loop-lane
invariant-loop-lane l = ArePlaced l.header l.initial.rest.items l.rest.items l.placed.items

abbrev pub decreases-loop-lane : goal.decreases-loop-lane
decreases-loop-lane l = goal.left-loop-lane l
