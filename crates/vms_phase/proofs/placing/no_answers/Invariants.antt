-- No place so far has an answer.
use Rattle.std.proofs.Common.{◌≡◌, [], length}
use Rattle.vms_answers.specs.Common.{told_by}
use Rattle.vms_world.specs.Common.{Lane}
use Rattle.vms_phase.proofs.placing.no_answers.Given as goal

abbrev pub invariant-loop : goal.invariant-loop
invariant-loop l = (length l.placed.items ≡ l.counter) × ((lane : Lane) → told_by l.placed.items lane ≡ [])
