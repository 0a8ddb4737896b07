use Rattle.vms_calls.proofs.ChangeReadings.{change-told}
use Rattle.vms_calls.proofs.FoldReadings.{fold-told}
use Rattle.vms_calls.proofs.readings.changes_and_folds_are_told.Goals as goal

pub returns : goal.returns
returns c = record { change = change-told; fold = fold-told }
