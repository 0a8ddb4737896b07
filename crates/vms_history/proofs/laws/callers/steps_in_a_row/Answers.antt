use Rattle.vms_history.proofs.Own as own
use Rattle.vms_history.proofs.laws.callers.steps_in_a_row.Goals as goal

pub returns : goal.returns
returns g c = record { steps = own.after-steps; below = own.after-append }
