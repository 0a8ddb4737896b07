-- Both bounds hold of every legal history.
use Rattle.vms_drift.proofs.PresentCpus.{counters-near, items-near}
use Rattle.vms_drift.proofs.present.numbers_stay_near_totals.Goals as goal

pub returns : goal.returns
returns c = record { counters = counters-near; items = items-near }
