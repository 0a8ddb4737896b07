-- Both bounds hold of every legal history.
use Rattle.vms_drift.proofs.NewestThresholds.{newest-near, pressure-near}
use Rattle.vms_drift.proofs.thresholds.newest_thresholds_bound_drift.Goals as goal

pub returns : goal.returns
returns c = record { newest = newest-near; pressure = pressure-near }
