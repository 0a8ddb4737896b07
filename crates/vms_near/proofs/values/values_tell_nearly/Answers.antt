-- Each value is near its true total on both sides.
use Rattle.vms_near.proofs.ByValue.{values-tell_nearly}
use Rattle.vms_near.proofs.values.values_tell_nearly.Goals as goal

pub returns : goal.returns
returns c = record { values = values-tell_nearly }
