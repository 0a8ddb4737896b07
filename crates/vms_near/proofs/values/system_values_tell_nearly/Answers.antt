-- Each system-wide value is near its true total on both sides.
use Rattle.vms_near.proofs.BySystem.{system_values-tell_nearly}
use Rattle.vms_near.proofs.values.system_values_tell_nearly.Goals as goal

pub returns : goal.returns
returns c = record { values = system_values-tell_nearly }
