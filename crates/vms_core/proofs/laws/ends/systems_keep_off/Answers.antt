use Rattle.vms_core.proofs.SettledEnds.{system_values-keep_off}
use Rattle.vms_core.proofs.laws.ends.systems_keep_off.Goals as goal

pub returns : goal.returns
returns c = system_values-keep_off
