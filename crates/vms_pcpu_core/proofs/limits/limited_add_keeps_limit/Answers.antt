use Rattle.vms_pcpu_core.proofs.LimitedAdds.{limited-yes, limited-no}
use Rattle.vms_pcpu_core.proofs.limits.limited_add_keeps_limit.Goals as goal

pub returns : goal.returns
returns c = record { yes_keeps = limited-yes; no_passes = limited-no }
