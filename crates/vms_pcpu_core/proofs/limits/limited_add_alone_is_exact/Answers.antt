use Rattle.vms_pcpu_core.proofs.Alone.{limited-exact, alone-by_itself}
use Rattle.vms_pcpu_core.proofs.limits.limited_add_alone_is_exact.Goals as goal

pub returns : goal.returns
returns c = record { exact = limited-exact; alone = alone-by_itself }
