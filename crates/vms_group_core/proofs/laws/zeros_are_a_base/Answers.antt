-- Zeros begin.
use Rattle.vms_group_core.proofs.Zeros.{zeros-base, zeros-paid}
use Rattle.vms_group_core.proofs.laws.zeros_are_a_base.Goals as goal

pub returns : goal.returns
returns c = record { base = zeros-base; paid = zeros-paid }
