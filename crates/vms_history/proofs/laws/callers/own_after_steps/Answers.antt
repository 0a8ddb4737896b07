use Rattle.vms_history.proofs.Own as own
use Rattle.vms_history.proofs.laws.callers.own_after_steps.Goals as goal

pub returns : goal.returns
returns g c = record { mine = own.own-after; others = own.own-after_others; on_top = own.own-on_top }
