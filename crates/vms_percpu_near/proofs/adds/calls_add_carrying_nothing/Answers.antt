use Rattle.vms_percpu_near.proofs.OwnAdds.{call-adds_free, callers-add_free}
use Rattle.vms_percpu_near.proofs.adds.calls_add_carrying_nothing.Goals as goal

pub returns : goal.returns
returns c = record { calls = call-adds_free; callers = callers-add_free }
