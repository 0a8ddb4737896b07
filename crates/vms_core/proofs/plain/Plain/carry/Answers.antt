use Rattle.std.proofs.Common.{arith, sym}
use Rattle.std.proofs.lemmas.Int.{ints}
use Rattle.vms_core.proofs.WithChange.{with_carried-nothing}
use Rattle.vms_core.proofs.plain.Plain.carry.Goals as goal

pub returns-else-amount-ne0 : goal.returns-else-amount-ne0
returns-else-amount-ne0 c =
    sym (with_carried-nothing c.args.layout.now c.args.counter.number c.args.amount c.args.self.now
    (omega (arith, ints)))
