-- Every pass has ended where no slot holds one.
use Rattle.vms_registers.proofs.Judged.{all_ended}
use Rattle.vms_registers.proofs.registers.Registers.all_ended.Goals as goal

pub returns : goal.returns
returns g c = rw (← c.self.view_is) (λ h shows.
    all_ended g.T.Table.machine g.T.TableRegisters.cpus_of g.T.TableRegisters.Keeps c.args.facts.now h _ shows
    c.is_empty.result c.is_empty.ensures)
