use Rattle.std.proofs.Common.{take}
use Rattle.std.specs.Prelude.{reverse}
use Rattle.vms_registers.specs.Shows.{Shows}
use Rattle.vms_registers.proofs.judging.judge.Given as goal

abbrev pub invariant-loop-i : goal.invariant-loop-i
invariant-loop-i g l =
    Shows g.T.Table.machine g.T.TableRegisters.cpus_of g.T.TableRegisters.Keeps l.facts (reverse (take l.i l.events))
    l.registers
