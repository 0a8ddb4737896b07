-- A machine word of 128 bits holds the difference.
use Rattle.std.proofs.Common.{arith, pos}
use Rattle.std.proofs.lemmas.Int.{ints}
use Rattle.vms_pcpu_registers.proofs.registers.PcpuRegisters.beyond.Goals as goal

pub returns-clause-value : goal.returns-clause-value
returns-clause-value c = let is = c.get-carried.ensures (pos 0) in omega (arith, ints, is)
