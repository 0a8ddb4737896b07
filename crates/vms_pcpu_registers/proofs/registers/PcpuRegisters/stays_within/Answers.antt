-- The sum is that of the two numbers, since a machine word of 128 bits holds it.
use Rattle.std.proofs.Common.{◌≡◌, ℕ, ◌≤◌, IsTrue, nat_le, ◌+ℤ◌, unsigned_abs, sym, arith}
use Rattle.std.proofs.lemmas.Bool.Decides.{nat_tests}
use Rattle.std.proofs.lemmas.Int.{ints}
use Rattle.vms_pcpu_core.specs.Common.{local_at}
use Rattle.vms_pcpu_registers.proofs.registers.PcpuRegisters.stays_within.Goals as goal

test-holds : (n m : ℕ) → (IsTrue (nat_le n m) → n ≤ m) × (n ≤ m → IsTrue (nat_le n m))
test-holds n m = grind (arith, nat_tests)

pub returns : goal.returns
returns c =
    let size : c.unsigned_abs.result
    ≡ unsigned_abs (local_at c.args.self.now.numbers c.args.cpu.number c.args.counter.number +ℤ c.args.amount) =
    omega (arith, ints, c.local.ensures, c.unsigned_abs.ensures.value) in
    let batch = c.get.ensures 0 in
    rw (size, sym batch) (test-holds _ _)
