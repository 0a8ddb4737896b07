-- What the calls answer, by the numbers that stand.
use Rattle.std.specs.Prelude.{◌≡◌, ℕ, ◌<◌, Bool, true, ℤ, pos, ◌+ℤ◌, ◌-ℤ◌, ◌≤ℤ◌, ◌<ℤ◌, List, ◌↔◌, unsigned_abs, IsTrue}
use Rattle.vms_history.specs.Common.{CpuState}
use Rattle.vms_pcpu_core.specs.declared.answers.Compare.{Compare}
use Rattle.vms_pcpu_core.specs.declared.states.PcpuState.{PcpuState}
use Rattle.vms_pcpu_core.specs.Common.{sign_of, count_at}
use Rattle.vms_plain_pcpu.specs.Numbers.{total_in, unknown_in}

-- a comparison tells on which side of a number the total is; it is rough where the shared part is further off than the
-- local parts may hide
pub record ComparesTotal (s : PcpuState) (states : List CpuState) (j : ℕ) (rhs : ℤ) (answer : Compare) : Type 0 where
  pub sign : answer.sign ≡ sign_of (total_in s states j -ℤ rhs)
  pub rough : IsTrue answer.rough ↔ (unknown_in s states j < unsigned_abs (count_at s j -ℤ rhs))

-- a limited addition says yes exactly where the total with the amount keeps the limit, which is the most for a positive
-- amount and the least for a negative one
pub record AnswersByLimit (s : PcpuState) (states : List CpuState) (j : ℕ) (limit amount : ℤ) (answer : Bool)
    : Type 0 where
  pub nothing : amount ≡ pos 0 → answer ≡ true
  pub most : pos 0 <ℤ amount → (answer ≡ true) ↔ ((total_in s states j +ℤ amount) ≤ℤ limit)
  pub least : amount <ℤ pos 0 → (answer ≡ true) ↔ (limit ≤ℤ (total_in s states j +ℤ amount))
