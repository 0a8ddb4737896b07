-- How a complete history of percpu counters ends, and that the next one may begin with its numbers.
use Rattle.std.specs.Prelude.{◌≡◌, ℕ, ◌+◌, ◌*◌, ◌^◌, ◌≤◌, false, pos, ◌+ℤ◌, ◌≤ℤ◌, [], unsigned_abs}
use Rattle.vms_history.specs.Common.{IsCpu, most_volume, own, sum_below}
use Rattle.vms_history.specs.Legal as legal
use Rattle.vms_pcpu_core.specs.declared.steps.PcpuFacts.{PcpuFacts}
use Rattle.vms_pcpu_core.specs.Bases.{IsBase, most_batch, most_count}
use Rattle.vms_pcpu_core.specs.Histories.{percpu, History, state_after}
use Rattle.vms_pcpu_core.specs.Laws.{numbers_after, carried_by_all}
use Rattle.vms_pcpu_core.specs.Own.{carried}
use Rattle.vms_pcpu_core.specs.States.{IsPcpu, count_at, held_at, unlocked}
use Rattle.vms_pcpu_core.specs.Totals.{locals, spent, true_total}

-- a legal history in which every pass has ended
abbrev pub IsComplete : PcpuFacts → History → Type 0
IsComplete facts h = legal.IsComplete percpu facts h

-- where every pass has ended, the lock of a counter is free, nothing is carried for it, and its numbers alone are the
-- true total
pub record HoldsTotals (facts : PcpuFacts) (h : History) (j : ℕ) : Type 0 where
  pub free : held_at (state_after facts h) j ≡ false
  pub nothing_in_hand : (p : ℕ) → carried j (own h p) ≡ pos 0
  pub nothing_carried : carried_by_all h j ≡ pos 0
  pub numbers : count_at (numbers_after facts h) j +ℤ locals facts.layout (numbers_after facts h) j ≡
      true_total facts h j

-- the facts for a history that begins with the numbers that this one leaves
abbrev pub ending : PcpuFacts → History → PcpuFacts
ending facts h = record facts { base = numbers_after facts h }

-- the true totals are so small that the shared parts stay within the range of a base
abbrev pub LeavesRoom : PcpuFacts → History → Type 0
LeavesRoom facts h = (j : ℕ) → IsPcpu facts j →
    unsigned_abs (true_total facts h j) + facts.layout.cpus * most_batch ≤ most_count

-- a complete history leaves a base, with the batches that it had, the state that the next history begins with, and the
-- same true totals
pub record BeginsAgain (facts : PcpuFacts) (h : History) : Type 0 where
  pub base : IsBase (ending facts h)
  pub batches : (numbers_after facts h).batch ≡ facts.base.batch
  pub state : state_after facts h ≡ unlocked (ending facts h)
  pub totals : (j : ℕ) → IsPcpu facts j → true_total (ending facts h) [] j ≡ true_total facts h j

-- what the total of a counter may be before any CPU has spent something of its volume
abbrev pub most_start : ℕ
most_start = 2 ^ 59

-- the total of a counter in the base is at most that, and what each CPU has spent on it in earlier histories
abbrev pub IsPaid : PcpuFacts → (ℕ → ℕ → ℕ) → Type 0
IsPaid facts earlier = (j : ℕ) → IsPcpu facts j →
    pos (unsigned_abs (true_total facts [] j)) ≤ℤ
    (pos most_start +ℤ sum_below (λ c. pos (earlier c j)) facts.layout.cpus)

-- no CPU spends more than its volume in the earlier histories and this one together
abbrev pub StaysWithinVolumes : PcpuFacts → (ℕ → ℕ → ℕ) → History → Type 0
StaysWithinVolumes facts earlier h = (c : ℕ) → IsCpu facts.layout c → (j : ℕ) → IsPcpu facts j →
    earlier c j + spent h c j ≤ most_volume

-- the same of the histories up to this one
abbrev pub spent_by_now : (ℕ → ℕ → ℕ) → History → ℕ → ℕ → ℕ
spent_by_now earlier h c j = earlier c j + spent h c j
