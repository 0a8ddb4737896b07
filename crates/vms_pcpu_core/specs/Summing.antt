-- What the sum of a counter is, while others act.
use Rattle.std.specs.Prelude.{◌≡◌, ℕ, ◌+◌, ◌*◌, ◌<◌, true, false, ℤ, pos, ◌+ℤ◌, ◌-ℤ◌, ◌≤ℤ◌, [], ◌∷◌, ◌++◌, unsigned_abs}
use Rattle.vms_history.specs.Common.{PcpuId, IsCpu, sum_below, is_present}
use Rattle.vms_pcpu_core.specs.declared.answers.Compare.{Compare}
use Rattle.vms_pcpu_core.specs.declared.steps.PcpuFacts.{PcpuFacts}
use Rattle.vms_pcpu_core.specs.declared.steps.PcpuStep.TheVariants.{LoadL, LoadC, Won}
use Rattle.vms_pcpu_core.specs.Bases.{most_batch}
use Rattle.vms_pcpu_core.specs.Calls.{sign_of, unknown}
use Rattle.vms_pcpu_core.specs.Histories.{History}
use Rattle.vms_pcpu_core.specs.Laws.{carried_by_all, most_number}
use Rattle.vms_pcpu_core.specs.MadeBetween.{event, MadeBetween}
use Rattle.vms_pcpu_core.specs.States.{cpu_at}
use Rattle.vms_pcpu_core.specs.Totals.{true_total}
use Rattle.vms_pcpu_core.specs.Knowledge.{added_since}

-- a sum is the true total when the lock was won, and what each CPU added to its local part from there to the load of
-- that part
pub record SumsUp (facts : PcpuFacts) (earlier later : History) (p : ℕ) (j : PcpuId) (sum : ℤ) : Type 0 where
  -- what stood before the lock was won, and what after it
  pub free : History
  pub wins : MadeBetween earlier later p (Won j) free
  pub won : History
  pub after_win : won ≡ event p (Won j) ∷ free
  -- for each CPU the events from there to the load of its local part, which is made where the CPU is present
  pub between : ℕ → History
  pub loads : (c : ℕ) → IsCpu facts.layout c → is_present (cpu_at facts c) ≡ true →
      (d : ℤ) × MadeBetween won later p (LoadL j (record { number = c }) d) (between c ++ won)
  pub no_load : (c : ℕ) → IsCpu facts.layout c → is_present (cpu_at facts c) ≡ false → between c ≡ []
  pub total : sum ≡
      true_total facts won j.number +ℤ sum_below (λ c. added_since (between c) won c j.number) facts.layout.cpus

-- when the shared part was loaded, it was further off from the other number than the local parts could hide. So the
-- true total, less what was carried, was off on the same side
pub record TellsRoughly (facts : PcpuFacts) (earlier later : History) (p : ℕ) (j : PcpuId) (rhs : ℤ) (answer : Compare)
    : Type 0 where
  pub count : ℤ
  pub loaded : History
  pub loads : MadeBetween earlier later p (LoadC j count) loaded
  pub far : unknown facts j.number < unsigned_abs (count -ℤ rhs)
  pub hidden : pos (unsigned_abs ((true_total facts loaded j.number -ℤ carried_by_all loaded j.number) -ℤ count)) ≤ℤ
      pos (unknown facts j.number)
  pub sign : answer.sign ≡ sign_of ((true_total facts loaded j.number -ℤ carried_by_all loaded j.number) -ℤ rhs)

-- the sign is that of a sum, less the other number
pub record TellsBySum (facts : PcpuFacts) (earlier later : History) (p : ℕ) (j : PcpuId) (rhs : ℤ) (answer : Compare)
    : Type 0 where
  pub sum : ℤ
  pub sums_up : SumsUp facts earlier later p j sum
  pub sign : answer.sign ≡ sign_of (sum -ℤ rhs)

-- the largest absolute size of a sum: that of a shared part, and a batch for each of 128 CPUs
abbrev pub most_sum : ℕ
most_sum = most_number + 128 * most_batch
