-- What holds of every legal history of percpu counters.
use Rattle.std.specs.Prelude.{◌≡◌, ℕ, suc, ◌+◌, ◌*◌, ◌^◌, ◌<◌, ◌≤◌, nat_eq, ◌&&◌, true, false, ℤ, pos, ◌+ℤ◌, ◌-ℤ◌, ◌≤ℤ◌}
use Rattle.std.specs.Prelude.{[], ◌∷◌, ◌↔◌, if◌then◌else◌, Some, is_some, unsigned_abs}
use Rattle.vms_history.specs.Common.{Dead, Absent, IsCpu, most_volume, own, total, begun_in, lives_in, owner_in}
use Rattle.vms_history.specs.Common.{sum_below}
use Rattle.vms_pcpu_core.specs.declared.states.PcpuState.{PcpuState}
use Rattle.vms_pcpu_core.specs.declared.steps.PcpuFacts.{PcpuFacts}
use Rattle.vms_pcpu_core.specs.declared.steps.PcpuStep.{PcpuStep}
use Rattle.vms_pcpu_core.specs.declared.steps.PcpuStep.TheVariants.{AddL, LoadL, LoadC, TakeL, AddC}
use Rattle.vms_pcpu_core.specs.States.{HasShape, batch_at, count_at, local_at, held_at, cpu_at, IsPcpu}
use Rattle.vms_pcpu_core.specs.Own.{holds_lock, carried}
use Rattle.vms_pcpu_core.specs.OwnSteps.{as_is, size_of, own_added}
use Rattle.vms_pcpu_core.specs.Steps.{role}
use Rattle.vms_pcpu_core.specs.Totals.{locals, true_total, holder, present, amounts, spent, is_owned}
use Rattle.vms_pcpu_core.specs.Histories.{History, state_after}

-- the numbers of the counters after a history
abbrev pub numbers_after : PcpuFacts → History → PcpuState
numbers_after facts h = (state_after facts h).numbers

-- what all callers carry for counter j together, and the sizes of what each carries
abbrev pub carried_by_all : History → ℕ → ℤ
carried_by_all h j = sum_below (λ p. carried j (own h p)) (suc (begun_in role h))

abbrev pub carried_sizes : History → ℕ → ℤ
carried_sizes h j = sum_below (λ p. pos (unsigned_abs (carried j (own h p)))) (suc (begun_in role h))

-- nothing is lost and nothing is counted twice: the shared part of a counter, its local parts and what is carried for
-- it add up to its true total
abbrev pub KeepsTotals : PcpuFacts → History → Type 0
KeepsTotals facts h = (j : ℕ) → IsPcpu facts j →
    (count_at (numbers_after facts h) j +ℤ locals facts.layout (numbers_after facts h) j) +ℤ carried_by_all h j
    ≡ true_total facts h j

-- no local part is larger than the batch of its counter, and an absent CPU has none
pub record BoundsLocals (facts : PcpuFacts) (h : History) : Type 0 where
  pub within : (c j : ℕ) → IsCpu facts.layout c → IsPcpu facts j →
      unsigned_abs (local_at (numbers_after facts h) c j) ≤ batch_at facts.base j
  pub absent : (c j : ℕ) → IsCpu facts.layout c → cpu_at facts c ≡ Absent → IsPcpu facts j →
      local_at (numbers_after facts h) c j ≡ pos 0

-- the lock of counter j is held as long as some caller holds it by its own events; that caller lives, and the others
-- carry nothing
pub record HasOneHolder (facts : PcpuFacts) (h : History) (j : ℕ) : Type 0 where
  pub held : held_at (state_after facts h) j ≡ is_some (holder j h)
  pub own_events : (p : ℕ) → (holds_lock j (own h p) ≡ true) ↔ (holder j h ≡ Some p)
  pub one : (p q : ℕ) → holds_lock j (own h p) ≡ true → holds_lock j (own h q) ≡ true → p ≡ q
  pub lives : (p : ℕ) → holds_lock j (own h p) ≡ true → lives_in role h p ≡ true
  pub others : (p : ℕ) → holds_lock j (own h p) ≡ false → carried j (own h p) ≡ pos 0
  pub free : held_at (state_after facts h) j ≡ false → (p : ℕ) → carried j (own h p) ≡ pos 0

-- the shared part alone is off from the true total by at most a batch for each CPU that is online or dead, and by what
-- is carried
abbrev pub DriftsLittle : PcpuFacts → History → Type 0
DriftsLittle facts h = (j : ℕ) → IsPcpu facts j →
    pos (unsigned_abs (count_at (numbers_after facts h) j -ℤ true_total facts h j))
    ≤ℤ (pos (batch_at facts.base j * present facts) +ℤ carried_sizes h j)

-- the largest absolute size of a number: that of a shared part of a base, and for each of 128 CPUs a batch and a volume
abbrev pub most_number : ℕ
most_number = 2 ^ 60 + 128 * (2 ^ 16 + 2 ^ 48)

-- every number of counter j is that small
pub record IsSmall (facts : PcpuFacts) (h : History) (j : ℕ) : Type 0 where
  pub count : unsigned_abs (count_at (numbers_after facts h) j) ≤ most_number
  pub local : (c : ℕ) → IsCpu facts.layout c → unsigned_abs (local_at (numbers_after facts h) c j) ≤ most_number
  pub in_hand : (p : ℕ) → unsigned_abs (carried j (own h p)) ≤ most_number
  pub truth : unsigned_abs (true_total facts h j) ≤ most_number

-- the number that a step names
abbrev pub step_number : PcpuStep → ℤ
step_number (AddL j a) = a
step_number (LoadL j c v) = v
step_number (LoadC j v) = v
step_number (TakeL j c v) = v
step_number (AddC j a) = a
step_number _ = pos 0

-- what a step takes of the local part of CPU c for counter j
abbrev pub taken_by : ℕ → ℕ → PcpuStep → ℤ
taken_by c j (TakeL i d v) = if nat_eq d.number c && nat_eq i.number j then v else pos 0
taken_by c j _ = pos 0

-- how many steps took something of it
abbrev pub takings_after : ℕ → ℕ → PcpuStep → ℕ → ℕ
takings_after c j step before = if nat_eq (unsigned_abs (taken_by c j step)) 0 then before else suc before

abbrev pub takings : ℕ → ℕ → History → ℕ
takings c j [] = 0
takings c j (e ∷ h) = takings_after c j e.step (takings c j h)

-- the local part of a dead CPU is its old one less what was taken of it, and one step at most took something, all of it
pub record MovesOnce (facts : PcpuFacts) (h : History) (c j : ℕ) : Type 0 where
  pub total : local_at (numbers_after facts h) c j +ℤ total (taken_by c j) h ≡ local_at facts.base c j
  pub once : takings c j h ≤ 1
  pub all : 0 < takings c j h → local_at (numbers_after facts h) c j ≡ pos 0

-- what a history adds to a counter is the sum over its callers of what their own events add
abbrev pub AddsByCaller : History → Type 0
AddsByCaller h = (j : ℕ) → amounts j h ≡ sum_below (λ p. own_added as_is j (own h p)) (suc (begun_in role h))

-- what pass p spent of the volume of CPU c on counter j: all that it added where it owns that CPU
abbrev pub spent_by_pass : History → ℕ → ℕ → ℕ → ℤ
spent_by_pass h c j p = if is_owned (owner_in role h p) c then own_added size_of j (own h p) else pos 0

-- no CPU spends more than its volume, and it spends what the passes that own it add
pub record KeepsVolumesByPass (h : History) : Type 0 where
  pub most : (c j : ℕ) → spent h c j ≤ most_volume
  pub by_pass : (c j : ℕ) → pos (spent h c j) ≡ sum_below (spent_by_pass h c j) (suc (begun_in role h))

-- what holds after every legal history, and so after each beginning of one
pub record KeepsLaws (facts : PcpuFacts) (h : History) : Type 0 where
  -- the batches stay those of the base, and the lists keep their lengths
  pub shape : HasShape facts (state_after facts h)
  -- the shared part, the local parts and what is carried add up to the true total
  pub totals : KeepsTotals facts h
  -- a local part is at most its batch, and 0 where the CPU is absent
  pub local_parts : BoundsLocals facts h
  -- a lock has at most one holder, who lives and alone carries something
  pub holders : (j : ℕ) → IsPcpu facts j → HasOneHolder facts h j
  -- the shared part alone is off from the true total by little
  pub drift : DriftsLittle facts h
  -- every number is below 2^61
  pub numbers : (j : ℕ) → IsPcpu facts j → IsSmall facts h j
  -- the local part of a dead CPU moves once
  pub dead_parts : (c j : ℕ) → IsCpu facts.layout c → IsPcpu facts j → cpu_at facts c ≡ Dead → MovesOnce facts h c j
  -- the amounts of a history are those of its callers
  pub callers : AddsByCaller h
  -- no CPU spends more than its volume
  pub volumes : KeepsVolumesByPass h
