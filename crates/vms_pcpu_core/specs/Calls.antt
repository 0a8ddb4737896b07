-- The steps of each call on the percpu counters, the oldest first, and its answer.
use Rattle.std.specs.Prelude.{◌≡◌, ◌≢◌, ℕ, suc, zero, ◌*◌, ◌<◌, ◌≤◌, Bool, true, false, ℤ, pos, negsuc, ◌+ℤ◌, ◌-ℤ◌}
use Rattle.std.specs.Prelude.{◌≤ℤ◌, ◌<ℤ◌, int_le, int_lt, List, [], ◌∷◌, ◌++◌, if◌then◌else◌, unsigned_abs}
use Rattle.vms_history.specs.Common.{CpuId, PcpuId, present_from}
use Rattle.vms_pcpu_core.specs.declared.answers.Compare.{Compare}
use Rattle.vms_pcpu_core.specs.declared.steps.PcpuFacts.{PcpuFacts}
use Rattle.vms_pcpu_core.specs.declared.steps.PcpuStep.{PcpuStep}
use Rattle.vms_pcpu_core.specs.declared.steps.PcpuStep.TheVariants.{AddL, LoadL, LoadC, Won, Missed, TakeL, AddC}
use Rattle.vms_pcpu_core.specs.declared.steps.PcpuStep.TheVariants.{Unlock}
use Rattle.vms_pcpu_core.specs.States.{batch_at}
use Rattle.vms_pcpu_core.specs.Totals.{present}

abbrev pub present_cpus : PcpuFacts → List CpuId
present_cpus facts = present_from 0 facts.cpus

-- what the local parts of a counter may hide from its shared part
abbrev pub unknown : PcpuFacts → ℕ → ℕ
unknown facts j = batch_at facts.base j * present facts

-- the lock is found held any number of times, and then won
pub data Locks (j : PcpuId) : List PcpuStep → Type 0 where
  won : Locks j (Won j ∷ [])
  missed : (rest : List PcpuStep) → Locks j rest → Locks j (Missed j ∷ rest)

-- the shared part is loaded and answered (`percpu_counter_read`)
abbrev pub IsRead : PcpuId → List PcpuStep → ℤ → Type 0
IsRead j steps answer = steps ≡ LoadC j answer ∷ []

-- an amount is added to the own local part where the sum stays below the batch; otherwise the own local part moves to
-- the shared part together with the amount (`percpu_counter_add_batch`)
pub data IsAdd (batch : ℕ) (own : CpuId) (j : PcpuId) (amount : ℤ) : List PcpuStep → Type 0 where
  below : (l : ℤ) → unsigned_abs (l +ℤ amount) < batch
      → IsAdd batch own j amount (LoadL j own l ∷ AddL j amount ∷ [])
  reached : (l v : ℤ) (locking : List PcpuStep) → batch ≤ unsigned_abs (l +ℤ amount) → Locks j locking
      → IsAdd batch own j amount
      (LoadL j own l ∷ (locking ++ TakeL j own v ∷ AddC j (v +ℤ amount) ∷ Unlock j ∷ []))

-- the local part of a CPU moves to the shared part (`percpu_counter_sync`, and for each counter
-- `percpu_counter_cpu_dead`)
pub data IsSync (cpu : CpuId) (j : PcpuId) : List PcpuStep → Type 0 where
  moved : (v : ℤ) (locking : List PcpuStep) → Locks j locking
      → IsSync cpu j (locking ++ TakeL j cpu v ∷ AddC j v ∷ Unlock j ∷ [])

-- the local parts of a dead CPU move to the shared parts of the first n counters, in ascending order
pub data IsFoldDead (dead : CpuId) : ℕ → List PcpuStep → Type 0 where
  no_counter : IsFoldDead dead 0 []
  one_counter : (n : ℕ) (front back : List PcpuStep) → IsFoldDead dead n front
      → IsSync dead (record { number = n }) back → IsFoldDead dead (suc n) (front ++ back)

-- the local parts of these CPUs are loaded, and this is their sum
pub data LoadsEach (j : PcpuId) : List CpuId → List PcpuStep → ℤ → Type 0 where
  no_cpu : LoadsEach j [] [] (pos 0)
  one_cpu : (c : CpuId) (d : ℤ) (cpus : List CpuId) (steps : List PcpuStep) (sum : ℤ) → LoadsEach j cpus steps sum
      → LoadsEach j (c ∷ cpus) (LoadL j c d ∷ steps) (d +ℤ sum)

-- under the lock, the shared part and the local parts of these CPUs are loaded, and their sum is answered
-- (`__percpu_counter_sum`)
pub data IsSum (cpus : List CpuId) (j : PcpuId) : List PcpuStep → ℤ → Type 0 where
  summed : (v sum : ℤ) (locking loads : List PcpuStep) → Locks j locking → LoadsEach j cpus loads sum
      → IsSum cpus j (locking ++ LoadC j v ∷ (loads ++ Unlock j ∷ [])) (v +ℤ sum)

-- 1, 0 or -1
abbrev pub sign_of : ℤ → ℤ
sign_of (pos zero) = pos 0
sign_of (pos (suc n)) = pos 1
sign_of (negsuc n) = negsuc 0

-- the shared part alone decides where it is further off than the local parts may hide, and else the sum
-- (`__percpu_counter_compare`)
pub data IsCompare (unknown : ℕ) (cpus : List CpuId) (j : PcpuId) (rhs : ℤ) : List PcpuStep → Compare → Type 0 where
  far : (v : ℤ) → unknown < unsigned_abs (v -ℤ rhs)
      → IsCompare unknown cpus j rhs (LoadC j v ∷ []) (record { sign = sign_of (v -ℤ rhs); rough = true })
  near : (v sum : ℤ) (steps : List PcpuStep) → unsigned_abs (v -ℤ rhs) ≤ unknown → IsSum cpus j steps sum
      → IsCompare unknown cpus j rhs (LoadC j v ∷ steps) (record { sign = sign_of (sum -ℤ rhs); rough = false })

-- how far a value is from the limit, on the side on which a limited addition of this amount may stay: the limit is the
-- most for a positive amount, and the least for a negative one
abbrev pub room : ℤ → ℤ → ℤ → ℤ
room limit amount value = if int_lt (pos 0) amount then limit -ℤ value else value -ℤ limit

-- what a limited addition finds without the lock: that its CPU or the limit leaves no room for that
pub data Probes (batch unknown : ℕ) (limit : ℤ) (own : CpuId) (j : PcpuId) (amount : ℤ) : List PcpuStep → Type 0 where
  large : (l : ℤ) → batch < unsigned_abs (l +ℤ amount) → Probes batch unknown limit own j amount (LoadL j own l ∷ [])
  narrow : (l v : ℤ) → unsigned_abs (l +ℤ amount) ≤ batch → room limit amount v <ℤ pos unknown
      → Probes batch unknown limit own j amount (LoadL j own l ∷ LoadC j v ∷ [])

-- what is loaded under the lock after the shared part, to which the amount is added here, and the verdict: without the
-- local parts where what they may hide doesn't matter, and else with them
pub data Judges (unknown : ℕ) (limit : ℤ) (cpus : List CpuId) (j : PcpuId) (amount value : ℤ)
    : List PcpuStep → Bool → Type 0 where
  beyond : (room limit amount value +ℤ pos unknown) <ℤ pos 0 → Judges unknown limit cpus j amount value [] false
  inside : pos unknown ≤ℤ room limit amount value → Judges unknown limit cpus j amount value [] true
  close : (loads : List PcpuStep) (sum : ℤ) → pos 0 ≤ℤ (room limit amount value +ℤ pos unknown)
      → room limit amount value <ℤ pos unknown → LoadsEach j cpus loads sum
      → Judges unknown limit cpus j amount value loads (int_le (pos 0) (room limit amount (value +ℤ sum)))

-- how a limited addition ends under the lock: on yes the own local part moves to the shared part together with the
-- amount, on no nothing changes
pub data EndsLimitedAdd (own : CpuId) (j : PcpuId) (amount : ℤ) : Bool → List PcpuStep → Type 0 where
  yes_ends : (u : ℤ) → EndsLimitedAdd own j amount true (TakeL j own u ∷ AddC j (u +ℤ amount) ∷ Unlock j ∷ [])
  no_ends : EndsLimitedAdd own j amount false (Unlock j ∷ [])

-- an addition that keeps a limit, so far as it sees; no counterpart in Linux 6.1
pub data IsLimitedAdd (batch unknown : ℕ) (cpus : List CpuId) (own : CpuId) (j : PcpuId) (limit amount : ℤ)
    : List PcpuStep → Bool → Type 0 where
  nothing : amount ≡ pos 0 → IsLimitedAdd batch unknown cpus own j limit amount [] true
  unlocked : (l v : ℤ) → amount ≢ pos 0 → unsigned_abs (l +ℤ amount) ≤ batch → pos unknown ≤ℤ room limit amount v
      → IsLimitedAdd batch unknown cpus own j limit amount (LoadL j own l ∷ LoadC j v ∷ AddL j amount ∷ []) true
  locked : (v : ℤ) (answer : Bool) (probing locking loads ending : List PcpuStep) → amount ≢ pos 0
      → Probes batch unknown limit own j amount probing → Locks j locking
      → Judges unknown limit cpus j amount (v +ℤ amount) loads answer → EndsLimitedAdd own j amount answer ending
      → IsLimitedAdd batch unknown cpus own j limit amount (probing ++ locking ++ LoadC j v ∷ (loads ++ ending)) answer
