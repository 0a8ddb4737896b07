-- For other crates too: the steps of a read, a sum and a comparison that meet no other caller.
use Rattle.std.proofs.Common.{◌≡◌, ℕ, zero, suc, ◌<◌, ◌≤◌, true, false, List, [], ◌∷◌, ◌++◌, Option, refl, sym, subst}
use Rattle.std.proofs.Common.{arith, ℤ, pos, negsuc, ◌+ℤ◌, ◌-ℤ◌, unsigned_abs}
use Rattle.std.proofs.lemmas.Int.{ints}
use Rattle.vms_history.specs.Common.{CpuId, PcpuId, CpuState, present_from}
use Rattle.vms_pcpu_core.specs.declared.states.PcpuState.{PcpuState}
use Rattle.vms_pcpu_core.specs.declared.steps.PcpuStep.{PcpuStep}
use Rattle.vms_pcpu_core.specs.declared.steps.PcpuStep.TheVariants.{Won, LoadL, LoadC, Unlock}
use Rattle.vms_pcpu_core.specs.Common.{IsCompare, IsRead, IsSum, LoadsEach, sign_of, far, near, summed, no_cpu, one_cpu}
use Rattle.vms_pcpu_core.specs.Common.{won, LockedState, count_at, local_at}
use Rattle.vms_plain_pcpu.specs.Common.{LeadsAlone, under_free_locks, locals_over, total_in}
use Rattle.vms_plain_pcpu.proofs.StepsAlone.{LeadsAlone-append, LeadsAlone-cons, LeadsAlone-none, LeadsAlone-unlock}
use Rattle.vms_plain_pcpu.proofs.StepsAlone.{LeadsAlone-won, under_lock}

-- the loads of the local parts of these CPUs
abbrev pub loads_of : PcpuState → PcpuId → List CpuId → List PcpuStep
loads_of s j [] = []
loads_of s j (c ∷ cpus) = LoadL j c (local_at s c.number j.number) ∷ loads_of s j cpus

pub LoadsEach-loads_of : (s : PcpuState) (j : PcpuId) (cpus : List CpuId)
    → LoadsEach j cpus (loads_of s j cpus) (locals_over s j.number cpus)
LoadsEach-loads_of s j [] = no_cpu
LoadsEach-loads_of s j (c ∷ cpus) =
    one_cpu c (local_at s c.number j.number) cpus (loads_of s j cpus) (locals_over s j.number cpus)
    (LoadsEach-loads_of s j cpus)

pub LeadsAlone-loads_of : (who : Option CpuId) (t : LockedState) (j : PcpuId) (cpus : List CpuId)
    → LeadsAlone who (loads_of t.numbers j cpus) t t
LeadsAlone-loads_of who t j [] = LeadsAlone-none who t
LeadsAlone-loads_of who t j (c ∷ cpus) =
    LeadsAlone-cons who (LoadL j c (local_at t.numbers c.number j.number)) (loads_of t.numbers j cpus) t t refl tt
    (LeadsAlone-loads_of who t j cpus)

module _ (who : Option CpuId) (s : PcpuState) (j : PcpuId) where
  abbrev t : LockedState
  t = under_free_locks s

  pub IsRead-alone : (answer : ℤ) → answer ≡ count_at s j.number
      → (steps : List PcpuStep) × IsRead j steps answer × LeadsAlone who steps t t
  IsRead-alone answer is = (
    LoadC j answer ∷ [],
    refl,
    LeadsAlone-cons who (LoadC j answer) [] t t (sym is) tt (LeadsAlone-none who t),
  )

  module _ (cpus : List CpuId) where
    abbrev loads : List PcpuStep
    loads = loads_of s j cpus

    abbrev sum_steps : List PcpuStep
    sum_steps = Won j ∷ LoadC j (count_at s j.number) ∷ (loads ++ Unlock j ∷ [])

    pub LeadsAlone-sum : LeadsAlone who sum_steps t t
    LeadsAlone-sum =
        LeadsAlone-won who s j (LoadC j (count_at s j.number) ∷ (loads ++ Unlock j ∷ [])) t
        (LeadsAlone-cons who (LoadC j (count_at s j.number)) (loads ++ Unlock j ∷ []) (under_lock s j.number) t refl tt
        (LeadsAlone-append who loads (Unlock j ∷ []) (under_lock s j.number) (under_lock s j.number) t
        (LeadsAlone-loads_of who (under_lock s j.number) j cpus) (LeadsAlone-unlock who s j)))

    pub IsSum-sum : IsSum cpus j sum_steps (count_at s j.number +ℤ locals_over s j.number cpus)
    IsSum-sum = summed (count_at s j.number) (locals_over s j.number cpus) (Won j ∷ []) loads won
        (LoadsEach-loads_of s j cpus)

  pub IsSum-alone : (states : List CpuState) (answer : ℤ) → answer ≡ total_in s states j.number
      → (steps : List PcpuStep) × IsSum (present_from 0 states) j steps answer × LeadsAlone who steps t t
  IsSum-alone states answer is = (
    sum_steps (present_from 0 states),
    subst (IsSum (present_from 0 states) j (sum_steps (present_from 0 states))) (sym is)
        (IsSum-sum (present_from 0 states)),
    LeadsAlone-sum (present_from 0 states),
  )

  module _ (unknown : ℕ) (cpus : List CpuId) (rhs : ℤ) where
    pub IsCompare-far : unknown < unsigned_abs (count_at s j.number -ℤ rhs)
        → (steps : List PcpuStep) × IsCompare unknown cpus j rhs steps
        (record { sign = sign_of (count_at s j.number -ℤ rhs); rough = true })
        × LeadsAlone who steps t t
    IsCompare-far off = (
      LoadC j (count_at s j.number) ∷ [],
      far (count_at s j.number) off,
      LeadsAlone-cons who (LoadC j (count_at s j.number)) [] t t refl tt (LeadsAlone-none who t),
    )

    pub IsCompare-near : unsigned_abs (count_at s j.number -ℤ rhs) ≤ unknown
        → (steps : List PcpuStep) × IsCompare unknown cpus j rhs steps
        (record { sign = sign_of ((count_at s j.number +ℤ locals_over s j.number cpus) -ℤ rhs); rough = false })
        × LeadsAlone who steps t t
    IsCompare-near close = (
      LoadC j (count_at s j.number) ∷ sum_steps cpus,
      near (count_at s j.number) (count_at s j.number +ℤ locals_over s j.number cpus) (sum_steps cpus) close
          (IsSum-sum cpus),
      LeadsAlone-cons who (LoadC j (count_at s j.number)) (sum_steps cpus) t t refl tt (LeadsAlone-sum cpus),
    )

-- numbers that are further off from 0 than they differ have one sign
pub sign_of-same : (x y : ℤ) (u : ℕ) → u < unsigned_abs x → unsigned_abs (y -ℤ x) ≤ u → sign_of x ≡ sign_of y
sign_of-same (pos zero) y u off differ = absurd (omega (arith, ints))
sign_of-same (pos (suc n)) (pos zero) u off differ = absurd (omega (arith, ints))
sign_of-same (pos (suc n)) (pos (suc m)) u off differ = refl
sign_of-same (pos (suc n)) (negsuc m) u off differ = absurd (omega (arith, ints))
sign_of-same (negsuc n) (pos m) u off differ = absurd (omega (arith, ints))
sign_of-same (negsuc n) (negsuc m) u off differ = refl
