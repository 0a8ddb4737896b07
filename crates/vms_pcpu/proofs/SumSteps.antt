-- The steps of a sum and of a comparison may be made one after another.
use Rattle.std.proofs.Common.{◌≡◌, ◌≤◌, ◌<◌, ◌+ℤ◌, ◌-ℤ◌, ℤ, pos, negsuc, zero, suc, unsigned_abs, List, [], ◌∷◌, ◌++◌}
use Rattle.std.proofs.Common.{true, false, refl, sym, ap, subst, ◌∙◌, append_assoc, w8, to_z, of_z}
use Rattle.vms_history.specs.Common.{PcpuId}
use Rattle.vms_pcpu_core.specs.declared.steps.PcpuFacts.{PcpuFacts}
use Rattle.vms_pcpu_core.specs.declared.steps.PcpuStep.{PcpuStep}
use Rattle.vms_pcpu_core.specs.declared.steps.PcpuStep.TheVariants.{LoadC, Unlock}
use Rattle.vms_pcpu_core.specs.Common.{Locks, LoadsEach, IsSum, IsCompare, present_cpus, sign_of, unknown, summed, far}
use Rattle.vms_pcpu_core.specs.Common.{near, percpu, MayMake, MayCall, IsPcpu}
use Rattle.vms_pcpu_core.proofs.Common.{MakesSum-holds, read-adds}
use Rattle.vms_pcpu.proofs.CallSteps.{may-rest}
use Rattle.vms_pcpu.proofs.ReadyPasses.{calls-after}
use Rattle.vms_seats.specs.Common.{Pass, Made, MadeOne}
use Rattle.vms_seats.proofs.Common.{calls-both, calls-next}

-- under the lock the shared part and the local parts are loaded, and then the lock is given back
module _ (old : Pass PcpuFacts PcpuStep) (j : PcpuId) (may : MayCall old.facts old.seen old.number)
    (facts : PcpuFacts) (same : old.facts ≡ facts) (j_in : IsPcpu facts j.number)
    (locked : Pass PcpuFacts PcpuStep) (locking : List PcpuStep) (locks : Locks j locking)
    (lock : Made percpu locked old locking) (loaded : Pass PcpuFacts PcpuStep) (v : ℤ)
    (load : MadeOne percpu loaded locked (LoadC j v)) (last : Pass PcpuFacts PcpuStep) (loads : List PcpuStep) (sum : ℤ)
    (each : LoadsEach j (present_cpus facts) loads sum) (all : Made percpu last loaded loads) where
  front : Made percpu last old (locking ++ LoadC j v ∷ loads)
  front = calls-both percpu last locked old locking (LoadC j v ∷ loads)
      (calls-both percpu last loaded locked (LoadC j v ∷ []) loads all load.all) lock

  is_sum : IsSum (present_cpus facts) j (locking ++ LoadC j v ∷ (loads ++ Unlock j ∷ [])) (v +ℤ sum)
  is_sum = summed v sum locking loads locks each

  pub sum_unlock-may : MayMake last.facts last.number last.seen (Unlock j ∷ [])
  sum_unlock-may = may-rest last old (locking ++ LoadC j v ∷ loads) (Unlock j ∷ []) front
      (subst (MayMake old.facts old.number old.seen) (sym (append_assoc locking (LoadC j v ∷ loads) (Unlock j ∷ [])))
      (MakesSum-holds old.facts old.seen old.number j (locking ++ LoadC j v ∷ (loads ++ Unlock j ∷ [])) (v +ℤ sum) may
      (subst (λ (f : PcpuFacts). IsPcpu f j.number) (sym same) j_in)
      (subst (λ (f : PcpuFacts). IsSum (present_cpus f) j (locking ++ LoadC j v ∷ (loads ++ Unlock j ∷ [])) (v +ℤ sum))
      (sym same) is_sum)))

  pub sum-made : (new : Pass PcpuFacts PcpuStep) (answer : ℤ) → MadeOne percpu new last (Unlock j)
      → answer ≡ v +ℤ sum
      → (steps : List PcpuStep) × IsSum (present_cpus facts) j steps answer × Made percpu new old steps
  sum-made new answer unlock is = (
    locking ++ LoadC j v ∷ (loads ++ Unlock j ∷ []),
    subst (IsSum (present_cpus facts) j (locking ++ LoadC j v ∷ (loads ++ Unlock j ∷ []))) (sym is) is_sum,
    subst (Made percpu new old) (append_assoc locking (LoadC j v ∷ loads) (Unlock j ∷ []))
        (calls-next percpu new last old (locking ++ LoadC j v ∷ loads) (Unlock j) unlock front),
  )

-- a sign as a word of 8 bits
same_sign : (z : ℤ) → to_z w8 (of_z w8 (sign_of z)) ≡ sign_of z
same_sign (pos zero) = refl
same_sign (pos (suc n)) = refl
same_sign (negsuc n) = refl

pub passed-sign : (sign off exact : ℤ) → sign ≡ sign_of off → off ≡ exact → to_z w8 (of_z w8 sign) ≡ sign_of exact
passed-sign sign off exact is same =
    ap (λ (z : ℤ). to_z w8 (of_z w8 z)) is ∙ same_sign off ∙ ap sign_of same

-- a comparison begins with a load
module _ (old loaded : Pass PcpuFacts PcpuStep) (j : PcpuId) (v : ℤ) (load : MadeOne percpu loaded old (LoadC j v))
    (facts : PcpuFacts) (rhs : ℤ) where
  pub compare_sum-may : MayCall old.facts old.seen old.number → MayCall loaded.facts loaded.seen loaded.number
  compare_sum-may =
      calls-after loaded old j (pos 0) (LoadC j v ∷ []) load.all (read-adds j j (LoadC j v ∷ []) v refl)

  pub compared_far : unknown facts j.number < unsigned_abs (v -ℤ rhs) → (sign : ℤ) → sign ≡ sign_of (v -ℤ rhs)
      → (steps : List PcpuStep)
      × IsCompare (unknown facts j.number) (present_cpus facts) j rhs steps (record { sign = sign; rough = true })
      × Made percpu loaded old steps
  compared_far off sign is = (
    LoadC j v ∷ [],
    subst (λ (s : ℤ). IsCompare (unknown facts j.number) (present_cpus facts) j rhs (LoadC j v ∷ [])
        (record { sign = s; rough = true })) (sym is) (far v off),
    load.all,
  )

  pub compared_near : unsigned_abs (v -ℤ rhs) ≤ unknown facts j.number → (new : Pass PcpuFacts PcpuStep)
      (steps : List PcpuStep) (sum : ℤ) → IsSum (present_cpus facts) j steps sum → Made percpu new loaded steps
      → (sign : ℤ) → sign ≡ sign_of (sum -ℤ rhs)
      → (steps : List PcpuStep)
      × IsCompare (unknown facts j.number) (present_cpus facts) j rhs steps (record { sign = sign; rough = false })
      × Made percpu new old steps
  compared_near close new steps sum sums made sign is = (
    LoadC j v ∷ steps,
    subst (λ (s : ℤ). IsCompare (unknown facts j.number) (present_cpus facts) j rhs (LoadC j v ∷ steps)
        (record { sign = s; rough = false })) (sym is) (near v sum steps close sums),
    calls-both percpu new loaded old (LoadC j v ∷ []) steps made load.all,
  )
