-- A local part is taken and put into the shared part together with an amount, and the lock is given back.
use Rattle.std.proofs.Common.{◌≡◌, ◌+ℤ◌, ℤ, [], ◌∷◌, sym, subst}
use Rattle.vms_history.specs.Common.{CpuId, PcpuId}
use Rattle.vms_pcpu_core.specs.declared.steps.PcpuFacts.{PcpuFacts}
use Rattle.vms_pcpu_core.specs.declared.steps.PcpuStep.{PcpuStep}
use Rattle.vms_pcpu_core.specs.declared.steps.PcpuStep.TheVariants.{TakeL, AddC, Unlock}
use Rattle.vms_pcpu_core.specs.Common.{percpu, MayMake}
use Rattle.vms_pcpu.proofs.CallSteps.{may-front, may-rest}
use Rattle.vms_seats.specs.Common.{Pass, Made, MadeOne}
use Rattle.vms_seats.proofs.Common.{calls-next}

module _ (j : PcpuId) (cpu : CpuId) (amount : ℤ) (old : Pass PcpuFacts PcpuStep)
    (may : (v : ℤ) → MayMake old.facts old.number old.seen (TakeL j cpu v ∷ AddC j (v +ℤ amount) ∷ Unlock j ∷ []))
  where
    pub take-may : (v : ℤ) → MayMake old.facts old.number old.seen (TakeL j cpu v ∷ [])
    take-may v =
        may-front old.facts old.number old.seen (TakeL j cpu v ∷ []) (AddC j (v +ℤ amount) ∷ Unlock j ∷ []) (may v)

    module _ (v added : ℤ) (sum : added ≡ v +ℤ amount) (taken : Pass PcpuFacts PcpuStep)
        (take : MadeOne percpu taken old (TakeL j cpu v)) where
      rest-may : MayMake taken.facts taken.number taken.seen (AddC j added ∷ Unlock j ∷ [])
      rest-may = may-rest taken old (TakeL j cpu v ∷ []) (AddC j added ∷ Unlock j ∷ []) take.all
          (subst
          (λ (a : ℤ). MayMake old.facts old.number old.seen (TakeL j cpu v ∷ AddC j a ∷ Unlock j ∷ [])) (sym sum)
          (may v))

      pub add-may : MayMake taken.facts taken.number taken.seen (AddC j added ∷ [])
      add-may = may-front taken.facts taken.number taken.seen (AddC j added ∷ []) (Unlock j ∷ []) rest-may

      module _ (put : Pass PcpuFacts PcpuStep) (add : MadeOne percpu put taken (AddC j added)) where
        pub unlock-may : MayMake put.facts put.number put.seen (Unlock j ∷ [])
        unlock-may = may-rest put taken (AddC j added ∷ []) (Unlock j ∷ []) add.all rest-may

        pub moved : (new : Pass PcpuFacts PcpuStep) → MadeOne percpu new put (Unlock j)
            → Made percpu new old (TakeL j cpu v ∷ AddC j (v +ℤ amount) ∷ Unlock j ∷ [])
        moved new unlock = subst
            (λ (a : ℤ). Made percpu new old (TakeL j cpu v ∷ AddC j a ∷ Unlock j ∷ [])) sum
            (calls-next percpu new put old (TakeL j cpu v ∷ AddC j added ∷ []) (Unlock j) unlock
            (calls-next percpu put taken old (TakeL j cpu v ∷ []) (AddC j added) add take.all))
