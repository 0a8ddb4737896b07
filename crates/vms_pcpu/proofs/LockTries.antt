-- The lock of a counter is missed any number of times before it is won.
use Rattle.std.proofs.Common.{List, [], ◌∷◌, ◌++◌, sym, subst, append_assoc}
use Rattle.vms_history.specs.Common.{PcpuId}
use Rattle.vms_pcpu_core.specs.declared.steps.PcpuFacts.{PcpuFacts}
use Rattle.vms_pcpu_core.specs.declared.steps.PcpuStep.{PcpuStep}
use Rattle.vms_pcpu_core.specs.declared.steps.PcpuStep.TheVariants.{Won, Missed}
use Rattle.vms_pcpu_core.specs.Common.{Locks, won, missed, percpu}
use Rattle.vms_seats.specs.Common.{Pass, IsLive, Made, MadeOne}
use Rattle.vms_seats.proofs.Common.{calls-none, calls-next}

-- the tries so far, each of which found the lock held
pub record Tried (j : PcpuId) (now old : Pass PcpuFacts PcpuStep) : Type 0 where
  pub steps : List PcpuStep
  pub all_missed : (rest : List PcpuStep) → Locks j rest → Locks j (steps ++ rest)
  pub made : Made percpu now old steps

module _ (j : PcpuId) where
  pub tried-none : (pass : Pass PcpuFacts PcpuStep) → IsLive percpu pass → Tried j pass pass
  tried-none pass live =
      record { steps = []; all_missed = λ rest locks. locks; made = calls-none percpu pass live }

  pub tried-missed : (new now old : Pass PcpuFacts PcpuStep) → Tried j now old → MadeOne percpu new now (Missed j)
      → Tried j new old
  tried-missed new now old tried one = record {
    steps = tried.steps ++ Missed j ∷ [];
    all_missed = λ rest locks. subst (Locks j) (sym (append_assoc tried.steps (Missed j ∷ []) rest))
        (tried.all_missed (Missed j ∷ rest) (missed rest locks));
    made = calls-next percpu new now old tried.steps (Missed j) one tried.made;
  }

  pub tried-won : (new now old : Pass PcpuFacts PcpuStep) → Tried j now old → MadeOne percpu new now (Won j)
      → (steps : List PcpuStep) × Locks j steps × Made percpu new old steps
  tried-won new now old tried one = (
    tried.steps ++ Won j ∷ [],
    tried.all_missed (Won j ∷ []) won,
    calls-next percpu new now old tried.steps (Won j) one tried.made,
  )
