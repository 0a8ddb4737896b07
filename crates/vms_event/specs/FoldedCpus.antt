-- What stands of a dead CPU once it was folded.
use Rattle.std.specs.Prelude.{◌≡◌, ℕ}
use Rattle.vms_history.specs.Common.{CpuId}
use Rattle.vms_event_core.specs.declared.steps.EventFacts.{EventFacts}
use Rattle.vms_event_core.specs.declared.steps.EventStep.{EventStep}
use Rattle.vms_event_core.specs.Common.{state_after, MovesOnce, IsEvent, word_at}
use Rattle.vms_seats.specs.Common.{Pass}

-- what a dead CPU had counted has moved, each word once, and no count is left
pub record HasFoldedDead (pass : Pass EventFacts EventStep) (dead : CpuId) : Type 0 where
  pub none_left : (k : ℕ) → IsEvent k → word_at (state_after pass.facts pass.seen) dead.number k ≡ 0
  pub moved_once : (k : ℕ) → IsEvent k → MovesOnce pass.facts pass.seen dead.number k
