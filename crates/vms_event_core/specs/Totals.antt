-- What a whole history counted, spent and took.
use Rattle.std.specs.Prelude.{ℕ, suc, zero, ◌+◌, nat_eq, ◌&&◌, ℤ, pos, List, [], ◌∷◌, if◌then◌else◌, Option, Some}
use Rattle.vms_history.specs.Common.{CpuId, owner_in}
use Rattle.vms_history.specs.declared.events.Event.{Event}
use Rattle.vms_event_core.specs.declared.steps.EventFacts.{EventFacts}
use Rattle.vms_event_core.specs.declared.steps.EventStep.{EventStep}
use Rattle.vms_event_core.specs.declared.steps.EventStep.TheVariants.{AddE, TakeE, AddF}
use Rattle.vms_event_core.specs.Steps.{role}
use Rattle.vms_event_core.specs.Words.{word_at}

-- what a step counts of event k
abbrev pub counted : ℕ → EventStep → ℤ
counted k (AddE l n) = if nat_eq l.number k then pos n else pos 0
counted k _ = pos 0

-- what a step takes out of the word of CPU c for event k
abbrev pub taken_from : ℕ → ℕ → EventStep → ℤ
taken_from c k (TakeE d l v) = if nat_eq d.number c && nat_eq l.number k then pos v else pos 0
taken_from c k _ = pos 0

-- how many takes found another number than 0 in the word of CPU c for event k
abbrev pub found_some : ℕ → ℕ
found_some zero = 0
found_some (suc v) = 1

abbrev pub takes_by : ℕ → ℕ → EventStep → ℕ
takes_by c k (TakeE d l v) = if nat_eq d.number c && nat_eq l.number k then found_some v else 0
takes_by c k _ = 0

abbrev pub takes : ℕ → ℕ → List (Event EventStep) → ℕ
takes c k [] = 0
takes c k (e ∷ h) = takes_by c k e.step + takes c k h

-- what a step of a pass that owns `who` spends of the volume of CPU c on event k
abbrev pub spent_by : Option CpuId → ℕ → ℕ → EventStep → ℕ
spent_by (Some d) c k (AddE l n) = if nat_eq d.number c && nat_eq l.number k then n else 0
spent_by _ c k _ = 0

-- what CPU c counted of event k
abbrev pub spent : List (Event EventStep) → ℕ → ℕ → ℕ
spent [] c k = 0
spent (e ∷ h) c k = spent_by (owner_in role h e.caller) c k e.step + spent h c k

-- the word of CPU c for event k after a step of a pass that owns `who`
abbrev pub word_after : Option CpuId → ℕ → ℕ → EventStep → ℕ → ℕ
word_after (Some d) c k (AddE l n) before = if nat_eq d.number c && nat_eq l.number k then before + n else before
word_after who c k (TakeE d l v) before = if nat_eq d.number c && nat_eq l.number k then 0 else before
word_after who c k (AddF d l v) before = if nat_eq d.number c && nat_eq l.number k then before + v else before
word_after who c k _ before = before

-- the word of CPU c for event k after the events of a history
abbrev pub word_in : EventFacts → List (Event EventStep) → ℕ → ℕ → ℕ
word_in facts [] c k = word_at facts.base c k
word_in facts (e ∷ h) c k = word_after (owner_in role h e.caller) c k e.step (word_in facts h c k)
