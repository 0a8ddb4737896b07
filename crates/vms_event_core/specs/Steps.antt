-- What each kind of step does to the passes and to the words.
use Rattle.std.specs.Prelude.{◌+◌, Option, Some, None}
use Rattle.vms_history.specs.Common.{CpuId, Role, Works, Begins, Ends}
use Rattle.vms_event_core.specs.declared.states.EventState.{EventState}
use Rattle.vms_event_core.specs.declared.steps.EventFacts.{EventFacts}
use Rattle.vms_event_core.specs.declared.steps.EventStep.{EventStep}
use Rattle.vms_event_core.specs.declared.steps.EventStep.TheVariants.{AddE, TakeE, AddF, Split, Join}
use Rattle.vms_event_core.specs.Words.{word_at, with_word}

-- a Split begins a pass and a Join ends one
abbrev pub role : EventStep → Role
role (Split q who) = Begins q who
role (Join q) = Ends q
role _ = Works

-- the words after a step of a pass that owns a CPU: a count grows the own word
abbrev pub own_effect : CpuId → EventStep → EventState → EventState
own_effect c (AddE k n) s = with_word s c.number k.number (word_at s c.number k.number + n)
own_effect c _ s = s

-- the words after a step that needs no CPU of its own: a take leaves 0, and what is carried grows the word that it is
-- added to
abbrev pub effect_of : EventStep → EventState → EventState
effect_of (TakeE c k v) s = with_word s c.number k.number 0
effect_of (AddF c k v) s = with_word s c.number k.number (word_at s c.number k.number + v)
effect_of _ s = s

-- the words after a step: every kind that isn't named above leaves them
abbrev pub effect : EventFacts → Option CpuId → EventStep → EventState → EventState
effect facts None step s = effect_of step s
effect facts (Some c) step s = own_effect c step (effect_of step s)
