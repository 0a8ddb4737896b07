-- What the answer of each call on the event counters tells of their true totals.
use Rattle.std.specs.Prelude.{◌≡◌, ℕ, ◌≤◌, ℤ, pos, ◌+ℤ◌, ◌-ℤ◌, ◌≤ℤ◌, List, ◌∷◌, if◌then◌else◌}
use Rattle.vms_base.specs.declared.ids.EventId.{EventId}
use Rattle.vms_event_core.specs.declared.call_values.EventAnswer.TheVariants as answer
use Rattle.vms_event_core.specs.declared.call_values.EventCall.TheVariants as call
use Rattle.vms_event_core.specs.declared.steps.EventStep.TheVariants.{LoadE}
use Rattle.vms_event_core.specs.Events.{History, IsLegal, carried_by_all, state_after, true_total}
use Rattle.vms_near.specs.InFlight.{is_dead}
use Rattle.vms_world.specs.Common.{CpuId, CpuState, EventAnswer, EventCall, EventFacts, EventState, EventStep, Extends}
use Rattle.vms_world.specs.Common.{IsEventCall, Shape, after, online_cpus, own, state_at, sum_below, sum_over, word_at}

-- the word of CPU c for event k where the CPU is dead, and 0 of any other
abbrev pub dead_word : List CpuState → EventState → ℕ → ℕ → ℤ
dead_word states s k c = if is_dead (state_at states c) then pos (word_at s c k) else pos 0

-- what the CPUs that are dead hold of event k
abbrev pub held_by_dead : Shape → List CpuState → EventState → ℕ → ℤ
held_by_dead shape states s k = sum_below (dead_word states s k) shape.cpus

-- what the words of the CPUs that are online lack of the true total of event k: what dead CPUs hold, and what a fold of
-- a dead CPU carries
abbrev pub left_out : EventFacts → History → ℕ → ℤ
left_out facts h k = held_by_dead facts.layout facts.cpus (state_after facts h) k +ℤ carried_by_all h k

-- between these histories caller p loaded a word of event k when `moment` was the whole history
pub record LoadsAt (later earlier : History) (p : ℕ) (k : EventId) (moment : History) : Type 0 where
  pub cpu : CpuId
  pub found : ℕ
  pub begins : Extends moment earlier
  pub until : Extends later (record { caller = p; step = LoadE cpu k found } ∷ moment)

-- what is left out at a moment is at least 0, and at most what dead CPUs held when the history began
pub record LacksLittle (facts : EventFacts) (moment : History) (k : ℕ) : Type 0 where
  pub least : pos 0 ≤ℤ left_out facts moment k
  pub most : left_out facts moment k ≤ℤ held_by_dead facts.layout facts.cpus facts.base k

-- a sum of event k that caller p made between these histories: its first load when `first` was the whole history, and
-- its last one when `last` was. Whatever others counted and folded meanwhile, the sum is at least what the words of the
-- CPUs that are online came to at the first load, and at most what they came to at the last. So it is at least the true
-- total at the first load less what was left out then, and at most the true total at the last load less what was left
-- out then.
pub record EventSumIsTrue (facts : EventFacts) (later earlier : History) (p : ℕ) (k : EventId) (sum : ℕ) : Type 0 where
  pub first : History
  pub last : History
  pub first_load : LoadsAt later earlier p k first
  pub last_load : LoadsAt later first p k last
  pub none_before : own first p ≡ own earlier p
  pub none_after : own later p ≡ record { caller = p; step = LoadE last_load.cpu k last_load.found } ∷ own last p
  pub words_least : sum_over (state_after facts first) k.number (online_cpus facts) ≤ sum
  pub words_most : sum ≤ sum_over (state_after facts last) k.number (online_cpus facts)
  pub least : (true_total facts first k.number -ℤ left_out facts first k.number) ≤ℤ pos sum
  pub most : pos sum ≤ℤ (true_total facts last k.number -ℤ left_out facts last k.number)
  pub lacks_first : LacksLittle facts first k.number
  pub lacks_last : LacksLittle facts last k.number

-- what a call answers that caller p made between these histories. A call that answers that it is made tells nothing.
abbrev pub EventAnswerIsTrue : EventFacts → (later earlier : History) → ℕ → EventCall → EventAnswer → Type 0
EventAnswerIsTrue facts later earlier p (call.Sum k) (answer.Total sum) = EventSumIsTrue facts later earlier p k sum
EventAnswerIsTrue facts later earlier p (call.Count k n) answer.Done = Unit {0}
EventAnswerIsTrue facts later earlier p (call.FoldDead dead) answer.Done = Unit {0}
EventAnswerIsTrue facts later earlier p _ _ = ⊥

-- this holds of every call whose steps a caller made between two histories, whatever others did meanwhile
abbrev pub EventCallsAnswerTruly : Type 0
EventCallsAnswerTruly = (facts : EventFacts) (asked : EventCall) (p : ℕ) (later earlier : History)
    (steps : List EventStep) (told : EventAnswer) → IsEventCall facts asked steps told → IsLegal facts later →
    Extends later earlier → own later p ≡ after p steps (own earlier p) →
    EventAnswerIsTrue facts later earlier p asked told
