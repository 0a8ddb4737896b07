-- The steps that each call makes, oldest first, and what is read off them: its answer, and the steps after the call's.
use Rattle.std.specs.Prelude.{◌≡◌, ℕ, suc, zero, ◌+◌, ◌≤◌, nat_eq, List, [], ◌∷◌, ◌++◌, length, sum, if◌then◌else◌}
use Rattle.vms_history.specs.Common.{CpuId, EventId, online_from}
use Rattle.vms_event_core.specs.declared.call_values.EventAnswer.{EventAnswer}
use Rattle.vms_event_core.specs.declared.call_values.EventAnswer.TheVariants.{Done, Total}
use Rattle.vms_event_core.specs.declared.call_values.EventCall.{EventCall}
use Rattle.vms_event_core.specs.declared.call_values.EventCall.TheVariants.{Count, Sum, FoldDead}
use Rattle.vms_event_core.specs.declared.states.EventState.{EventState}
use Rattle.vms_event_core.specs.declared.steps.EventFacts.{EventFacts}
use Rattle.vms_event_core.specs.declared.steps.EventStep.{EventStep}
use Rattle.vms_event_core.specs.declared.steps.EventStep.TheVariants.{AddE, LoadE, TakeE, AddF}
use Rattle.vms_event_core.specs.Bases.{IsLowestOnline}
use Rattle.vms_event_core.specs.Words.{IsEvent, event_count, word_at}

-- the CPUs that are online, in ascending order
abbrev pub online_cpus : EventFacts → List CpuId
online_cpus facts = online_from 0 facts.cpus

-- a count of an event by its own CPU
pub record IsCount (k : EventId) (n : ℕ) (steps : List EventStep) : Type 0 where
  pub in_order : steps ≡ AddE k n ∷ []

-- the steps after a count
abbrev pub read_event : List EventStep → List EventStep
read_event (AddE k n ∷ steps) = steps
read_event steps = steps

-- loads of the words of these CPUs, which found these numbers
abbrev pub loads : EventId → List CpuId → List ℕ → List EventStep
loads k (c ∷ cpus) (v ∷ found) = LoadE c k v ∷ loads k cpus found
loads k _ _ = []

-- the sum of an event over these CPUs, each word loaded at its own step
pub record IsAllEvents (cpus : List CpuId) (k : EventId) (found : List ℕ) (steps : List EventStep)
    (answer : ℕ) : Type 0 where
  pub one_each : length found ≡ length cpus
  pub in_order : steps ≡ loads k cpus found
  pub adds_up : answer ≡ sum found

-- the sum that so many loads found
abbrev pub read_all_events : ℕ → List EventStep → ℕ × List EventStep
read_all_events (suc n) (LoadE c k v ∷ steps) = (v + (read_all_events n steps).0, (read_all_events n steps).1)
read_all_events n steps = (0, steps)

-- one event of a CPU is folded into another CPU's word: what was found is added there, unless it is 0
abbrev pub moves : CpuId → CpuId → ℕ → ℕ → List EventStep
moves from into k zero = TakeE from (record { number = k }) 0 ∷ []
moves from into k (suc v) = TakeE from (record { number = k }) (suc v) ∷ AddF into (record { number = k }) (suc v) ∷ []

-- the events from k on, in ascending order, of which these numbers were found
abbrev pub folds : CpuId → CpuId → ℕ → List ℕ → List EventStep
folds from into k [] = []
folds from into k (v ∷ found) = moves from into k v ++ folds from into (suc k) found

-- every event of a CPU is folded into the word of another
pub record IsFoldEvents (from into : CpuId) (found : List ℕ) (steps : List EventStep) : Type 0 where
  pub one_each : length found ≡ event_count
  pub in_order : steps ≡ folds from into 0 found

-- what a fold of so many events found
abbrev pub read_fold_events : ℕ → List EventStep → List ℕ × List EventStep
read_fold_events (suc n) (TakeE c k zero ∷ steps) = (0 ∷ (read_fold_events n steps).0, (read_fold_events n steps).1)
read_fold_events (suc n) (TakeE c k (suc v) ∷ AddF d l a ∷ steps) =
    (suc v ∷ (read_fold_events n steps).0, (read_fold_events n steps).1)
read_fold_events n steps = ([], steps)

-- the steps of each call with what it answers: a sum is over the CPUs that are online, and a dead CPU is folded into
-- the lowest-numbered of them
abbrev pub IsEventCall : EventFacts → EventCall → List EventStep → EventAnswer → Type 0
IsEventCall facts (Count k n) steps Done = IsCount k n steps
IsEventCall facts (Sum k) steps (Total answer) =
    (found : List ℕ) × IsAllEvents (online_cpus facts) k found steps answer
IsEventCall facts (FoldDead c) steps Done =
    (into : CpuId) × (found : List ℕ) × IsLowestOnline facts into.number × IsFoldEvents c into found steps
IsEventCall facts _ steps _ = ⊥

-- what the steps of a call answer, and the steps after them
abbrev pub read_event_call : EventFacts → EventCall → List EventStep → EventAnswer × List EventStep
read_event_call facts (Count k n) steps = (Done, read_event steps)
read_event_call facts (Sum k) steps = (
  Total (read_all_events (length (online_cpus facts)) steps).0,
  (read_all_events (length (online_cpus facts)) steps).1,
)
read_event_call facts (FoldDead c) steps = (Done, (read_fold_events event_count steps).1)

-- what a call spends of its CPU's volume on event l: a count its number, on its own event alone
abbrev pub event_spent : EventCall → ℕ → ℕ
event_spent (Count k n) l = if nat_eq k.number l then n else 0
event_spent _ l = 0

-- a call that a pass which owns a CPU may make: a CPU is folded by the control pass alone
abbrev pub IsCpuCall : EventCall → Type 0
IsCpuCall (Count k n) = IsEvent k.number
IsCpuCall (Sum k) = IsEvent k.number
IsCpuCall (FoldDead c) = ⊥

-- each of these numbers is at most the word of its CPU
abbrev pub AtMostStands : EventState → ℕ → List CpuId → List ℕ → Type 0
AtMostStands s k (c ∷ cpus) (v ∷ found) = (v ≤ word_at s c.number k) × AtMostStands s k cpus found
AtMostStands s k _ _ = Unit {0}

-- the words of these CPUs for an event, in sum
abbrev pub sum_over : EventState → ℕ → List CpuId → ℕ
sum_over s k [] = 0
sum_over s k (c ∷ cpus) = word_at s c.number k + sum_over s k cpus
