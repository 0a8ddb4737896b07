-- What the calls of a handle on event counters make, and when they are refused.
use Rattle.std.specs.Prelude.{◌≡◌, ℕ, ◌+◌, ◌<◌, ◌≤◌, List, slice_index, slice_set}
use Rattle.vms_world.specs.Common.{EventStep, IsEvent, events, most_volume, online_cpus}
use Rattle.vms_base.specs.declared.ids.EventId.{EventId}
use Rattle.vms_event_core.specs.Calls.{IsAllEvents, IsCount}
use Rattle.vms_event_core.specs.CallLaws.{SumsBetween}
use Rattle.vms_seats.specs.Common.{Made}
use Rattle.vms_counters.specs.declared.errors.CallError.{CallError}
use Rattle.vms_counters.specs.declared.errors.CallError.TheVariants.{NoEvent, TooMuch}
use Rattle.vms_counters.specs.Handles.{EventHandle}

-- how often a handle's CPU has counted an event
abbrev pub counted_by : EventHandle → EventId → ℕ
counted_by handle k = slice_index handle.volume k.number

-- a handle counted an event so many times by the step of a count, and its volume grew by as much
pub record Counts (new old : EventHandle) (k : EventId) (times : ℕ) : Type 0 where
  pub event : IsEvent k.number
  pub affordable : counted_by old k + times ≤ most_volume
  pub steps : List EventStep
  pub is_count : IsCount k times steps
  pub made : Made events new.pass old.pass steps
  pub volume : new.volume ≡ slice_set old.volume k.number (counted_by old k + times)

-- why a count is refused, with the handle as it was: there is no such event, or the CPU would have counted it more
-- often than a run may
abbrev pub RefusesCount : EventHandle → EventHandle → EventId → ℕ → CallError → Type 0
RefusesCount new old k times (NoEvent n) = (n ≡ k.number) × (IsEvent k.number → ⊥) × (new ≡ old)
RefusesCount new old k times (TooMuch overflow) =
    (overflow ≡ record { volume = counted_by old k; size = times })
    × IsEvent k.number × (most_volume < counted_by old k + times) × (new ≡ old)
RefusesCount new old k times _ = ⊥

-- a handle summed an event up over the CPUs that are online, each word loaded at its own step, and its volumes stayed.
-- The sum lies between what these words were in sum when the call began and what they were when it ended
pub record SumsEvent (new old : EventHandle) (k : EventId) (sum : ℕ) : Type 0 where
  pub event : IsEvent k.number
  pub found : List ℕ
  pub steps : List EventStep
  pub is_sum : IsAllEvents (online_cpus old.pass.facts) k found steps sum
  pub made : Made events new.pass old.pass steps
  pub between : SumsBetween old.pass.facts new.pass.seen old.pass.seen k found sum
  pub volume : new.volume ≡ old.volume

-- why a sum is refused, with the handle as it was: there is no such event
abbrev pub RefusesSum : EventHandle → EventHandle → EventId → CallError → Type 0
RefusesSum new old k (NoEvent n) = (n ≡ k.number) × (IsEvent k.number → ⊥) × (new ≡ old)
RefusesSum new old k _ = ⊥
