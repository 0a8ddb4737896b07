-- When a call may be made of plain words, and what it makes of them.
use Rattle.std.specs.Prelude.{◌≡◌, ◌≢◌, ℕ, ◌+◌, ◌^◌, ◌<◌, ◌≤◌, List, length, Option, Some, None}
use Rattle.vms_history.specs.Common.{CpuId, EventId, CpuState, Online, Dead, online_from, state_at}
use Rattle.vms_event_core.specs.declared.call_values.EventAnswer.{EventAnswer}
use Rattle.vms_event_core.specs.declared.call_values.EventAnswer.TheVariants.{Done, Total}
use Rattle.vms_event_core.specs.declared.call_values.EventCall.{EventCall}
use Rattle.vms_event_core.specs.declared.call_values.EventCall.TheVariants.{Count, Sum, FoldDead}
use Rattle.vms_event_core.specs.declared.states.EventState.{EventState}
use Rattle.vms_event_core.specs.Common.{sum_over, IsEvent, with_word, word_at}
use Rattle.vms_plain_events.specs.PlainWords.{HasWords, MovesWords}

-- a CPU counts an event, and its word has room for that
pub record FitsCount (owner : Option CpuId) (k : EventId) (n : ℕ) (s : EventState) : Type 0 where
  pub cpu : CpuId
  pub owns : owner ≡ Some cpu
  pub word : HasWords s (cpu.number + 1)
  pub event : IsEvent k.number
  pub room : word_at s cpu.number k.number + n < 2 ^ 64

-- an event is summed up over CPUs in these states, and a number has room for the sum
pub record FitsSum (states : List CpuState) (k : EventId) (s : EventState) : Type 0 where
  pub words : HasWords s (length states)
  pub few : length states ≤ 128
  pub event : IsEvent k.number
  pub room : sum_over s k.number (online_from 0 states) < 2 ^ 64

-- a dead CPU is folded where another is online, and each word has room for what moves
pub record FitsFold (states : List CpuState) (owner : Option CpuId) (dead : CpuId) (s : EventState) : Type 0 where
  pub control : owner ≡ None
  pub is_dead : state_at states dead.number ≡ Dead
  pub some_online : (c : ℕ) × (c < length states) × (state_at states c ≡ Online)
  pub words : HasWords s (length states)
  pub few : length states ≤ 128
  pub room : (c k : ℕ) → c < length states → IsEvent k → word_at s c k < 2 ^ 62

-- a caller that owns this CPU, or none, may make a call of these words, with CPUs in these states
abbrev pub FitsCall : List CpuState → Option CpuId → EventCall → EventState → Type 0
FitsCall states owner (Count k n) s = FitsCount owner k n s
FitsCall states owner (Sum k) s = FitsSum states k s
FitsCall states owner (FoldDead c) s = FitsFold states owner c s

-- a count grows the word of its CPU
pub record Counts (owner : Option CpuId) (k : EventId) (n : ℕ) (s next : EventState) : Type 0 where
  pub cpu : CpuId
  pub owns : owner ≡ Some cpu
  pub grows : next ≡ with_word s cpu.number k.number (word_at s cpu.number k.number + n)

-- a fold moves the words of a CPU to the lowest-numbered CPU that is online
pub record Folds (states : List CpuState) (dead : CpuId) (s next : EventState) : Type 0 where
  pub into : CpuId
  pub online : state_at states into.number ≡ Online
  pub lowest : (b : ℕ) → b < into.number → state_at states b ≢ Online
  pub moves : MovesWords dead.number into.number s next

-- what a call makes of the words, and its answer
abbrev pub MakesCall : List CpuState → Option CpuId → EventCall → EventState → EventState → EventAnswer → Type 0
MakesCall states owner (Count k n) s next answer = (answer ≡ Done) × Counts owner k n s next
MakesCall states owner (Sum k) s next answer =
    (answer ≡ Total (sum_over s k.number (online_from 0 states))) × (next ≡ s)
MakesCall states owner (FoldDead c) s next answer = (answer ≡ Done) × Folds states c s next
