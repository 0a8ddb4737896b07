-- Where the words of the event counters stand, and what a write makes of them.
use Rattle.std.specs.Prelude.{◌≡◌, ℕ, ◌*◌, ◌<◌, ℤ, pos, length, slice_index_or, slice_set}
use Rattle.vms_history.specs.Common.{Shape, cell, sum_below}
use Rattle.vms_event_core.specs.declared.states.EventState.{EventState}

-- how many events are counted
abbrev pub event_count : ℕ
event_count = 8

-- the number of an event
abbrev pub IsEvent : ℕ → Type 0
IsEvent k = k < event_count

-- the word of a CPU for an event
abbrev pub word_at : EventState → ℕ → ℕ → ℕ
word_at s c k = slice_index_or s.words (cell event_count c k) 0

-- the state with one word changed
abbrev pub with_word : EventState → ℕ → ℕ → ℕ → EventState
with_word s c k v = record s { words = slice_set s.words (cell event_count c k) v }

-- there is a word for each CPU of the layout and each event
abbrev pub HasShape : Shape → EventState → Type 0
HasShape shape s = length s.words ≡ shape.cpus * event_count

-- the sum of the words of all CPUs for an event
abbrev pub sum_of_words : Shape → EventState → ℕ → ℤ
sum_of_words shape s k = sum_below (λ c. pos (word_at s c k)) shape.cpus
