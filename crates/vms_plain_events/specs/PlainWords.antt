-- Which words plain data has, and what a fold makes of them.
use Rattle.std.specs.Prelude.{◌≡◌, ◌≢◌, ℕ, ◌+◌, ◌*◌, ◌≤◌, length}
use Rattle.vms_event_core.specs.declared.states.EventState.{EventState}
use Rattle.vms_event_core.specs.Common.{IsEvent, event_count, with_word, word_at}

-- there is a word for each of n CPUs and each event
abbrev pub HasWords : EventState → ℕ → Type 0
HasWords s n = n * event_count ≤ length s.words

-- the word of CPU `from` for event k moves to that of CPU `into`
abbrev pub with_moved : (from into k : ℕ) → EventState → EventState
with_moved from into k s = with_word (with_word s from k 0) into k (word_at s into k + word_at s from k)

-- the words of CPU `from` have moved to those of CPU `into`, and all other words stay
pub record MovesWords (from into : ℕ) (s next : EventState) : Type 0 where
  pub one_each : length next.words ≡ length s.words
  pub taken : (k : ℕ) → IsEvent k → word_at next from k ≡ 0
  pub grown : (k : ℕ) → IsEvent k → word_at next into k ≡ word_at s into k + word_at s from k
  pub others : (c k : ℕ) → IsEvent k → c ≢ from → c ≢ into → word_at next c k ≡ word_at s c k
