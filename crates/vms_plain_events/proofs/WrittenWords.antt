-- What stands in the words after one of them was written.
use Rattle.std.proofs.Common.{◌≡◌, ℕ, ◌+◌, ◌<◌, length, arith, get_or-set_same, get_or-set_other, length-set}
use Rattle.vms_history.specs.Common.{cell}
use Rattle.vms_base.proofs.Common.{cell-injective}
use Rattle.vms_event_core.specs.declared.states.EventState.{EventState}
use Rattle.vms_event_core.specs.Common.{IsEvent, event_count, with_word, word_at}
use Rattle.vms_plain_events.specs.Common.{HasWords}

-- the word of a CPU stands in the list
pub cell-in : (s : EventState) (c k : ℕ) → HasWords s (c + 1) → IsEvent k → cell event_count c k < length s.words
cell-in s c k has k_in = omega arith

pub HasWords-with_word : (s : EventState) (n c k v : ℕ) → HasWords s n → HasWords (with_word s c k v) n
HasWords-with_word s n c k v has = omega (arith, length-set s.words (cell event_count c k) v)

pub word_at-written : (s : EventState) (c k v : ℕ) → HasWords s (c + 1) → IsEvent k
    → word_at (with_word s c k v) c k ≡ v
word_at-written s c k v has k_in = get_or-set_same s.words (cell event_count c k) v 0 (cell-in s c k has k_in)

pub word_at-kept : (s : EventState) (c k v d l : ℕ) → IsEvent k → IsEvent l → (d ≡ c → l ≡ k → ⊥)
    → word_at (with_word s c k v) d l ≡ word_at s d l
word_at-kept s c k v d l k_in l_in differ =
    get_or-set_other s.words (cell event_count c k) (cell event_count d l) v 0 (λ same.
    let parts = cell-injective event_count d l c k l_in k_in same in differ parts.0 parts.1)
