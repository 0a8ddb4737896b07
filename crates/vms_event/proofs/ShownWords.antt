-- Which words show which numbers of a state, and that one number alone changes one word.
use Rattle.std.proofs.Common.{◌≡◌, ℕ, ◌*◌, length, slice_index, slice_set}
use Rattle.vms_history.specs.Common.{IsCpu}
use Rattle.vms_event_core.specs.declared.states.EventState.{EventState}
use Rattle.vms_event_core.specs.declared.steps.EventFacts.{EventFacts}
use Rattle.vms_event_core.specs.Common.{HasShape, IsEvent, event_count, with_word, word_at}
use Rattle.vms_rows.proofs.Common.{length-rows_of, rows_of-cell, rows_of-set}
use Rattle.vms_rows.specs.Common.{row_width}
use Rattle.vms_event.specs.SharedWords.{shown}
use Rattle.vms_event.specs.Common.{event_place}

module _ (facts : EventFacts) (s : EventState) where
  pub length-shown : length (shown facts s) ≡ facts.layout.cpus * row_width event_count
  length-shown = length-rows_of event_count (λ c k. word_at s c k) facts.layout.cpus

  pub shown-word : (c k : ℕ) → IsCpu facts.layout c → IsEvent k
      → slice_index (shown facts s) (event_place c k) ≡ word_at s c k
  shown-word c k = rows_of-cell event_count (λ d m. word_at s d m) facts.layout.cpus c k

  pub shown-with_word : HasShape facts.layout s → (c k : ℕ) → IsCpu facts.layout c → IsEvent k → (v : ℕ)
      → shown facts (with_word s c k v) ≡ slice_set (shown facts s) (event_place c k) v
  shown-with_word shaped c k c_in k_in v =
      rows_of-set event_count facts.layout.cpus (λ word. word) 0 s.words c k v shaped c_in k_in
