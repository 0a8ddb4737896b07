-- The words that show a base, row by row, and what is read from the words of a last state.
use Rattle.std.proofs.Common.{◌≡◌, ℕ, ◌+◌, ◌-◌, ◌*◌, ◌<◌, ◌≤◌, ◌^◌, List, ◌++◌, length, replicate, take, drop, get_or}
use Rattle.std.proofs.Common.{slice_index, sym, ap, ◌∙◌, subst, arith}
use Rattle.vms_history.specs.Common.{IsLayout, cell}
use Rattle.vms_event_core.specs.declared.states.EventState.{EventState}
use Rattle.vms_event_core.specs.declared.steps.EventFacts.{EventFacts}
use Rattle.vms_event_core.specs.Common.{HasShape, event_count, word_at}
use Rattle.vms_rows.proofs.Common.{cells-same, length-part, length-rows_of, part-at, rows_of-more}
use Rattle.vms_rows.specs.Common.{gap, row_width}
use Rattle.vms_rows.specs.Rows.{rows_of}
use Rattle.vms_event.specs.SharedWords.{shown}
use Rattle.vms_event.proofs.ShownWords.{length-shown, shown-word}

-- the rows of the first CPUs
abbrev pub rows_before : EventState → ℕ → List ℕ
rows_before base cpu = rows_of event_count cpu (λ c k. word_at base c k)

-- a row more
pub opening-more : (base : EventState) (cpus cpu : ℕ) (counted words next : List ℕ)
    → length base.words ≡ cpus * event_count → cpu < cpus → counted ≡ base.words → words ≡ rows_before base cpu
    → next ≡ words ++ (take (cpu * event_count + event_count - cpu * event_count) (drop (cpu * event_count) counted)
    ++ replicate gap 0)
    → next ≡ rows_before base (cpu + 1)
opening-more base cpus cpu counted words next long cpu_in counted_is above is =
    is
    ∙ ap (λ (list : List ℕ). words
    ++ (take (cpu * event_count + event_count - cpu * event_count) (drop (cpu * event_count) list) ++ replicate gap 0))
    counted_is
    ∙ ap (λ list. list ++ (row ++ replicate gap 0)) above
    ∙ rows_of-more event_count (λ c k. word_at base c k) cpu row
    (length-part event_count cpus 0 base.words long cpu cpu_in) (part-at event_count cpus 0 base.words long cpu)
    ∙ ap (rows_before base) (omega arith)
  where
    row : List ℕ
    row = take (cpu * event_count + event_count - cpu * event_count) (drop (cpu * event_count) base.words)

-- a layout has some words, and not many
pub rows-some : (cpus : ℕ) → 1 ≤ cpus → (base : EventState) → 0 < length (rows_before base cpus)
rows-some cpus least base = omega (arith, least, length-rows_of event_count (λ c k. word_at base c k) cpus)

module _ (facts : EventFacts) (s : EventState) (layout : IsLayout facts.layout) (shaped : HasShape facts.layout s)
    (cpus width : ℕ) (cpus_is : cpus ≡ facts.layout.cpus) (width_is : width ≡ row_width event_count) where
  -- the words of a row are there
  pub row-within : (c : ℕ) → c < cpus → 0 + cell width c event_count ≤ length (shown facts s)
  row-within c c_in = subst (λ w. 0 + cell w c event_count ≤ length (shown facts s)) (sym width_is)
      (omega (arith, c_in, cpus_is, length-shown facts s))

  pub words-fit : length (shown facts s) < 2 ^ 64
  words-fit = omega (arith, layout.cpus_most, length-shown facts s)

  -- what is read from them is the last state
  pub words-read : (into : List ℕ) → length into ≡ length s.words
      → ((c k : ℕ) → c < cpus → k < event_count → (default : ℕ) → get_or into (cell event_count c k) default
      ≡ slice_index (shown facts s) (0 + cell width c k))
      → into ≡ s.words
  words-read into long each =
      cells-same event_count facts.layout.cpus 0 s.words shaped into long
      (λ c k c_in k_in. each c k (omega (arith, c_in, cpus_is)) k_in 0
      ∙ ap (λ w. slice_index (shown facts s) (0 + cell w c k)) width_is
      ∙ ap (slice_index (shown facts s)) (omega arith) ∙ shown-word facts s c k c_in k_in)
