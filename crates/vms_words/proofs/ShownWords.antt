-- What the words that show a state are, one by one, and how a change of one number changes them.
use Rattle.std.proofs.Common.{◌≡◌, ◌≢◌, ℕ, ◌<◌, Bool, true, false, List, length, get_or, set, slice_index, nat_eq}
use Rattle.std.proofs.Common.{Option, Some, None, if◌then◌else◌, refl, sym, ap, ◌∙◌, arith, length-set, eqb-true}
use Rattle.std.proofs.lemmas.Bool.{eqb-false}
use Rattle.std.proofs.lemmas.List.{ext_get_or}
use Rattle.std.proofs.lemmas.List.FromFn.{get_or-map-range_with_len, length-map-range_with_len}
use Rattle.vms_history.proofs.Common.{get_or-set}
use Rattle.vms_calls.specs.Common.{IsLayout, State, Facts}
use Rattle.vms_words.specs.declared.spots.Blocks.{Blocks}
use Rattle.vms_words.specs.declared.spots.Spot.{Spot}
use Rattle.vms_words.specs.Shown.{shown}
use Rattle.vms_words.specs.Common.{first_words, spot_word, word_by, IsSpot, place_in, spot_in}
use Rattle.vms_words.specs.Spots.{blocks_of}
use Rattle.vms_words.proofs.Blocks.{AreBlocks, blocks-are}
use Rattle.vms_words.proofs.Places.{StandsAt, place_in-lt, spot_in-stands, spot_in-place_in}

pub words-shown : (facts : Facts) (s : State) (b : Blocks) (words : List ℕ) → b ≡ blocks_of facts.layout
    → words ≡ first_words s b b.end → words ≡ shown facts s
unfolding shown
words-shown facts s b words laid are = are ∙ ap (λ (a : Blocks). first_words s a a.end) laid

pub length-words : (s : State) (b : Blocks) (words : List ℕ) → words ≡ first_words s b b.end → length words ≡ b.end
length-words s b words are = ap length are ∙ length-map-range_with_len (λ n. word_by s (spot_in b n)) 0 b.end

pub some-words : (facts : Facts) → IsLayout facts.layout → 0 < (blocks_of facts.layout).end
some-words facts layout = let are = blocks-are facts.layout in omega (arith, are.end, are.rows)

module _ (facts : Facts) where
  abbrev b : Blocks
  b = blocks_of facts.layout

  are : AreBlocks facts.layout b
  are = blocks-are facts.layout

  pub length-shown : (s : State) → length (shown facts s) ≡ b.end
  unfolding shown
  length-shown s = length-map-range_with_len (λ n. word_by s (spot_in b n)) 0 b.end

  get_or-shown : (s : State) (n : ℕ) → n < b.end → get_or (shown facts s) n 0 ≡ word_by s (spot_in b n)
  unfolding shown
  get_or-shown s n within =
      get_or-map-range_with_len (λ m. word_by s (spot_in b m)) 0 b.end n n 0 within (omega arith)

  -- the word of a number shows it
  pub shown-at : (s : State) (spot : Spot) → IsSpot facts.layout spot
      → slice_index (shown facts s) (place_in b spot) ≡ spot_word s spot
  shown-at s spot known =
      get_or-shown s (place_in b spot) (place_in-lt facts.layout b are spot known)
      ∙ ap (word_by s) (spot_in-place_in facts.layout b are spot known)

  -- where one number alone changed, one word alone differs
  pub shown-set : (s later : State) (spot : Spot) → IsSpot facts.layout spot → (after : ℕ)
      → spot_word later spot ≡ after
      → ((other : Spot) → IsSpot facts.layout other → other ≢ spot → spot_word later other ≡ spot_word s other)
      → shown facts later ≡ set (shown facts s) (place_in b spot) after
  shown-set s later spot known after here others =
      ext_get_or 0 (shown facts later) (set (shown facts s) (place_in b spot) after)
      (length-shown later ∙ sym (length-set (shown facts s) (place_in b spot) after ∙ length-shown s))
      (λ n within. let inside : n < b.end = omega (arith, within, length-shown later) in
      get_or-shown later n inside ∙ each n inside (nat_eq (place_in b spot) n) refl
      ∙ sym (get_or-set (shown facts s) (place_in b spot) n after 0
      (omega (arith, length-shown s, place_in-lt facts.layout b are spot known))))
    where
      elsewhere : (n : ℕ) → nat_eq (place_in b spot) n ≡ false → (held : Option Spot) → StandsAt facts.layout b n held
          → word_by later held ≡ word_by s held
      elsewhere n differ None stands = refl
      elsewhere n differ (Some other) stands =
          others other stands.0
          (λ same. eqb-false (place_in b spot) n differ (ap (place_in b) (sym same) ∙ stands.1))

      each : (n : ℕ) → n < b.end → (same : Bool) → nat_eq (place_in b spot) n ≡ same
          → word_by later (spot_in b n) ≡ (if same then after else get_or (shown facts s) n 0)
      each n inside true at =
          ap (λ m. word_by later (spot_in b m)) (sym (eqb-true (place_in b spot) n at))
          ∙ ap (word_by later) (spot_in-place_in facts.layout b are spot known) ∙ here
      each n inside false differ =
          elsewhere n differ (spot_in b n) (spot_in-stands facts.layout b are n inside) ∙ sym (get_or-shown s n inside)
