-- The words that show a state, one after another.
use Rattle.std.proofs.Common.{◌≡◌, ℕ, ◌+◌, ◌<◌, ◌≤◌, List, [], ◌∷◌, ◌++◌, sym, ap, ◌∙◌, arith}
use Rattle.std.proofs.lemmas.List.FromFn.{map-range_with_len_more}
use Rattle.vms_calls.specs.Common.{Shape, State, cell}
use Rattle.vms_words.specs.declared.spots.Blocks.{Blocks}
use Rattle.vms_words.specs.Common.{first_words, spot_before, spot_in, spot_in_row, word_by}
use Rattle.vms_words.proofs.Blocks.{AreBlocks}
use Rattle.vms_words.proofs.Places.{spot_in-before, spot_in-row}

module _ (shape : Shape) (b : Blocks) (are : AreBlocks shape b) (s : State) where
  words-more : (place word : ℕ) (words next : List ℕ) → words ≡ first_words s b place → word ≡ word_by s (spot_in b place)
      → next ≡ words ++ word ∷ [] → next ≡ first_words s b (place + 1)
  words-more place word words next above is next_is =
      next_is ∙ (λ i. above i ++ (is i ∷ []))
      ∙ sym (map-range_with_len_more (λ n. word_by s (spot_in b n)) 0 place place (omega arith))

  -- one word more before the rows
  pub before-more : (place word : ℕ) (words next : List ℕ) → place < b.rows → words ≡ first_words s b place
      → word ≡ word_by s (spot_before b place) → next ≡ words ++ word ∷ [] → next ≡ first_words s b (place + 1)
  before-more place word words next within above is =
      words-more place word words next above (is ∙ ap (word_by s) (sym (spot_in-before shape b are place within)))

  -- one word more in a row
  pub row-more : (c place word : ℕ) (words next : List ℕ) → place < b.width
      → words ≡ first_words s b (b.rows + cell b.width c place) → word ≡ word_by s (spot_in_row b c place)
      → next ≡ words ++ word ∷ [] → next ≡ first_words s b (b.rows + cell b.width c (place + 1))
  row-more c place word words next within above is next_is =
      words-more (b.rows + cell b.width c place) word words next above
      (is ∙ ap (word_by s) (sym (spot_in-row shape b are c place within))) next_is
      ∙ ap (first_words s b) (omega arith)

  -- a whole row
  pub row-all : (c place : ℕ) (words : List ℕ) → place ≤ b.width → b.width ≤ place
      → words ≡ first_words s b (b.rows + cell b.width c place)
      → words ≡ first_words s b (b.rows + cell b.width (c + 1) 0)
  row-all c place words low high is =
      let all : place ≡ b.width = omega (arith, low, high) in
      is ∙ ap (λ k. first_words s b (b.rows + cell b.width c k)) all ∙ ap (first_words s b) (omega arith)

  -- all rows
  pub rows-all : (c : ℕ) (words : List ℕ) → c ≤ shape.cpus → shape.cpus ≤ c
      → words ≡ first_words s b (b.rows + cell b.width c 0) → words ≡ first_words s b b.end
  rows-all c words low high is =
      let all : c ≡ shape.cpus = omega (arith, low, high) in
      is ∙ ap (λ d. first_words s b (b.rows + cell b.width d 0)) all
      ∙ ap (first_words s b) (omega (arith, are.end))
