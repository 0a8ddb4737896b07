-- Answers that are handed on line by line are merged in the order of the lines.
use Rattle.std.proofs.Common.{◌≡◌, ℕ, suc, ◌+◌, ◌<◌, ◌∙◌, List, ◌∷◌, ◌++◌, ap, append_assoc, arith, drop, drop-cons}
use Rattle.std.proofs.Common.{get_or, length, sym}
use Rattle.vms_answers.specs.Common.{NumberedAnswer, merged, taken_answer, with_told}
use Rattle.vms_world.specs.Common.{Item, Lane}
use Rattle.vms_answers.proofs.Common.{merged-everywhere}

module _ (items : List Item) (n : ℕ) (item : Item) (at : item ≡ get_or items n item)
    (all before : List NumberedAnswer)
    (left later : Lane → List NumberedAnswer) where
  abbrev first : List NumberedAnswer × List NumberedAnswer
  first = taken_answer item.number (left item.lane)

  -- the answers that were handed on before a line and with it, and those that are left then
  pub merged-next : n < length items → before ++ merged (drop n items) left ≡ all
      → ((lane : Lane) → later lane ≡ with_told item.lane first.1 left lane)
      → (before ++ first.0) ++ merged (drop (n + 1) items) later ≡ all
  merged-next within parts told =
      let next : n + 1 ≡ suc n = omega arith in
      let rest = drop (suc n) items in
      ap (λ m. (before ++ first.0) ++ merged (drop m items) later) next
      ∙ append_assoc before first.0 (merged rest later)
      ∙ ap (λ (more : List NumberedAnswer). before ++ (first.0 ++ more))
      (merged-everywhere rest later (with_told item.lane first.1 left) told)
      ∙ ap (λ (lines : List Item). before ++ merged lines left) (ap (λ (line : Item). line ∷ rest) at
      ∙ sym (drop-cons items n item within))
      ∙ parts
