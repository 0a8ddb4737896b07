-- A pass of a table knows the table's layout, and so where its words stand.
use Rattle.std.proofs.Common.{◌≡◌, ℕ, ap, sym, ◌∙◌, subst}
use Rattle.vms_calls.specs.Common.{Shape, Facts, Step, pages}
use Rattle.vms_seats.specs.Common.{Pass, Shared, IsFrom, MayStep}
use Rattle.vms_words.specs.declared.spots.Blocks.{Blocks}
use Rattle.vms_words.specs.declared.spots.Spot.{Spot}
use Rattle.vms_words.specs.Common.{AreMadeFor, place_in}
use Rattle.vms_words.specs.Shown.{shown}
use Rattle.vms_words.specs.Spots.{blocks_of}

module _ (layout : Shape) (blocks : Blocks) (words table : Shared Facts) (pass : Pass Facts Step)
    (are : AreMadeFor layout blocks words) (is : words ≡ table) (of : IsFrom pass table) where
  pub of-layout : layout ≡ pass.facts.layout
  of-layout = sym are.same ∙ ap (λ (w : Shared Facts). w.facts.layout) is ∙ ap (λ (f : Facts). f.layout) (sym of.facts)

  -- a step may be made at the place of a word
  pub may-at : (spot : Spot) (place : ℕ) → place ≡ place_in blocks spot → (change : ℕ → ℕ) (plan : ℕ → Step)
      → MayStep pages shown pass (place_in (blocks_of pass.facts.layout) spot) change plan
      → MayStep pages shown pass place change plan
  may-at spot place at change plan may =
      subst (λ n. MayStep pages shown pass n change plan)
      (sym (at ∙ ap (λ (b : Blocks). place_in b spot)
      (are.laid ∙ ap blocks_of of-layout)))
      may

  -- what is known of the table's layout is known of the pass's
  pub known-of : (Known : Shape → Type 0) → Known table.facts.layout → Known pass.facts.layout
  known-of Known known = subst (λ (f : Facts). Known f.layout) (sym of.facts) known

  -- and the other way, of the facts for which the words were made
  pub known-in : (Known : Shape → Type 0) → Known pass.facts.layout → Known layout
  known-in Known known = subst Known (sym of-layout) known
