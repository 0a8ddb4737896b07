-- For other crates too: who doesn't live carries nothing.
use Rattle.std.proofs.Common.{◌≡◌, ◌≢◌, ℕ, suc, ◌⊎◌, inl, inr, ⊎_elim, Bool, true, false, [], ◌∷◌, pos, refl, sym, ap}
use Rattle.std.proofs.Common.{◌∙◌, subst, arith, if◌then◌else◌, nat_eq, eqb-true}
use Rattle.std.proofs.lemmas.Bool.{cases_eq}
use Rattle.std.proofs.lemmas.Int.{ints}
use Rattle.vms_history.specs.Common.{Shape, own, Acts, Role, lives_in, lives_after, begun_in, Works, Begins, Ends}
use Rattle.vms_history.specs.declared.events.Event.{Event}
use Rattle.vms_history.proofs.Common.{own-mine, own-others, caller_lives, caller_works, live_is_given, lives_in-role}
use Rattle.vms_history.proofs.Common.{sum_below-zeros}
use Rattle.vms_core.specs.declared.steps.Facts.{Facts}
use Rattle.vms_core.specs.declared.steps.Step.{Step}
use Rattle.vms_core.specs.declared.steps.Step.TheVariants.{Split, Join}
use Rattle.vms_core.specs.Common.{carried, carried_of_item, CarriesNothing, pages, History, IsLegal, IsComplete}
use Rattle.vms_core.specs.Common.{carried_by_all, carried_of_item_by_all, role}

-- a step that begins or ends a pass moves nothing
quiet-moves_nothing : (shape : Shape) (step : Step) (mine : History) (p : ℕ) → role step ≢ Works
    → CarriesNothing shape mine → CarriesNothing shape (record { caller = p; step = step } ∷ mine)
quiet-moves_nothing shape (Split q who) mine p quiet before = record {
  counters = λ k. omega (arith, ints, before.counters k);
  items = λ i. omega (arith, ints, before.items i);
}
quiet-moves_nothing shape (Join q) mine p quiet before = record {
  counters = λ k. omega (arith, ints, before.counters k);
  items = λ i. omega (arith, ints, before.items i);
}
quiet-moves_nothing shape _ mine p quiet before = absurd (quiet refl)

module _ (facts : Facts) where
  abbrev LivesOrCarriesNothing : History → ℕ → Type 0
  LivesOrCarriesNothing h p = (lives_in role h p ≡ true) ⊎ CarriesNothing facts.layout (own h p)

  module _ (e : Event Step) (h : History) (legal : IsLegal facts (e ∷ h)) (p : ℕ) where
    turned : lives_in role (e ∷ h) p ≡ lives_after (role e.step) p (lives_in role h p)
    turned = lives_in-role pages facts e h p legal.1

    -- the main pass's own events carry nothing; another caller lives on
    carries-mine : e.caller ≡ p → LivesOrCarriesNothing h p → LivesOrCarriesNothing (e ∷ h) p
    carries-mine mine before = ⊎_elim main others (cases_eq e.caller 0)
      where
        works_is_other : e.caller ≡ 0 → (t : Role) → Acts pages facts h e.caller t → t ≢ Works
        works_is_other main Works acts = absurd (acts.0 main)
        works_is_other main (Begins q who) acts = λ same. cc
        works_is_other main (Ends q) acts = λ same. cc

        nothing : e.caller ≡ 0 → LivesOrCarriesNothing h p → CarriesNothing facts.layout (own h p)
        nothing main (inl lives) =
            let given = (live_is_given pages facts h p legal.0 lives).0 in absurd (omega arith)
        nothing main (inr none) = none

        main : e.caller ≡ 0 → LivesOrCarriesNothing (e ∷ h) p
        main is_main = inr (subst (CarriesNothing facts.layout) (sym (own-mine e h p mine))
            (quiet-moves_nothing facts.layout e.step (own h p) e.caller (works_is_other is_main (role e.step) legal.1)
            (nothing is_main before)))

        others : e.caller ≢ 0 → LivesOrCarriesNothing (e ∷ h) p
        others not_main =
            let works : role e.step ≡ Works = caller_works pages facts h e.caller (role e.step) legal.1 not_main in
            let lived = caller_lives pages facts h e.caller (role e.step) legal.1 not_main in
            inl (turned ∙ ap (λ t. lives_after t p (lives_in role h p)) works ∙ ap (lives_in role h) (sym mine) ∙ lived)

    -- a pass that ends carries nothing, and who makes no event stays as it was
    carries-others : e.caller ≢ p → LivesOrCarriesNothing h p → LivesOrCarriesNothing (e ∷ h) p
    carries-others other before = by (role e.step) legal.1 turned
      where
        same : own (e ∷ h) p ≡ own h p
        same = own-others e h p other

        stays : (b : Bool) → lives_in role (e ∷ h) p ≡ b → LivesOrCarriesNothing h p
            → (lives_in role h p ≡ true → b ≡ true) → LivesOrCarriesNothing (e ∷ h) p
        stays b is (inl lives) still = inl (is ∙ still lives)
        stays b is (inr none) still = inr (subst (CarriesNothing facts.layout) (sym same) none)

        by : (t : Role) → Acts pages facts h e.caller t
            → lives_in role (e ∷ h) p ≡ lives_after t p (lives_in role h p) → LivesOrCarriesNothing (e ∷ h) p
        by Works acts is = stays (lives_in role h p) is before (λ lives. lives)
        by (Begins q who) acts is = at (nat_eq q p) is
          where
            at : (b : Bool) → lives_in role (e ∷ h) p ≡ (if b then true else lives_in role h p)
                → LivesOrCarriesNothing (e ∷ h) p
            at true now = inl now
            at false now = stays (lives_in role h p) now before (λ lives. lives)
        by (Ends q) acts is = at (nat_eq q p) refl is
          where
            at : (b : Bool) → nat_eq q p ≡ b → lives_in role (e ∷ h) p ≡ (if b then false else lives_in role h p)
                → LivesOrCarriesNothing (e ∷ h) p
            at true here now = inr (subst (CarriesNothing facts.layout)
                (ap (own h) (eqb-true q p here) ∙ sym same) acts.2)
            at false there now = stays (lives_in role h p) now before (λ lives. lives)

  lives_or_carries_nothing : (h : History) → IsLegal facts h → (p : ℕ) → LivesOrCarriesNothing h p
  lives_or_carries_nothing [] legal p = inr (record { counters = λ k. refl; items = λ i. refl })
  lives_or_carries_nothing (e ∷ h) legal p =
      let before = lives_or_carries_nothing h legal.0 p in
      ⊎_elim (λ (mine : e.caller ≡ p). carries-mine e h legal p mine before)
      (λ (other : e.caller ≢ p). carries-others e h legal p other before) (cases_eq e.caller p)

  pub ended-carry_nothing : (h : History) → IsComplete facts h → (p : ℕ) → CarriesNothing facts.layout (own h p)
  ended-carry_nothing h complete p =
      ⊎_elim (λ (lives : lives_in role h p ≡ true). let over = complete.ended p in absurd cc) (λ none. none)
      (lives_or_carries_nothing h complete.legal p)

  -- so nothing is carried for any counter or item
  pub carried_by_all-none : (h : History) → IsComplete facts h → (k : ℕ) → carried_by_all h k ≡ pos 0
  carried_by_all-none h complete k =
      sum_below-zeros (λ p. carried k (own h p)) (suc (begun_in role h))
      (λ p below. (ended-carry_nothing h complete p).counters k)

  pub none-carried_of_item : (h : History) → IsComplete facts h → (i : ℕ)
      → carried_of_item_by_all facts.layout h i ≡ pos 0
  none-carried_of_item h complete i =
      sum_below-zeros (λ p. carried_of_item facts.layout i (own h p)) (suc (begun_in role h))
      (λ p below. (ended-carry_nothing h complete p).items i)
