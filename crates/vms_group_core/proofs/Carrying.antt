-- Who carries something lives.
use Rattle.std.proofs.Common.{◌≡◌, ℕ, ◌==◌, cond, Bool, true, false, true≢false, List, [], ◌∷◌, ◌⊎◌, inl, inr, refl}
use Rattle.std.proofs.Common.{sym, ap, subst, ◌∙◌, arith, eqb-true}
use Rattle.std.proofs.lemmas.Int.{ints}
use Rattle.std.proofs.lemmas.Bool.{cases_eq}
use Rattle.vms_history.specs.declared.events.Event.{Event}
use Rattle.vms_history.specs.Common.{own, Acts, Role, lives_after, lives_in, Works, Begins, Ends}
use Rattle.vms_history.proofs.Common.{lives_in-role, own-mine, own-others}
use Rattle.vms_group_core.specs.declared.steps.GroupFacts.{GroupFacts}
use Rattle.vms_group_core.specs.declared.steps.GroupStep.{GroupStep}
use Rattle.vms_group_core.specs.declared.steps.GroupStep.TheVariants.{Split, Join}
use Rattle.vms_group_core.specs.declared.trees.Tree.{Tree}
use Rattle.vms_group_core.specs.Common.{carried, carried_up, CarriesNothing, groups, History, IsLegal, IsComplete}
use Rattle.vms_group_core.specs.Common.{LivesToCarry, role}

-- a step that begins or ends a pass is nothing to carry
quiet-carries : (tree : Tree) (e : Event GroupStep) (es : List (Event GroupStep)) → (role e.step ≡ Works → ⊥)
    → CarriesNothing tree es → CarriesNothing tree (e ∷ es)
quiet-carries tree e es quiet nothing g g_in =
    record {
      value = omega (arith, ints, (by e.step quiet).0, (nothing g g_in).value);
      up = (by e.step quiet).1 ∙ (nothing g g_in).up;
    }
  where
    by : (step : GroupStep) → (role step ≡ Works → ⊥)
        → (carried g (record { caller = e.caller; step = step } ∷ es) ≡ carried g es)
        × (carried_up tree g (record { caller = e.caller; step = step } ∷ es) ≡ carried_up tree g es)
    by (Split q who) quiet = (omega (arith, ints), refl)
    by (Join q) quiet = (omega (arith, ints), refl)
    by _ quiet = absurd (quiet refl)

module _ (facts : GroupFacts) where
  carries-step : (e : Event GroupStep) (h : History) (p : ℕ) → IsLegal facts (e ∷ h)
      → (lives_in role h p ≡ true) ⊎ CarriesNothing facts.tree (own h p)
      → (lives_in role (e ∷ h) p ≡ true) ⊎ CarriesNothing facts.tree (own (e ∷ h) p)
  carries-step e h p legal before =
      by (role e.step) refl legal.1 (lives_in-role groups facts e h p legal.1) before (cases_eq e.caller p)
    where
      by : (t : Role) → role e.step ≡ t → Acts groups facts h e.caller t
          → lives_in role (e ∷ h) p ≡ lives_after t p (lives_in role h p)
          → (lives_in role h p ≡ true) ⊎ CarriesNothing facts.tree (own h p)
          → (e.caller ≡ p) ⊎ (e.caller ≡ p → ⊥)
          → (lives_in role (e ∷ h) p ≡ true) ⊎ CarriesNothing facts.tree (own (e ∷ h) p)
      by Works is may lives (inl was) caller = inl (lives ∙ was)
      by Works is may lives (inr nothing) (inl mine) =
          inl (lives ∙ ap (lives_in role h) (sym mine) ∙ may.1)
      by Works is may lives (inr nothing) (inr others) =
          inr (subst (CarriesNothing facts.tree) (sym (own-others e h p others)) nothing)
      by (Begins r who) is may lives was caller = at (r == p) lives was caller
        where
          at : (b : Bool) → lives_in role (e ∷ h) p ≡ cond b true (lives_in role h p)
              → (lives_in role h p ≡ true) ⊎ CarriesNothing facts.tree (own h p)
              → (e.caller ≡ p) ⊎ (e.caller ≡ p → ⊥)
              → (lives_in role (e ∷ h) p ≡ true) ⊎ CarriesNothing facts.tree (own (e ∷ h) p)
          at true now was caller = inl now
          at false now (inl was) caller = inl (now ∙ was)
          at false now (inr nothing) (inl mine) =
              let quiet : role e.step ≡ Works → ⊥ = λ works. let both = sym is ∙ works in absurd (cc) in
              inr (subst (CarriesNothing facts.tree) (sym (own-mine e h p mine))
              (quiet-carries facts.tree e (own h p) quiet nothing))
          at false now (inr nothing) (inr others) =
              inr (subst (CarriesNothing facts.tree) (sym (own-others e h p others)) nothing)
      by (Ends r) is may lives was caller = at (r == p) refl lives was caller
        where
          quiet : role e.step ≡ Works → ⊥
          quiet works = let both = sym is ∙ works in absurd (cc)

          left : CarriesNothing facts.tree (own h p) → (e.caller ≡ p) ⊎ (e.caller ≡ p → ⊥)
              → CarriesNothing facts.tree (own (e ∷ h) p)
          left nothing (inl mine) = subst (CarriesNothing facts.tree) (sym (own-mine e h p mine))
              (quiet-carries facts.tree e (own h p) quiet nothing)
          left nothing (inr others) = subst (CarriesNothing facts.tree) (sym (own-others e h p others)) nothing

          at : (b : Bool) → (r == p) ≡ b → lives_in role (e ∷ h) p ≡ cond b false (lives_in role h p)
              → (lives_in role h p ≡ true) ⊎ CarriesNothing facts.tree (own h p)
              → (e.caller ≡ p) ⊎ (e.caller ≡ p → ⊥)
              → (lives_in role (e ∷ h) p ≡ true) ⊎ CarriesNothing facts.tree (own (e ∷ h) p)
          at true same now was caller =
              inr (left (subst (λ q. CarriesNothing facts.tree (own h q)) (eqb-true r p same) may.2) caller)
          at false same now (inl was) caller = inl (now ∙ was)
          at false same now (inr nothing) caller = inr (left nothing caller)

  pub lives_to_carry : (h : History) → IsLegal facts h → LivesToCarry facts h
  lives_to_carry [] legal p = inr (λ g g_in. record { value = refl; up = refl })
  lives_to_carry (e ∷ h) legal p = carries-step e h p legal (lives_to_carry h legal.0 p)

  -- so where no pass lives nobody carries anything
  pub nothing_in_hand : (h : History) (p : ℕ) → IsComplete facts h → CarriesNothing facts.tree (own h p)
  nothing_in_hand h p complete = elim (lives_to_carry h complete.legal p) [
    | inl lives ↦ absurd (true≢false (sym lives ∙ complete.ended p))
    | inr nothing ↦ nothing
  ]
