-- What a pass carries of an item that owns no CPU is at most what counts as taken meanwhile.
use Rattle.std.proofs.Common.{◌≡◌, ◌≢◌, ℕ, ◌≤◌, Bool, true, false, [], ◌∷◌, ℤ, pos, ◌+ℤ◌, ◌-ℤ◌, refl, sym, ap, ◌∙◌}
use Rattle.std.proofs.Common.{arith, nat_eq, eq-eqb, eqb-true, ne_eqb, unsigned_abs, Option, Some, None}
use Rattle.std.proofs.lemmas.Bool.{eqb-false}
use Rattle.std.proofs.lemmas.Int.{ints}
use Rattle.vms_calls.specs.Common.{CpuId, own, owner_in, Event, Facts, Step, AddS, Put, SetA, Take, History, Meets}
use Rattle.vms_calls.specs.Common.{carried_of_item, moved_of_item, pages, role, state_after}
use Rattle.vms_history.proofs.Common.{own-mine, own-others, owner_in-append, owner_is_given}
use Rattle.vms_core.specs.Pages.{IsLegal}
use Rattle.vms_near.specs.ItemFlight.{carries_item, changing_item, item_change_after, item_meanwhile}
use Rattle.vms_near.specs.ItemFlight.{others_item_meanwhile, own_item_meanwhile}
use Rattle.vms_near.proofs.Carriers.{is-none, is-some}
use Rattle.vms_near.proofs.OwnItems.{addition-stays, changing-none}

-- what is carried beside a change is within what was taken
abbrev IsTaken : (carries change : ℤ) → (taken : ℕ) → Type 0
IsTaken carries change taken = unsigned_abs (carries -ℤ change) ≤ taken

module _ (facts : Facts) (p i : ℕ) where
  abbrev pub IsTakenOf : History → History → Type 0
  IsTakenOf h mine = IsTaken (carried_of_item facts.layout i mine) (changing_item facts.layout i mine)
      (item_meanwhile facts p i h)

  -- a pass that owns no CPU owned none before
  owned-none : (e : Event Step) (h : History) → IsLegal facts (e ∷ h) → owner_in role (e ∷ h) p ≡ None
      → owner_in role h p ≡ None
  owned-none e h legal is = by (owner_in role h p) refl
    where
      by : (who : Option CpuId) → owner_in role h p ≡ who → owner_in role h p ≡ None
      by None was = was
      by (Some d) was =
          let given = owner_is_given pages facts h p d legal.0 was in
          let both = sym (owner_in-append pages facts (e ∷ []) h p legal given.1 ∙ was) ∙ is in
          absurd cc

  module _ (e : Event Step) (h : History) (legal : IsLegal facts (e ∷ h)) (owns_none : owner_in role h p ≡ None)
      (before : IsTakenOf h (own h p)) where
    abbrev carries : ℤ
    carries = carried_of_item facts.layout i (own h p)

    abbrev change : ℤ
    change = changing_item facts.layout i (own h p)

    abbrev taken : ℕ
    taken = item_meanwhile facts p i h

    module _ (mine : e.caller ≡ p) (still : carries_item facts.layout i (e ∷ own h p) ≡ true) where
      is_mine : owner_in role h e.caller ≡ None
      is_mine = ap (owner_in role h) mine ∙ owns_none

      abbrev After : Step → Type 0
      After step = IsTaken (moved_of_item facts.layout i step +ℤ carries) (item_change_after facts.layout i step change)
          (own_item_meanwhile facts.layout i step (unsigned_abs (moved_of_item facts.layout i step +ℤ carries)) taken)

      stays : (moves : ℤ) → moves ≡ pos 0 → IsTaken (moves +ℤ carries) change taken
      stays moves none = omega (arith, ints, none, before)

      by-kind : (step : Step) → Meets facts h (state_after facts h) e.caller step
          → moved_of_item facts.layout i step +ℤ carries ≢ pos 0 → After step
      by-kind (Put l w t delta how) meets some = let both = sym meets.owns.owner ∙ is_mine in absurd cc
      by-kind (Take d j w) meets some = omega (arith, ints)
      by-kind (SetA f a) meets some = omega (arith, ints)
      by-kind (AddS l a) meets some = stays (moved_of_item facts.layout i (AddS l a))
          (addition-stays facts p i h e.caller l.number a mine meets.carries some)
      by-kind _ meets some = stays (pos 0) refl

      taken-mine : IsTakenOf (e ∷ h) (own (e ∷ h) p)
      taken-mine = rw (eq-eqb e.caller p mine, still)
          (by-kind e.step legal.2 (is-some (moved_of_item facts.layout i e.step +ℤ carries) still))

    module _ (other : e.caller ≢ p) (still : carries_item facts.layout i (own h p) ≡ true) where
      beside : (step : Step) → IsTaken carries change (others_item_meanwhile facts.layout None i step taken)
      beside (Take d j w) = before
      beside _ = before

      taken-beside : IsTakenOf (e ∷ h) (own (e ∷ h) p)
      taken-beside = rw (ne_eqb e.caller p other, still, owns_none) (beside e.step)

  pub without_cpu-bounded : (h : History) → IsLegal facts h → owner_in role h p ≡ None → IsTakenOf h (own h p)
  without_cpu-bounded [] legal is = omega (arith, ints)
  without_cpu-bounded (e ∷ h) legal is =
      let was = owned-none e h legal is in
      by (carries_item facts.layout i (own (e ∷ h) p)) refl (nat_eq e.caller p) refl was
      (without_cpu-bounded h legal.0 was)
    where
      by : (b : Bool) → carries_item facts.layout i (own (e ∷ h) p) ≡ b → (same : Bool) → nat_eq e.caller p ≡ same
          → owner_in role h p ≡ None → IsTakenOf h (own h p) → IsTakenOf (e ∷ h) (own (e ∷ h) p)
      by false none same at was before =
          omega (
            arith,
            ints,
            is-none (carried_of_item facts.layout i (own (e ∷ h) p)) none,
            changing-none facts p i (own (e ∷ h) p) none,
          )
      by true still true at was before =
          let mine : e.caller ≡ p = eqb-true e.caller p at in
          taken-mine e h legal was before mine (ap (carries_item facts.layout i) (sym (own-mine e h p mine)) ∙ still)
      by true still false at was before =
          let off : e.caller ≢ p = eqb-false e.caller p at in
          taken-beside e h legal was before off (ap (carries_item facts.layout i) (sym (own-others e h p off)) ∙ still)
