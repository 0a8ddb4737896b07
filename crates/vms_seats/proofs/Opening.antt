-- The rule holds at the start.
use Rattle.std.proofs.Common.{◌≡◌, ℕ, zero, suc, List, [], ◌∷◌, inl, ⊎_elim, refl, sym, ◌∙◌, subst}
use mathlib.Core.Option.{some, some-injective, some-ne-none}
use lib.ListN.{get_elem?}
use Rattle.vms_history.specs.Common.{Machine}
use Rattle.vms_history.proofs.Common.{Extends-same}
use Rattle.vms_seats.specs.declared.views.View.{View}
use Rattle.vms_seats.specs.Common.{Keeps, FitsHistory, AllFit, OneSeatEach, opening_view, Holds}

module _ {F K S : Type 0} (machine : Machine F K S) (shown : F → S → List ℕ) (facts : F) where
  -- the one seat is the first
  only_view : (j : ℕ) (v : View F K) → get_elem? (opening_view {F = F} {K = K} facts ∷ []) j ≡ some v
      → (j ≡ 0) × (opening_view facts ≡ v)
  only_view zero v at = (refl, some-injective (opening_view facts) v at)
  only_view (suc j) v at = absurd (some-ne-none v (sym at))

  opening_fits : AllFit machine.role facts [] (opening_view facts ∷ [])
  opening_fits seat v at k held =
      subst (λ (u : View F K). Holds u.held k → (u.facts ≡ facts) × FitsHistory machine.role [] k)
      (only_view seat v at).1
      (λ mine. ⊎_elim
      (λ same. (
        refl,
        subst (FitsHistory machine.role []) same
            (record { extends = Extends-same []; own_same = refl; lives = inl refl }),
      ))
      (λ none. absurd none) mine) held

  one_seat : OneSeatEach {F = F} {K = K} (opening_view facts ∷ [])
  one_seat i j v w at_i at_j k m held_k held_m same = (only_view i v at_i).0 ∙ sym (only_view j w at_j).0

  pub opening_keeps : (words : List ℕ) → machine.CanBegin facts → words ≡ shown facts (machine.base facts)
      → Keeps machine shown facts words (opening_view facts ∷ [])
  opening_keeps words can_begin shows = record {
    history = [];
    legal = can_begin;
    shows = shows;
    fits = opening_fits;
    one_seat = one_seat;
  }
