-- Which seats act for which passes, as the view of one seat changes and as a seat is added.
use Rattle.std.proofs.Common.{◌≡◌, ◌≢◌, ℕ, zero, suc, List, [], ◌∷◌, ◌++◌, length, slice_get, slice_index, Some, set}
use Rattle.std.proofs.Common.{◌⊎◌, inl, inr, ⊎_elim, refl, ap, sym, ◌∙◌, subst}
use mathlib.Core.Option.{some, some-injective, some-ne-none}
use lib.ListN.{get_elem?}
use Rattle.atomic_table.proofs.Lists.{at_set}
use Rattle.vms_seats.specs.declared.views.Held.{Held}
use Rattle.vms_seats.specs.declared.views.View.{View}
use Rattle.vms_seats.specs.Common.{OneSeatEach, Holds}

pub set_same : (ns : List ℕ) (i : ℕ) → set ns i (slice_index ns i) ≡ ns
set_same [] i = refl
set_same (n ∷ ns) zero = refl
set_same (n ∷ ns) (suc i) = ap (λ ms. n ∷ ms) (set_same ns i)

-- what stands at a place is what is got there
pub got_at : {A : Type 0} (l : List A) (i : ℕ) (a : A) → get_elem? l i ≡ some a → slice_get l i ≡ Some a
got_at [] i a e = absurd (some-ne-none a (sym e))
got_at (x ∷ xs) zero a e = ap Some (some-injective x a e)
got_at (x ∷ xs) (suc i) a e = got_at xs i a e

-- what stands in a list that is one longer
pub at_longer_by_one : {A : Type 0} (l : List A) (a b : A) (j : ℕ) → get_elem? (l ++ a ∷ []) j ≡ some b
    → (get_elem? l j ≡ some b) ⊎ ((j ≡ length l) × (a ≡ b))
at_longer_by_one [] a b zero e = inr (refl, some-injective a b e)
at_longer_by_one [] a b (suc j) e = absurd (some-ne-none b (sym e))
at_longer_by_one (x ∷ xs) a b zero e = inl e
at_longer_by_one (x ∷ xs) a b (suc j) e =
    ⊎_elim inl (λ last. inr (ap suc last.0, last.1)) (at_longer_by_one xs a b j e)

module _ {F K : Type 0} where
  -- no seat acts for a pass with this number
  abbrev pub Unheld : List (View F K) → ℕ → Type 0
  Unheld views number = (j : ℕ) (u : View F K) → get_elem? views j ≡ some u → (k : Held K) → Holds u.held k
      → k.number ≢ number

  -- one seat comes to act for passes for which it acted, or for which no seat did
  module _ (views : List (View F K)) (id : ℕ) (v w : View F K) (at : get_elem? views id ≡ some v)
      (one : OneSeatEach views)
      (from : (m : Held K) → Holds w.held m
      → ((k : Held K) × Holds v.held k × (k.number ≡ m.number)) ⊎ Unheld views m.number) where
    only_here : (j : ℕ) (y : View F K) → j ≢ id → get_elem? views j ≡ some y → (k m : Held K) → Holds w.held k
        → Holds y.held m → k.number ≡ m.number → ⊥
    only_here j y others at_j k m held_here held_there same =
        ⊎_elim (λ before. others (sym (one id j v y at at_j before.0 m before.1 held_there (before.2 ∙ same))))
        (λ unheld. unheld j y at_j m held_there (sym same)) (from k held_here)

    pub one_seat-set : OneSeatEach (set views id w)
    one_seat-set i j x y at_i at_j k m held_i held_j same =
        ⊎_elim
        (λ here. ⊎_elim (λ there. here.0 ∙ sym there.0)
        (λ there. absurd (only_here j y there.0 there.1 k m (moved x here.1 k held_i) held_j same))
        (at_set views id j w y at_j))
        (λ here. ⊎_elim
        (λ there. absurd (only_here i x here.0 here.1 m k (moved y there.1 m held_j) held_i (sym same)))
        (λ there. one i j x y here.1 there.1 k m held_i held_j same)
        (at_set views id j w y at_j))
        (at_set views id i w x at_i)
      where
        moved : (x : View F K) → w ≡ x → (k : Held K) → Holds x.held k → Holds w.held k
        moved x same k held = subst (λ (u : View F K). Holds u.held k) (sym same) held

  -- a further seat acts for passes for which no seat did
  pub one_seat-more : (views : List (View F K)) (w : View F K) → OneSeatEach views
      → ((m : Held K) → Holds w.held m → Unheld views m.number) → OneSeatEach (views ++ w ∷ [])
  one_seat-more views w one unheld i j x y at_i at_j k m held_i held_j same =
      ⊎_elim
      (λ here. ⊎_elim (λ there. one i j x y here there k m held_i held_j same)
      (λ there. absurd (unheld m (moved y there.1 m held_j) i x here k held_i same))
      (at_longer_by_one views w y j at_j))
      (λ here. ⊎_elim
      (λ there. absurd (unheld k (moved x here.1 k held_i) j y there m held_j (sym same)))
      (λ there. here.0 ∙ sym there.0)
      (at_longer_by_one views w y j at_j))
      (at_longer_by_one views w x i at_i)
    where
      moved : (x : View F K) → w ≡ x → (k : Held K) → Holds x.held k → Holds w.held k
      moved x same k held = subst (λ (u : View F K). Holds u.held k) (sym same) held
