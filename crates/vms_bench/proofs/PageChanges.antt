-- What a pass carries on its way through a change.
use Rattle.std.proofs.Common.{◌≡◌, ℕ, nat_eq, Bool, true, false, ℤ, pos, neg_ℤ, ◌+ℤ◌, List, ◌∷◌, Some, refl, sym, ◌∙◌}
use Rattle.std.proofs.Common.{arith, eq-eqb, if◌then◌else◌}
use Rattle.std.proofs.lemmas.Int.{ints}
use Rattle.vms_calls.specs.Common.{Diffs, CounterId, CpuId, GroupId, ItemId, PlaceId, Mode, Shape, group_of, item_of}
use Rattle.vms_calls.specs.Common.{place_of, Event, Step, LoadT, LoadD, Put, Miss, AddG, AddS, entry, eight_zeros}
use Rattle.vms_calls.specs.Common.{carried_by, CarriesNothing, carried, carried_of_item, found, loaded}
use Rattle.vms_bench.specs.Common.{Carries}

abbrev pub event : ℕ → Step → Event Step
event p step = record { caller = p; step = step }

none-chosen : (b : Bool) → (if b then pos 0 else pos 0) ≡ pos 0
none-chosen true = refl
none-chosen false = refl

added-chosen : (b : Bool) (z : ℤ) → (if b then neg_ℤ z else pos 0) +ℤ (if b then z else pos 0) ≡ pos 0
added-chosen true z = omega (arith, ints)
added-chosen false z = omega (arith, ints)

module _ (shape : Shape) (p : ℕ) (h : List (Event Step)) where
  pub carries-nothing : (k : ℕ) → Carries shape k (pos 0) h → CarriesNothing shape h
  carries-nothing k carries = record {
    counters = λ l. carries.counters l ∙ none-chosen (nat_eq k l);
    items = λ i. carries.items i ∙ none-chosen (nat_eq (item_of shape k) i);
  }

  pub nothing-loaded : (g : PlaceId) (t n : ℕ) → CarriesNothing shape h
      → CarriesNothing shape (event p (LoadT g t n) ∷ h)
  nothing-loaded g t n none = record {
    counters = λ l. omega (arith, ints, none.counters l);
    items = λ i. omega (arith, ints, none.items i);
  }

  pub nothing-found : (c : CpuId) (j : GroupId) (w : Diffs) → CarriesNothing shape h
      → CarriesNothing shape (event p (LoadD c j w) ∷ h)
  nothing-found c j w none = record {
    counters = λ l. omega (arith, ints, none.counters l);
    items = λ i. omega (arith, ints, none.items i);
  }

  pub nothing-missed : (j : GroupId) (w : Diffs) → CarriesNothing shape h
      → CarriesNothing shape (event p (Miss j w) ∷ h)
  nothing-missed j w none = record {
    counters = λ l. omega (arith, ints, none.counters l);
    items = λ i. omega (arith, ints, none.items i);
  }

  pub carries-put : (k : CounterId) (w : Diffs) (t : ℕ) (delta : ℤ) (how : Mode) → CarriesNothing shape h
      → Carries shape k.number (carried_by how t (entry w.values k.number) delta)
      (event p (Put k w t delta how) ∷ h)
  carries-put k w t delta how none = record {
    counters = λ l. omega (arith, ints, none.counters l);
    items = λ i. omega (arith, ints, none.items i);
  }

  -- what is carried for the counter, and for its item
  pub carried-here : (k : ℕ) (z : ℤ) → Carries shape k z h → carried k h ≡ z
  carried-here k z carries = carries.counters k ∙ rw (eq-eqb k k refl) refl

  pub added-both : (k : CounterId) (i : ItemId) (z : ℤ) → i.number ≡ item_of shape k.number → Carries shape k.number z h
      → CarriesNothing shape (event p (AddS i z) ∷ event p (AddG k z) ∷ h)
  added-both k i z is carries = record {
    counters = λ l.
        let none = added-chosen (nat_eq k.number l) z in
        omega (arith, ints, none, carries.counters l);
    items = λ n.
        let none = added-chosen (nat_eq (item_of shape k.number) n) z in
        rw is (omega (arith, ints, none, carries.items n));
  }

  pub item-carried : (k : CounterId) (i : ItemId) (z : ℤ) → i.number ≡ item_of shape k.number
      → Carries shape k.number z h → carried_of_item shape i.number (event p (AddG k z) ∷ h) ≡ z
  item-carried k i z is carries =
      let here : carried_of_item shape i.number h ≡ z =
      carries.items i.number ∙ rw (eq-eqb (item_of shape k.number) i.number (sym is)) refl in
      omega (arith, ints, here)

  -- what the pass found and loaded last
  pub found-here : (c : CpuId) (j : GroupId) (k : ℕ) (w : Diffs) → j.number ≡ group_of k
      → found c (group_of k) (event p (LoadD c j w) ∷ h) ≡ Some w.values
  found-here c j k w is = rw (eq-eqb c.number c.number refl, eq-eqb j.number (group_of k) is) refl

  pub missed-here : (c : CpuId) (j : GroupId) (k : ℕ) (w : Diffs) → j.number ≡ group_of k
      → found c (group_of k) (event p (Miss j w) ∷ h) ≡ Some eight_zeros
  missed-here c j k w is = rw (eq-eqb j.number (group_of k) is) refl

  pub loaded-here : (g : PlaceId) (k t n : ℕ) → g.number ≡ place_of shape k
      → loaded (place_of shape k) (event p (LoadT g t n) ∷ h) ≡ Some (record { t = t; number = n })
  loaded-here g k t n is = rw (eq-eqb g.number (place_of shape k) is) refl
