-- What the passes in their slots carry, before a step and after it.
use Rattle.std.proofs.Common.{◌≡◌, ℕ, zero, suc, ◌+◌, ◌*◌, ◌%◌, ◌<◌, ◌≤◌, ◌&&◌, Bool, true, false, List, ◌∷◌, ℤ, pos}
use Rattle.std.proofs.Common.{◌+ℤ◌, get_or, unsigned_abs, refl, sym, ap, ◌∙◌, arith, if◌then◌else◌, nat_eq, nat_lt}
use Rattle.std.proofs.Common.{eq-eqb, eqb-true}
use Rattle.std.proofs.lemmas.Int.{ints}
use Rattle.std.proofs.lemmas.Bool.{eqb-false, ne_eqb}
use Rattle.std.proofs.lemmas.Bool.Decides.{nat_tests}
use Rattle.vms_history.specs.Common.{IsCounter, IsItem, Shape, counter_count, first_of_group, group_of, item_count}
use Rattle.vms_history.specs.Common.{item_of, sum_below}
use Rattle.vms_history.proofs.Common.{if-map}
use Rattle.vms_cells.specs.Cells.{Cells, HasCells, at, with_cell}
use Rattle.vms_cells.proofs.WrittenCells.{HasCells-with_cell, at-with_cell}
use Rattle.vms_core.specs.declared.steps.Facts.{Facts}
use Rattle.vms_core.specs.declared.steps.Step.{Step}
use Rattle.vms_core.specs.Common.{History, carried, carried_of_item, entry, moved, moved_of_item, pages}
use Rattle.vms_registers.specs.Slots.{StandsIn, held_events}
use Rattle.vms_registers.proofs.HeldEvents.{held_events-works}
use Rattle.vms_page_passes.specs.declared.amounts.Amounts.{Amounts}
use Rattle.vms_page_passes.specs.Amounts.{Carries, HasAmounts}
use Rattle.vms_page_passes.specs.Keeps.{KeepsAmounts}

-- one amount of a table changes by x, or none does
module _ (rows width : ℕ) (cells : Cells ℤ) (has : HasCells rows width cells) (slot : ℕ) where
  pub unmoved : (s l : ℕ) → at cells s l (pos 0)
      ≡ (if nat_eq slot s then pos 0 +ℤ at cells s l (pos 0) else at cells s l (pos 0))
  unmoved s l = by (nat_eq slot s) (at cells s l (pos 0))
    where
      by : (b : Bool) (x : ℤ) → x ≡ (if b then pos 0 +ℤ x else x)
      by true x = omega (arith, ints)
      by false x = refl

  pub moved_by : slot < rows → (column : ℕ) → column < width → (x v : ℤ) → v ≡ x +ℤ at cells slot column (pos 0)
      → (s l : ℕ) → l < width → at (with_cell cells slot column v) s l (pos 0)
      ≡ (if nat_eq slot s then (if nat_eq column l then x else pos 0) +ℤ at cells s l (pos 0)
      else at cells s l (pos 0))
  moved_by row_in column column_in x v is s l l_in =
      rw (at-with_cell rows width cells has slot column row_in column_in v s l (pos 0) l_in)
      (by (nat_eq slot s) (nat_eq column l) (at cells s l (pos 0)) (λ rows columns.
      is ∙ ap (λ r. x +ℤ at cells r column (pos 0)) (eqb-true slot s rows)
      ∙ ap (λ c. x +ℤ at cells s c (pos 0)) (eqb-true column l columns)))
    where
      by : (a b : Bool) (y : ℤ) → (a ≡ true → b ≡ true → v ≡ x +ℤ y)
          → (if a && b then v else y) ≡ (if a then (if b then x else pos 0) +ℤ y else y)
      by true true y same = same refl refl
      by true false y same = omega (arith, ints)
      by false b y same = refl

module _ (shape : Shape) (slot : ℕ) (slot_in : slot ≤ shape.cpus) (amounts : Amounts)
    (shaped : HasAmounts shape amounts) where
  slot_below : slot < shape.cpus + 1
  slot_below = omega arith

  module _ (k : ℕ) (k_in : IsCounter shape k) (x v : ℤ) (v_is : v ≡ x +ℤ at amounts.by_counter slot k (pos 0)) where
    whole_counters : HasCells (shape.cpus + 1) (counter_count shape) (with_cell amounts.by_counter slot k v)
    whole_counters = HasCells-with_cell (shape.cpus + 1) (counter_count shape) amounts.by_counter shaped.by_counter slot
        k slot_below k_in v

    counters : (s l : ℕ) → IsCounter shape l → at (with_cell amounts.by_counter slot k v) s l (pos 0)
        ≡ (if nat_eq slot s then (if nat_eq k l then x else pos 0) +ℤ at amounts.by_counter s l (pos 0)
        else at amounts.by_counter s l (pos 0))
    counters = moved_by (shape.cpus + 1) (counter_count shape) amounts.by_counter shaped.by_counter slot slot_below k
        k_in x v v_is

    pub Carries-counter : Carries shape slot (λ l. if nat_eq k l then x else pos 0) (λ i. pos 0) amounts
        (record amounts { by_counter = with_cell amounts.by_counter slot k v })
    Carries-counter = record {
      shaped = record { by_counter = whole_counters; by_item = shaped.by_item };
      by_counter = counters;
      by_item = λ s i i_in.
          unmoved (shape.cpus + 1) (item_count shape) amounts.by_item shaped.by_item slot s i;
    }

    pub Carries-both : (i : ℕ) → IsItem shape i → (y z : ℤ) → z ≡ y +ℤ at amounts.by_item slot i (pos 0)
        → Carries shape slot (λ l. if nat_eq k l then x else pos 0) (λ l. if nat_eq i l then y else pos 0) amounts
        (record {
          by_counter = with_cell amounts.by_counter slot k v;
          by_item = with_cell amounts.by_item slot i z;
        })
    Carries-both i i_in y z z_is = record {
      shaped = record {
        by_counter = whole_counters;
        by_item = HasCells-with_cell (shape.cpus + 1) (item_count shape) amounts.by_item shaped.by_item slot i
            slot_below i_in z;
      };
      by_counter = counters;
      by_item = moved_by (shape.cpus + 1) (item_count shape) amounts.by_item shaped.by_item slot slot_below i i_in y z
          z_is;
    }

  pub Carries-item : (i : ℕ) → IsItem shape i → (y z : ℤ) → z ≡ y +ℤ at amounts.by_item slot i (pos 0)
      → Carries shape slot (λ l. pos 0) (λ l. if nat_eq i l then y else pos 0) amounts
      (record amounts { by_item = with_cell amounts.by_item slot i z })
  Carries-item i i_in y z z_is = record {
    shaped = record {
      by_counter = shaped.by_counter;
      by_item = HasCells-with_cell (shape.cpus + 1) (item_count shape) amounts.by_item shaped.by_item slot i slot_below
          i_in z;
    };
    by_counter = λ s l l_in.
        unmoved (shape.cpus + 1) (counter_count shape) amounts.by_counter shaped.by_counter slot s l;
    by_item = moved_by (shape.cpus + 1) (item_count shape) amounts.by_item shaped.by_item slot slot_below i i_in y z
        z_is;
  }

  pub Carries-none : Carries shape slot (λ l. pos 0) (λ i. pos 0) amounts amounts
  Carries-none = record {
    shaped = shaped;
    by_counter = λ s l l_in.
        unmoved (shape.cpus + 1) (counter_count shape) amounts.by_counter shaped.by_counter slot s l;
    by_item = λ s i i_in. unmoved (shape.cpus + 1) (item_count shape) amounts.by_item shaped.by_item slot s i;
  }

-- the same by other words, and one change after another
module _ (shape : Shape) (slot : ℕ) (counters items : ℕ → ℤ) (old new : Amounts)
    (carries : Carries shape slot counters items old new) where
  pub Carries-same : (counters' items' : ℕ → ℤ) → ((k : ℕ) → IsCounter shape k → counters k ≡ counters' k)
      → ((i : ℕ) → IsItem shape i → items i ≡ items' i) → Carries shape slot counters' items' old new
  Carries-same counters' items' first second = record {
    shaped = carries.shaped;
    by_counter = λ s k k_in.
        carries.by_counter s k k_in
        ∙ ap (λ x. if nat_eq slot s then x +ℤ at old.by_counter s k (pos 0) else at old.by_counter s k (pos 0))
        (first k k_in);
    by_item = λ s i i_in.
        carries.by_item s i i_in
        ∙ ap (λ x. if nat_eq slot s then x +ℤ at old.by_item s i (pos 0) else at old.by_item s i (pos 0))
        (second i i_in);
  }

  pub Carries-then : (counters' items' : ℕ → ℤ) (newest : Amounts)
      → Carries shape slot counters' items' new newest
      → Carries shape slot (λ k. counters' k +ℤ counters k) (λ i. items' i +ℤ items i) old newest
  Carries-then counters' items' newest next = record {
    shaped = next.shaped;
    by_counter = λ s k k_in.
        next.by_counter s k k_in
        ∙ both (nat_eq slot s) (counters' k) (counters k) (at new.by_counter s k (pos 0))
        (at old.by_counter s k (pos 0)) (carries.by_counter s k k_in);
    by_item = λ s i i_in.
        next.by_item s i i_in
        ∙ both (nat_eq slot s) (items' i) (items i) (at new.by_item s i (pos 0)) (at old.by_item s i (pos 0))
        (carries.by_item s i i_in);
  }
    where
      both : (b : Bool) (x y z w : ℤ) → z ≡ (if b then y +ℤ w else w)
          → (if b then x +ℤ z else z) ≡ (if b then (x +ℤ y) +ℤ w else w)
      both true x y z w is = omega (arith, ints, is)
      both false x y z w is = is

-- an amount of 0 changes nothing
pub Carries-zero : (shape : Shape) (slot : ℕ) → slot ≤ shape.cpus → (amounts : Amounts) → HasAmounts shape amounts
    → (k i : ℕ) → Carries shape slot (λ l. if nat_eq k l then pos 0 else pos 0)
    (λ l. if nat_eq i l then pos 0 else pos 0) amounts amounts
Carries-zero shape slot slot_in amounts shaped k i =
    Carries-same shape slot (λ l. pos 0) (λ l. pos 0) amounts amounts
    (Carries-none shape slot slot_in amounts shaped) (λ l. if nat_eq k l then pos 0 else pos 0)
    (λ l. if nat_eq i l then pos 0 else pos 0) (λ l l_in. by (nat_eq k l)) (λ l l_in. by (nat_eq i l))
  where
    by : (b : Bool) → pos 0 ≡ (if b then pos 0 else pos 0)
    by true = refl
    by false = refl

-- what the first n entries of a group's list are for a counter and for an item
abbrev pub counters_first : ℕ → List ℤ → ℕ → ℕ → ℤ
counters_first j values n k = if nat_eq j (group_of k) && nat_lt (k % 8) n then entry values k else pos 0

abbrev pub items_first : Shape → ℕ → List ℤ → ℕ → ℕ → ℤ
items_first shape j values n i =
    sum_below (λ m. if nat_eq (item_of shape (first_of_group j + m)) i then get_or values m (pos 0) else pos 0) n

module _ (shape : Shape) (j : ℕ) (values : List ℤ) where
  next_counter : (n k : ℕ) → n < 8
      → (if nat_eq (first_of_group j + n) k then get_or values n (pos 0) else pos 0) +ℤ counters_first j values n k
      ≡ counters_first j values (suc n) k
  next_counter n k n_in = by (nat_eq j (group_of k)) (nat_eq (k % 8) n) refl refl
    where
      by : (a b : Bool) → nat_eq j (group_of k) ≡ a → nat_eq (k % 8) n ≡ b
          → (if nat_eq (first_of_group j + n) k then get_or values n (pos 0) else pos 0)
          +ℤ (if a && nat_lt (k % 8) n then entry values k else pos 0)
          ≡ (if a && nat_lt (k % 8) (suc n) then entry values k else pos 0)
      by true true group member =
          let group_is = eqb-true j (group_of k) group in
          let member_is = eqb-true (k % 8) n member in
          let here : nat_eq (first_of_group j + n) k ≡ true = eq-eqb (first_of_group j + n) k (omega arith) in
          let before : nat_lt (k % 8) n ≡ false = grind (arith, nat_tests) in
          let after : nat_lt (k % 8) (suc n) ≡ true = grind (arith, nat_tests) in
          let value : get_or values n (pos 0) ≡ entry values k = ap (λ m. get_or values m (pos 0)) (sym member_is) in
          rw (here, before, after) (omega (arith, ints, value))
      by true false group member =
          let group_is = eqb-true j (group_of k) group in
          let member_not = eqb-false (k % 8) n member in
          let here : nat_eq (first_of_group j + n) k ≡ false = ne_eqb (first_of_group j + n) k (omega arith) in
          let same : nat_lt (k % 8) (suc n) ≡ nat_lt (k % 8) n = grind (arith, nat_tests) in
          rw (here, same) (omega (arith, ints))
      by false b group member =
          let group_not = eqb-false j (group_of k) group in
          let here : nat_eq (first_of_group j + n) k ≡ false = ne_eqb (first_of_group j + n) k (omega arith) in
          rw here refl

  pub Carries-next : (slot n : ℕ) (old new newest : Amounts) → n < 8
      → Carries shape slot (counters_first j values n) (items_first shape j values n) old new
      → Carries shape slot (λ k. if nat_eq (first_of_group j + n) k then get_or values n (pos 0) else pos 0)
      (λ i. if nat_eq (item_of shape (first_of_group j + n)) i then get_or values n (pos 0) else pos 0) new newest
      → Carries shape slot (counters_first j values (suc n)) (items_first shape j values (suc n)) old newest
  Carries-next slot n old new newest n_in so_far next =
      Carries-same shape slot
      (λ k. (if nat_eq (first_of_group j + n) k then get_or values n (pos 0) else pos 0) +ℤ counters_first j values n k)
      (λ i. (if nat_eq (item_of shape (first_of_group j + n)) i then get_or values n (pos 0) else pos 0)
      +ℤ items_first shape j values n i)
      old newest
      (Carries-then shape slot (counters_first j values n) (items_first shape j values n) old new so_far
      (λ k. if nat_eq (first_of_group j + n) k then get_or values n (pos 0) else pos 0)
      (λ i. if nat_eq (item_of shape (first_of_group j + n)) i then get_or values n (pos 0) else pos 0) newest next)
      (counters_first j values (suc n)) (items_first shape j values (suc n)) (λ k k_in. next_counter n k n_in)
      (λ i i_in. refl)

  -- no entry, and all eight
  pub first-none : (k : ℕ) → counters_first j values 0 k ≡ pos 0
  first-none k = by (nat_eq j (group_of k))
    where
      by : (b : Bool) → (if b && nat_lt (k % 8) 0 then entry values k else pos 0) ≡ pos 0
      by true = let none : nat_lt (k % 8) 0 ≡ false = grind (arith, nat_tests) in rw none refl
      by false = refl

  pub first-all : (k : ℕ) → counters_first j values 8 k ≡ (if nat_eq j (group_of k) then entry values k else pos 0)
  first-all k =
      let all : nat_lt (k % 8) 8 ≡ true = grind (arith, nat_tests) in
      rw all (by (nat_eq j (group_of k)))
    where
      by : (b : Bool) → (if b && true then entry values k else pos 0) ≡ (if b then entry values k else pos 0)
      by true = refl
      by false = refl

  -- an entry that wasn't added yet, and what was added to an item
  pub first-next : (n : ℕ) → n < 8 → counters_first j values n (first_of_group j + n) ≡ pos 0
  first-next n n_in =
      let group : nat_eq j (group_of (first_of_group j + n)) ≡ true = eq-eqb j _ (omega arith) in
      let none : nat_lt ((first_of_group j + n) % 8) n ≡ false = grind (arith, nat_tests) in
      rw (group, none) refl

  pub items_first-small : ((n : ℕ) → unsigned_abs (get_or values n (pos 0)) ≤ 128) → (n i : ℕ)
      → unsigned_abs (items_first shape j values n i) ≤ 128 * n
  items_first-small small zero i = omega (arith, ints)
  items_first-small small (suc n) i =
      by (nat_eq (item_of shape (first_of_group j + n)) i) (items_first-small small n i)
    where
      by : (b : Bool) → unsigned_abs (items_first shape j values n i) ≤ 128 * n
          → unsigned_abs ((if b then get_or values n (pos 0) else pos 0) +ℤ items_first shape j values n i)
          ≤ 128 * suc n
      by true rest = omega (arith, ints, small n)
      by false rest = omega (arith, ints)

-- what a step of the pass in a slot moves is what is carried more
module _ (facts : Facts) (h : History) (held : ℕ → ℕ) (slot p : ℕ)
    (stands : StandsIn pages facts facts.layout.cpus h held slot p) (amounts : Amounts)
    (keeps : KeepsAmounts facts h held amounts) (step : Step) where
  pub KeepsAmounts-goes_on : (next : Amounts)
      → Carries facts.layout slot (λ k. moved k step) (λ i. moved_of_item facts.layout i step) amounts next
      → KeepsAmounts facts (record { caller = p; step = step } ∷ h) held next
  KeepsAmounts-goes_on next on = record {
    shaped = on.shaped;
    by_counter = λ s k s_in k_in.
        on.by_counter s k k_in
        ∙ ap (λ x. if nat_eq slot s then moved k step +ℤ x else x) (keeps.by_counter s k s_in k_in)
        ∙ sym (ap (carried k) (held_events-works pages facts facts.layout.cpus h held slot p stands step s)
        ∙ if-map (carried k) (nat_eq slot s) (record { caller = p; step = step } ∷ held_events held h s)
        (held_events held h s));
    by_item = λ s i s_in i_in.
        on.by_item s i i_in
        ∙ ap (λ x. if nat_eq slot s then moved_of_item facts.layout i step +ℤ x else x) (keeps.by_item s i s_in i_in)
        ∙ sym (ap (carried_of_item facts.layout i)
        (held_events-works pages facts facts.layout.cpus h held slot p stands step s)
        ∙ if-map (carried_of_item facts.layout i) (nat_eq slot s)
        (record { caller = p; step = step } ∷ held_events held h s) (held_events held h s));
  }
