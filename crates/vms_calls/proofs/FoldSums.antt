-- What the steps of a fold take out of the differentials they add to the global values.
use Rattle.std.proofs.Common.{◌≡◌, ◌≢◌, ℕ, suc, zero, ◌+◌, ◌*◌, ◌/◌, ◌%◌, ◌<◌, ◌≤◌, ◌⊎◌, inl, inr, ⊎_elim, Bool, true}
use Rattle.std.proofs.Common.{false, nat_eq, if◌then◌else◌, ℤ, pos, negsuc, neg_ℤ, ◌+ℤ◌, List, [], ◌∷◌, ◌++◌, length}
use Rattle.std.proofs.Common.{get_or, refl, sym, ap, ◌∙◌, arith, eq-eqb, eqb-true}
use Rattle.std.specs.Prelude.{All}
use Rattle.std.proofs.lemmas.Bool.{cases_lt, eqb-false, ne_eqb}
use Rattle.std.proofs.lemmas.Int.{ints}
use Rattle.std.proofs.lemmas.List.{get_or_past}
use Rattle.vms_history.specs.Common.{Diffs, CpuId, PlaceId, Shape, IsLayout, item_count, item_of, counter_at, group_of}
use Rattle.vms_history.specs.Common.{first_of_group, total, after}
use Rattle.vms_history.specs.declared.events.Event.{Event}
use Rattle.vms_history.proofs.Common.{sum_below-zeros}
use Rattle.vms_base.proofs.Common.{item_of-lt}
use Rattle.vms_core.specs.declared.steps.Step.{Step}
use Rattle.vms_core.specs.declared.steps.Step.TheVariants.{LoadT, SetA}
use Rattle.vms_calls.proofs.Amounts.{if-neg, if-neg_zero}
use Rattle.vms_calls.specs.Common.{in_turn, FoundPlace, HasGroups, IsFold, to_place, to_system, group_steps}
use Rattle.vms_calls.specs.Common.{place_steps, system_steps, acknowledges, lists_of, taken_of_item}
use Rattle.vms_core.specs.Common.{moved, moved_of_item, entries_of}

-- the sum of a measure of steps
abbrev pub sum_steps : (Step → ℤ) → List Step → ℤ
sum_steps m [] = pos 0
sum_steps m (step ∷ steps) = m step +ℤ sum_steps m steps

pub total-after : (m : Step → ℤ) (p : ℕ) (steps : List Step) (h : List (Event Step))
    → total m (after p steps h) ≡ sum_steps m steps +ℤ total m h
total-after m p [] h = omega (arith, ints)
total-after m p (step ∷ steps) h = omega (arith, ints, total-after m p steps (record { caller = p; step = step } ∷ h))

pub sum-append : (m : Step → ℤ) (xs ys : List Step) → sum_steps m (xs ++ ys) ≡ sum_steps m xs +ℤ sum_steps m ys
sum-append m [] ys = omega (arith, ints)
sum-append m (x ∷ xs) ys = omega (arith, ints, sum-append m xs ys)

to_place-moved : (k n : ℕ) (d : ℤ) → sum_steps (moved k) (to_place n d) ≡ (if nat_eq n k then neg_ℤ d else pos 0)
to_place-moved k n (pos zero) = sym (if-neg_zero (nat_eq n k))
to_place-moved k n (pos (suc d)) = omega (arith, ints)
to_place-moved k n (negsuc d) = omega (arith, ints)

to_system-moved : (shape : Shape) (i n : ℕ) (d : ℤ)
    → sum_steps (moved_of_item shape i) (to_system n d) ≡ (if nat_eq n i then neg_ℤ d else pos 0)
to_system-moved shape i n (pos zero) = sym (if-neg_zero (nat_eq n i))
to_system-moved shape i n (pos (suc d)) = omega (arith, ints)
to_system-moved shape i n (negsuc d) = omega (arith, ints)

to_place-of_item : (shape : Shape) (i n : ℕ) (d : ℤ) → sum_steps (moved_of_item shape i) (to_place n d) ≡ pos 0
to_place-of_item shape i n (pos zero) = refl
to_place-of_item shape i n (pos (suc d)) = omega (arith, ints)
to_place-of_item shape i n (negsuc d) = omega (arith, ints)

to_system-of_counter : (k n : ℕ) (d : ℤ) → sum_steps (moved k) (to_system n d) ≡ pos 0
to_system-of_counter k n (pos zero) = refl
to_system-of_counter k n (pos (suc d)) = omega (arith, ints)
to_system-of_counter k n (negsuc d) = omega (arith, ints)

-- the numbers for counter k in a list whose first number is for counter n
abbrev pub amount : ℕ → ℕ → List ℤ → ℤ
amount k n [] = pos 0
amount k n (d ∷ ds) = (if nat_eq n k then d else pos 0) +ℤ amount k (suc n) ds

pub amount-outside : (k n : ℕ) (ds : List ℤ) → (k < n) ⊎ (n + length ds ≤ k) → amount k n ds ≡ pos 0
amount-outside k n [] out = refl
amount-outside k n (d ∷ ds) out =
    let differ : nat_eq n k ≡ false = ne_eqb n k (⊎_elim (λ below e. omega arith) (λ above e. omega arith) out) in
    let rest = amount-outside k (suc n) ds (⊎_elim (λ below. inl (omega arith)) (λ above. inr (omega arith)) out) in
    rw differ (omega (arith, ints, rest))

amount-inside : (n i : ℕ) (ds : List ℤ) → amount (n + i) n ds ≡ get_or ds i (pos 0)
amount-inside n i [] = sym (get_or_past [] i (pos 0) (omega arith))
amount-inside n zero (d ∷ ds) =
    let same : nat_eq n (n + 0) ≡ true = eq-eqb n (n + 0) (omega arith) in
    rw same (omega (arith, ints, amount-outside (n + 0) (suc n) ds (inl (omega arith))))
amount-inside n (suc i) (d ∷ ds) =
    let differ : nat_eq n (n + suc i) ≡ false = ne_eqb n (n + suc i) (λ e. omega arith) in
    let at : n + suc i ≡ suc n + i = omega arith in
    let rest : amount (n + suc i) (suc n) ds ≡ get_or ds i (pos 0) = rw at (amount-inside (suc n) i ds) in
    rw differ (omega (arith, ints, rest))

pub amount-group : (j k : ℕ) (ds : List ℤ) → length ds ≡ 8
    → amount k (8 * j) ds ≡ (if nat_eq j (k / 8) then get_or ds (k % 8) (pos 0) else pos 0)
amount-group j k ds eight = by (nat_eq j (k / 8)) refl
  where
    by : (b : Bool) → nat_eq j (k / 8) ≡ b → amount k (8 * j) ds ≡ (if b then get_or ds (k % 8) (pos 0) else pos 0)
    by true same =
        let group : j ≡ k / 8 = eqb-true j (k / 8) same in
        let at : k ≡ 8 * j + k % 8 = omega arith in
        ap (λ n. amount n (8 * j) ds) at ∙ amount-inside (8 * j) (k % 8) ds
    by false differ = amount-outside k (8 * j) ds (⊎_elim (λ below. inl below)
        (λ above. let other : j ≢ k / 8 = eqb-false j (k / 8) differ in inr (omega arith)) (cases_lt k (8 * j)))

adds-moved : (k n : ℕ) (ds : List ℤ) → sum_steps (moved k) (in_turn to_place n ds) ≡ neg_ℤ (amount k n ds)
adds-moved k n [] = refl
adds-moved k n (d ∷ ds) = omega (
  arith,
  ints,
  sum-append (moved k) (to_place n d) (in_turn to_place (suc n) ds),
  to_place-moved k n d,
  if-neg (nat_eq n k) d,
  adds-moved k (suc n) ds,
)

pub group-moved : (k : ℕ) (c : CpuId) (j : ℕ) (w : Diffs) → length w.values ≡ 8
    → sum_steps (moved k) (group_steps c j w) ≡ pos 0
group-moved k c j w eight = omega (arith, ints, adds-moved k (8 * j) w.values, amount-group j k w.values eight)

adds-of_item : (shape : Shape) (i n : ℕ) (ds : List ℤ) → sum_steps (moved_of_item shape i) (in_turn to_place n ds)
    ≡ pos 0
adds-of_item shape i n [] = refl
adds-of_item shape i n (d ∷ ds) = omega (
  arith,
  ints,
  sum-append (moved_of_item shape i) (to_place n d) (in_turn to_place (suc n) ds),
  to_place-of_item shape i n d,
  adds-of_item shape i (suc n) ds,
)

pub group-of_item : (shape : Shape) (i : ℕ) (c : CpuId) (j : ℕ) (w : Diffs) → length w.values ≡ 8
    → sum_steps (moved_of_item shape i) (group_steps c j w) ≡ entries_of shape i j w
group-of_item shape i c j w eight = omega (arith, ints, adds-of_item shape i (8 * j) w.values)

-- what holds of the steps on each group sums up over the places
module _ (m : Step → ℤ) (c : CpuId) (worth : ℕ → Diffs → ℤ)
    (group : (j : ℕ) (w : Diffs) → length w.values ≡ 8 → sum_steps m (group_steps c j w) ≡ worth j w) where
  abbrev pub worths : ℕ → List Diffs → ℤ
  worths j [] = pos 0
  worths j (w ∷ ws) = worth j w +ℤ worths (suc j) ws

  worths-append : (j : ℕ) (ws vs : List Diffs) → worths j (ws ++ vs) ≡ worths j ws +ℤ worths (j + length ws) vs
  worths-append j [] vs = let at : j + 0 ≡ j = omega arith in rw at (omega (arith, ints))
  worths-append j (w ∷ ws) vs =
      let at : j + suc (length ws) ≡ suc j + length ws = omega arith in
      rw at (omega (arith, ints, worths-append (suc j) ws vs))

  groups-sum : (j : ℕ) (ws : List Diffs) → All (λ w. length w.values ≡ 8) ws
      → sum_steps m (in_turn (group_steps c) j ws) ≡ worths j ws
  groups-sum j [] eights = refl
  groups-sum j (w ∷ ws) eights = omega (
    arith,
    ints,
    sum-append m (group_steps c j w) (in_turn (group_steps c) (suc j) ws),
    group j w (eights 0 w (omega arith)),
    groups-sum (suc j) ws (λ n d less. eights (suc n) d (omega arith)),
  )

  module _ (shape : Shape) (layout : IsLayout shape) (loads : (g : PlaceId) (t a : ℕ) → m (LoadT g t a) ≡ pos 0)
      (sets : (g : PlaceId) (a : ℕ) → m (SetA g a) ≡ pos 0) where
    pub place-sum : (b : Bool) (g : ℕ) (found : FoundPlace) → HasGroups shape found
        → sum_steps m (place_steps shape b c g found) ≡ worths (group_of (counter_at shape g 0)) found.groups
    place-sum true g found has = omega (
      arith,
      ints,
      sum-append m (in_turn (group_steps c) (group_of (counter_at shape g 0)) found.groups)
          (SetA (record { number = g }) found.threshold.number ∷ []),
      groups-sum (group_of (counter_at shape g 0)) found.groups has.eight_each,
      loads (record { number = g }) found.threshold.t found.threshold.number,
      sets (record { number = g }) found.threshold.number,
    )
    place-sum false g found has = groups-sum (group_of (counter_at shape g 0)) found.groups has.eight_each

    pub next_group : (g : ℕ) → group_of (counter_at shape g 0) + shape.positions / 8
        ≡ group_of (counter_at shape (suc g) 0)
    next_group g = ⊎_elim (λ (e : shape.positions ≡ 8). rw e (omega arith))
        (λ (e : shape.positions ≡ 16). rw e (omega arith)) layout.positions

    pub places-sum : (is_own : Bool) (g : ℕ) (places : List FoundPlace) → All (HasGroups shape) places
        → sum_steps m (in_turn (λ g found. place_steps shape (acknowledges shape is_own g) c g found) g places)
        ≡ worths (group_of (counter_at shape g 0)) (lists_of places)
    places-sum is_own g [] has = refl
    places-sum is_own g (found ∷ places) has =
        let here = has 0 found (omega arith) in
        let at : group_of (counter_at shape g 0) + length found.groups ≡ group_of (counter_at shape (suc g) 0) =
        rw here.one_each (next_group g) in
        omega (
          arith,
          ints,
          sum-append m (place_steps shape (acknowledges shape is_own g) c g found)
              (in_turn (λ g found. place_steps shape (acknowledges shape is_own g) c g found) (suc g) places),
          place-sum (acknowledges shape is_own g) g found here,
          places-sum is_own (suc g) places (λ n d less. has (suc n) d (omega arith)),
          worths-append (group_of (counter_at shape g 0)) found.groups (lists_of places),
          ap (λ j. worths j (lists_of places)) at,
        )

pub nothing-worth : (k : ℕ) (c : CpuId) (j : ℕ) (ws : List Diffs)
    → worths (moved k) c (λ j w. pos 0) (group-moved k c) j ws ≡ pos 0
nothing-worth k c j [] = refl
nothing-worth k c j (w ∷ ws) = omega (arith, ints, nothing-worth k c (suc j) ws)

pub item-worth : (shape : Shape) (i : ℕ) (c : CpuId) (j : ℕ) (ws : List Diffs)
    → worths (moved_of_item shape i) c (entries_of shape i) (group-of_item shape i c) j ws ≡ taken_of_item shape i j ws
item-worth shape i c j [] = refl
item-worth shape i c j (w ∷ ws) = omega (arith, ints, item-worth shape i c (suc j) ws)

systems-of_counter : (shape : Shape) (ws : List Diffs) (k i n : ℕ) → sum_steps (moved k) (system_steps shape ws i n)
    ≡ pos 0
systems-of_counter shape ws k i zero = refl
systems-of_counter shape ws k i (suc n) = omega (
  arith,
  ints,
  sum-append (moved k) (to_system i (taken_of_item shape i 0 ws)) (system_steps shape ws (suc i) n),
  to_system-of_counter k i (taken_of_item shape i 0 ws),
  systems-of_counter shape ws k (suc i) n,
)

module _ (shape : Shape) (ws : List Diffs) (i : ℕ) where
  systems-below : (l n : ℕ) → (i < l) ⊎ (l + n ≤ i) → sum_steps (moved_of_item shape i) (system_steps shape ws l n)
      ≡ pos 0
  systems-below l zero out = refl
  systems-below l (suc n) out =
      let differ : nat_eq l i ≡ false = ne_eqb l i (⊎_elim (λ below e. omega arith) (λ above e. omega arith) out) in
      let none : sum_steps (moved_of_item shape i) (to_system l (taken_of_item shape l 0 ws)) ≡ pos 0 =
      to_system-moved shape i l (taken_of_item shape l 0 ws)
      ∙ ap (λ (b : Bool). if b then neg_ℤ (taken_of_item shape l 0 ws) else pos 0) differ in
      omega (
        arith,
        ints,
        sum-append (moved_of_item shape i) (to_system l (taken_of_item shape l 0 ws)) (system_steps shape ws (suc l) n),
        none,
        systems-below (suc l) n (⊎_elim (λ below. inl (omega arith)) (λ above. inr (omega arith)) out),
      )

  systems-sum : (l n : ℕ) → l ≤ i → i < l + n
      → sum_steps (moved_of_item shape i) (system_steps shape ws l n) ≡ neg_ℤ (taken_of_item shape i 0 ws)
  systems-sum l zero from to = absurd (omega arith)
  systems-sum l (suc n) from to =
      by (nat_eq l i) refl (λ (later : suc l ≤ i). systems-sum (suc l) n later (omega arith))
    where
      split : sum_steps (moved_of_item shape i) (system_steps shape ws l (suc n))
          ≡ sum_steps (moved_of_item shape i) (to_system l (taken_of_item shape l 0 ws))
          +ℤ sum_steps (moved_of_item shape i) (system_steps shape ws (suc l) n)
      split = sum-append (moved_of_item shape i) (to_system l (taken_of_item shape l 0 ws))
          (system_steps shape ws (suc l) n)

      first : (b : Bool) → nat_eq l i ≡ b → sum_steps (moved_of_item shape i) (to_system l (taken_of_item shape l 0 ws))
          ≡ (if b then neg_ℤ (taken_of_item shape l 0 ws) else pos 0)
      first b is = to_system-moved shape i l (taken_of_item shape l 0 ws)
          ∙ ap (λ (b : Bool). if b then neg_ℤ (taken_of_item shape l 0 ws) else pos 0) is

      by : (b : Bool) → nat_eq l i ≡ b
          → (suc l ≤ i → sum_steps (moved_of_item shape i) (system_steps shape ws (suc l) n)
          ≡ neg_ℤ (taken_of_item shape i 0 ws))
          → sum_steps (moved_of_item shape i) (system_steps shape ws l (suc n)) ≡ neg_ℤ (taken_of_item shape i 0 ws)
      by true is more =
          let same : l ≡ i = eqb-true l i is in
          omega (
            arith,
            ints,
            split,
            first true is,
            systems-below (suc l) n (inl (omega arith)),
            ap
                (λ l. taken_of_item shape l 0 ws) same,
          )
      by false is more =
          let other : l ≢ i = eqb-false l i is in
          omega (arith, ints, split, first false is, more (omega arith))

-- nothing is taken for what is no item of the layout
module _ (shape : Shape) (layout : IsLayout shape) (i : ℕ) (past : item_count shape ≤ i) where
  entries-past : (j : ℕ) (w : Diffs) → entries_of shape i j w ≡ pos 0
  entries-past j w = sum_below-zeros
      (λ n. if nat_eq (item_of shape (first_of_group j + n)) i then get_or w.values n (pos 0) else pos 0) 8
      (λ n below.
      let within = item_of-lt shape layout (first_of_group j + n) in
      let other : nat_eq (item_of shape (first_of_group j + n)) i ≡ false =
      ne_eqb (item_of shape (first_of_group j + n)) i (λ e. omega arith) in
      ap (λ (b : Bool). if b then get_or w.values n (pos 0) else pos 0) other)

  taken-past : (j : ℕ) (ws : List Diffs) → taken_of_item shape i j ws ≡ pos 0
  taken-past j [] = refl
  taken-past j (w ∷ ws) = omega (arith, ints, entries-past j w, taken-past (suc j) ws)

module _ (shape : Shape) (layout : IsLayout shape) (is_own : Bool) (c : CpuId) (steps : List Step)
    (folds : IsFold shape is_own c steps) where
  abbrev fold_visits : List Step
  fold_visits = in_turn (λ g found. place_steps shape (acknowledges shape is_own g) c g found) 0 folds.places

  abbrev fold_lists : List Diffs
  fold_lists = lists_of folds.places

  abbrev fold_systems : List Step
  fold_systems = system_steps shape fold_lists 0 (item_count shape)

  -- what a fold takes for a counter it adds to it
  pub fold-moves : (k : ℕ) → sum_steps (moved k) steps ≡ pos 0
  fold-moves k = omega (
    arith,
    ints,
    ap (sum_steps (moved k)) folds.in_order,
    sum-append (moved k) fold_visits fold_systems,
    places-sum (moved k) c (λ j w. pos 0) (group-moved k c) shape layout (λ g t a. refl)
        (λ g a. refl) is_own 0 folds.places folds.groups,
    nothing-worth k c (group_of (counter_at shape 0 0)) fold_lists,
    systems-of_counter shape fold_lists k 0 (item_count shape),
  )

  -- what it adds for an item is what it takes for the item
  systems-all : (i : ℕ) → sum_steps (moved_of_item shape i) fold_systems ≡ neg_ℤ (taken_of_item shape i 0 fold_lists)
  systems-all i = ⊎_elim
      (λ (within : i < item_count shape). systems-sum shape fold_lists i 0 (item_count shape) (omega arith)
      (omega arith))
      (λ (past : item_count shape ≤ i). omega (
        arith,
        ints,
        systems-below shape fold_lists i 0 (item_count shape) (inr (omega arith)),
        taken-past shape layout i past 0 fold_lists,
      ))
      (cases_lt i (item_count shape))

  pub fold-moves_of_item : (i : ℕ) → sum_steps (moved_of_item shape i) steps ≡ pos 0
  fold-moves_of_item i = omega (
    arith,
    ints,
    ap (sum_steps (moved_of_item shape i)) folds.in_order,
    sum-append (moved_of_item shape i) fold_visits fold_systems,
    places-sum (moved_of_item shape i) c (entries_of shape i) (group-of_item shape i c) shape layout (λ g t a. refl)
        (λ g a. refl) is_own 0 folds.places folds.groups,
    item-worth shape i c (group_of (counter_at shape 0 0)) fold_lists,
    ap (λ j. taken_of_item shape i j fold_lists) first_group,
    systems-all i,
  )
    where
      first_group : group_of (counter_at shape 0 0) ≡ 0
      first_group = omega arith
