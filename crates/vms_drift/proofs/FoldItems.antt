-- What a fold carries of an item at most.
use Rattle.std.proofs.Common.{◌≡◌, ℕ, suc, zero, ◌+◌, ◌-◌, ◌*◌, ◌/◌, ◌<◌, ◌≤◌, Bool, true, false, All, ℤ, pos, negsuc}
use Rattle.std.proofs.Common.{◌+ℤ◌, List, [], ◌∷◌, ◌++◌, length, inl, inr, ⊎_elim, refl, sym, subst, get_or, arith}
use Rattle.std.proofs.Common.{if◌then◌else◌, nat_eq, ne_eqb, unsigned_abs}
use Rattle.std.proofs.Math.Nat.{mul-le-mul_left}
use Rattle.std.proofs.lemmas.Bool.{cases_eq}
use Rattle.std.proofs.lemmas.Int.{ints}
use Rattle.vms_calls.specs.Common.{AddS, CpuId, Diffs, FoundPlace, HasGroups, IsFold, IsLayout, SetA, Shape, Step}
use Rattle.vms_calls.specs.Common.{acknowledges, count_below, counter_at, counter_count, entries_of, group_of}
use Rattle.vms_calls.specs.Common.{group_steps, in_turn, item_count, item_of, lists_of, most_threshold, moved_of_item}
use Rattle.vms_calls.specs.Common.{place_count, place_steps, system_steps, taken_of_item, to_place, to_system}
use Rattle.vms_calls.proofs.Common.{Each, each-append, fold-leaves}
use Rattle.vms_drift.proofs.ItemCounters.{count_below-split, item-most}
use Rattle.vms_drift.proofs.RunningSums.{Runs, runs-append, runs-quiet, runs-sum, runs-weaker, sum-append, sum-quiet}
use Rattle.vms_drift.proofs.RunningSums.{sum_steps, total-after}
use Rattle.vms_drift.specs.PresentCpus.{parts_of}
use Rattle.vms_history.proofs.Common.{sum_below-sizes}

module _ (shape : Shape) (layout : IsLayout shape) (c : CpuId) (i : ℕ) where
  abbrev most : ℕ
  most = parts_of shape i * most_threshold

  abbrev m : Step → ℤ
  m = moved_of_item shape i

  -- what the differentials of one CPU may hold of the item's counters below n
  abbrev held : ℕ → ℕ
  held n = count_below (λ k. if nat_eq (item_of shape k) i then most_threshold else 0) n

  held-most : (n : ℕ) → n ≤ counter_count shape → held n ≤ most
  held-most n within =
      let all : n + (counter_count shape - n) ≡ counter_count shape = omega (arith, within) in
      let split = count_below-split (λ k. if nat_eq (item_of shape k) i then most_threshold else 0) n
      (counter_count shape - n) in
      let whole = item-most shape layout i most_threshold in
      omega (arith, rw all at split, whole)

  entries-within : (j : ℕ) (w : Diffs) → ((n : ℕ) → unsigned_abs (get_or w.values n (pos 0)) ≤ most_threshold)
      → unsigned_abs (entries_of shape i j w)
      ≤ count_below (λ n. if nat_eq (item_of shape (8 * j + n)) i then most_threshold else 0) 8
  entries-within j w small =
      sum_below-sizes (λ n. if nat_eq (item_of shape (8 * j + n)) i then get_or w.values n (pos 0) else pos 0)
      (λ n. if nat_eq (item_of shape (8 * j + n)) i then most_threshold else 0) 8
      (λ n n_in. one (nat_eq (item_of shape (8 * j + n)) i) (get_or w.values n (pos 0)) (small n))
    where
      one : (b : Bool) (d : ℤ) → unsigned_abs d ≤ most_threshold
          → unsigned_abs (if b then d else pos 0) ≤ (if b then most_threshold else 0)
      one true d within = within
      one false d within = omega arith

  held-next : (j : ℕ) → held (8 * suc j)
      ≡ held (8 * j) + count_below (λ n. if nat_eq (item_of shape (8 * j + n)) i then most_threshold else 0) 8
  held-next j =
      let at : 8 * suc j ≡ 8 * j + 8 = omega arith in
      rw at (count_below-split (λ k. if nat_eq (item_of shape k) i then most_threshold else 0) (8 * j) 8)

  adds-quiet : (n : ℕ) (ds : List ℤ) → Each (λ step. m step ≡ pos 0) (in_turn to_place n ds)
  adds-quiet n [] = tt
  adds-quiet n (pos zero ∷ ds) = adds-quiet (suc n) ds
  adds-quiet n (pos (suc d) ∷ ds) = (refl, adds-quiet (suc n) ds)
  adds-quiet n (negsuc d ∷ ds) = (refl, adds-quiet (suc n) ds)

  group-run : (j : ℕ) (w : Diffs) (z : ℤ) → unsigned_abs z ≤ held (8 * j) → 8 * suc j ≤ counter_count shape
      → Runs m most (λ y. unsigned_abs y ≤ held (8 * suc j)) z (group_steps c j w)
  group-run j w z within last = (
    omega (arith, within, held-most (8 * j) (omega (arith, last))),
    λ small.
        let next : unsigned_abs (z +ℤ entries_of shape i j w) ≤ held (8 * suc j) =
        omega (arith, ints, within, entries-within j w small, held-next j) in
        runs-quiet m most (λ y. unsigned_abs y ≤ held (8 * suc j)) (in_turn to_place (8 * j) w.values) _
        (adds-quiet (8 * j) w.values) (omega (arith, next, held-most (8 * suc j) last)) next,
  )

  groups-run : (j : ℕ) (ws : List Diffs) (z : ℤ) → unsigned_abs z ≤ held (8 * j)
      → 8 * (j + length ws) ≤ counter_count shape
      → Runs m most (λ y. unsigned_abs y ≤ held (8 * (j + length ws))) z (in_turn (group_steps c) j ws)
  groups-run j [] z within last =
      let at : 8 * (j + 0) ≡ 8 * j = omega arith in
      (omega (arith, within, held-most (8 * j) (omega (arith, last))), rw at within)
  groups-run j (w ∷ ws) z within last =
      let at : 8 * (j + suc (length ws)) ≡ 8 * (suc j + length ws) = omega arith in
      runs-append m most (λ y. unsigned_abs y ≤ held (8 * suc j))
      (λ y. unsigned_abs y ≤ held (8 * (j + suc (length ws)))) (group_steps c j w)
      (in_turn (group_steps c) (suc j) ws) z
      (group-run j w z within (omega (arith, last)))
      (λ y small so_far.
      runs-weaker m most (λ x. unsigned_abs x ≤ held (8 * (suc j + length ws)))
      (λ x. unsigned_abs x ≤ held (8 * (j + suc (length ws)))) (in_turn (group_steps c) (suc j) ws) y
      (λ x fits. rw at fits)
      (groups-run (suc j) ws y so_far (omega (arith, last))))

  -- the first group of a place
  abbrev first : ℕ → ℕ
  first g = group_of (counter_at shape g 0)

  first-next : (g : ℕ) → first g + shape.positions / 8 ≡ first (suc g)
  first-next g = ⊎_elim (λ (e : shape.positions ≡ 8). rw e (omega arith))
      (λ (e : shape.positions ≡ 16). rw e (omega arith)) layout.positions

  first-within : (g : ℕ) → g ≤ place_count shape → 8 * first g ≤ counter_count shape
  first-within g within = omega (arith, mul-le-mul_left shape.positions within)

  place-groups : (g : ℕ) (found : FoundPlace) → HasGroups shape found → g < place_count shape → (z : ℤ)
      → unsigned_abs z ≤ held (8 * first g)
      → Runs m most (λ y. unsigned_abs y ≤ held (8 * first (suc g))) z
      (in_turn (group_steps c) (first g) found.groups)
  place-groups g found has within z small =
      let at : first g + length found.groups ≡ first (suc g) = rw has.one_each (first-next g) in
      runs-weaker m most (λ y. unsigned_abs y ≤ held (8 * (first g + length found.groups)))
      (λ y. unsigned_abs y ≤ held (8 * first (suc g))) (in_turn (group_steps c) (first g) found.groups) z
      (λ y fits. rw at at fits)
      (groups-run (first g) found.groups z small (rw at (first-within (suc g) (omega (arith, within)))))

  place-run : (b : Bool) (g : ℕ) (found : FoundPlace) → HasGroups shape found → g < place_count shape → (z : ℤ)
      → unsigned_abs z ≤ held (8 * first g)
      → Runs m most (λ y. unsigned_abs y ≤ held (8 * first (suc g))) z (place_steps shape b c g found)
  place-run true g found has within z small =
      let fits = held-most (8 * first g) (first-within g (omega (arith, within))) in (
        omega (arith, small, fits),
        λ s.
            runs-append m most (λ y. unsigned_abs y ≤ held (8 * first (suc g)))
            (λ y. unsigned_abs y ≤ held (8 * first (suc g))) (in_turn (group_steps c) (first g) found.groups)
            (SetA (record { number = g }) found.threshold.number ∷ []) _
            (place-groups g found has within _ (omega (arith, ints, small)))
            (λ y within so_far. runs-quiet m most (λ y. unsigned_abs y ≤ held (8 * first (suc g)))
            (SetA (record { number = g }) found.threshold.number ∷ []) y (refl, tt) within so_far),
      )
  place-run false g found has within z small = place-groups g found has within z small

  places-run : (is_own : Bool) (g : ℕ) (places : List FoundPlace) → All (HasGroups shape) places
      → g + length places ≤ place_count shape → (z : ℤ) → unsigned_abs z ≤ held (8 * first g)
      → Runs m most (λ y. Unit {0}) z
      (in_turn (λ g found. place_steps shape (acknowledges shape is_own g) c g found) g places)
  places-run is_own g [] has within z small =
      (omega (arith, small, held-most (8 * first g) (first-within g (omega (arith, within)))), tt)
  places-run is_own g (found ∷ places) has within z small =
      runs-append m most (λ y. unsigned_abs y ≤ held (8 * first (suc g))) (λ y. Unit {0})
      (place_steps shape (acknowledges shape is_own g) c g found)
      (in_turn (λ g found. place_steps shape (acknowledges shape is_own g) c g found) (suc g) places) z
      (place-run (acknowledges shape is_own g) g found (has 0 found (omega arith)) (omega (arith, within)) z small)
      (λ y fits so_far. places-run is_own (suc g) places (λ n d less. has (suc n) d (omega arith))
      (omega (arith, within)) y so_far)

  -- the additions to items: those of other items count nothing, and that of this one brings the sum to 0
  other-quiet : (l : ℕ) (z : ℤ) → nat_eq l i ≡ false → Each (λ step. m step ≡ pos 0) (to_system l z)
  other-quiet l (pos zero) other = tt
  other-quiet l (pos (suc n)) other = (rw other refl, tt)
  other-quiet l (negsuc n) other = (rw other refl, tt)

  later-quiet : (ws : List Diffs) (l n : ℕ) → i < l → Each (λ step. m step ≡ pos 0) (system_steps shape ws l n)
  later-quiet ws l zero past = tt
  later-quiet ws l (suc n) past = each-append (λ step. m step ≡ pos 0) (to_system l (taken_of_item shape l 0 ws))
      (system_steps shape ws (suc l) n)
      (other-quiet l (taken_of_item shape l 0 ws) (ne_eqb l i (λ e. omega arith)))
      (later-quiet ws (suc l) n (omega (arith, past)))

  one-run : (z y : ℤ) → unsigned_abs y ≤ most → y +ℤ sum_steps m (to_system i z) ≡ pos 0
      → Runs m most (λ x. Unit {0}) y (to_system i z)
  one-run (pos zero) y within none = (within, tt)
  one-run (pos (suc n)) y within none = (
    within,
    λ s. (
      let end : y +ℤ m (AddS (record { number = i }) (pos (suc n))) ≡ pos 0 = omega (arith, ints, none) in
          rw end (omega arith),
      tt,
    ),
  )
  one-run (negsuc n) y within none = (
    within,
    λ s. (
      let end : y +ℤ m (AddS (record { number = i }) (negsuc n)) ≡ pos 0 = omega (arith, ints, none) in
          rw end (omega arith),
      tt,
    ),
  )

  systems-run : (ws : List Diffs) (l n : ℕ) → l ≤ i → (y : ℤ) → unsigned_abs y ≤ most
      → y +ℤ sum_steps m (system_steps shape ws l n) ≡ pos 0
      → Runs m most (λ x. Unit {0}) y (system_steps shape ws l n)
  systems-run ws l zero from y within total = (within, tt)
  systems-run ws l (suc n) from y within total = elim (cases_eq l i) [
    | inl here ↦
        let quiet = later-quiet ws (suc l) n (omega (arith, here)) in
        let end : y +ℤ sum_steps m (to_system l (taken_of_item shape l 0 ws)) ≡ pos 0 = omega (
          arith,
          ints,
          total,
          sum-append m (to_system l (taken_of_item shape l 0 ws)) (system_steps shape ws (suc l) n),
          sum-quiet m (system_steps shape ws (suc l) n) quiet,
        ) in
        runs-append m most (λ x. Unit {0}) (λ x. Unit {0}) (to_system l (taken_of_item shape l 0 ws))
        (system_steps shape ws (suc l) n) y
        (subst (λ q. y +ℤ sum_steps m (to_system q (taken_of_item shape l 0 ws)) ≡ pos 0
        → Runs m most (λ x. Unit {0}) y (to_system q (taken_of_item shape l 0 ws))) (sym here)
        (one-run (taken_of_item shape l 0 ws) y within) end)
        (λ x fits done. runs-quiet m most (λ x. Unit {0}) (system_steps shape ws (suc l) n) x quiet fits tt)
    | inr other ↦
        let quiet = other-quiet l (taken_of_item shape l 0 ws) (ne_eqb l i other) in
        let rest : y +ℤ sum_steps m (system_steps shape ws (suc l) n) ≡ pos 0 = omega (
          arith,
          ints,
          total,
          sum-append m (to_system l (taken_of_item shape l 0 ws)) (system_steps shape ws (suc l) n),
          sum-quiet m (to_system l (taken_of_item shape l 0 ws)) quiet,
        ) in
        runs-append m most (λ x. x ≡ y) (λ x. Unit {0}) (to_system l (taken_of_item shape l 0 ws))
        (system_steps shape ws (suc l) n) y
        (runs-quiet m most (λ x. x ≡ y) (to_system l (taken_of_item shape l 0 ws)) y quiet within refl)
        (λ x fits is. systems-run ws (suc l) n (omega (arith, from, other)) x fits (rw is rest))
  ]

  pub fold-items : (is_own : Bool) (steps : List Step) → IsFold shape is_own c steps
      → Runs m most (λ y. Unit {0}) (pos 0) steps
  fold-items is_own steps folds =
      let visits = in_turn (λ g found. place_steps shape (acknowledges shape is_own g) c g found) 0 folds.places in
      let systems = system_steps shape (lists_of folds.places) 0 (item_count shape) in
      let all : sum_steps m steps ≡ pos 0 = omega (
        arith,
        ints,
        total-after m 0 steps [],
        (fold-leaves shape layout is_own c 0 steps [] folds).carries.items i,
      ) in
      let none : sum_steps m (visits ++ systems) ≡ pos 0 = rw folds.in_order at all in
      subst (Runs m most (λ y. Unit {0}) (pos 0)) (sym folds.in_order)
      (runs-append m most (λ y. Unit {0} × (y ≡ pos 0 +ℤ sum_steps m visits)) (λ y. Unit {0}) visits systems (pos 0)
      (runs-sum m most (λ y. Unit {0}) visits (pos 0)
      (places-run is_own 0 folds.places folds.groups (omega (arith, folds.one_each)) (pos 0) (omega arith)))
      (λ y within is. systems-run (lists_of folds.places) 0 (item_count shape) (omega arith) y within
      (let at = is.1 in omega (arith, ints, at, none, sum-append m visits systems))))
