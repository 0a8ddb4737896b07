-- The plan of a fold is the same whether what was taken stands in lists or in totals.
use Rattle.std.proofs.Common.{◌≡◌, ℕ, suc, zero, ◌+◌, ◌-◌, ◌/◌, ◌+ℤ◌, pos, Bool, true, false, List, [], ◌∷◌, ◌++◌, refl}
use Rattle.std.proofs.Common.{sym, ap, ◌∙◌, append_assoc, append-nil, arith}
use Rattle.std.proofs.lemmas.Int.{ints}
use Rattle.std.proofs.Math.Path.{fun_ext}
use Rattle.std.specs.Prelude.{Option, Some, None}
use Rattle.vms_calls.specs.Common.{CpuId, Diffs, LoadT, SetA, Shape, Step, Take, acknowledges, counter_at, entries_of}
use Rattle.vms_calls.specs.Common.{first_of_group, group_of, in_turn, item_count, place_count, system_steps}
use Rattle.vms_calls.specs.Common.{taken_of_item, to_place, to_system}
use Rattle.vms_plans.specs.declared.due_steps.DueStep.TheVariants.{LoadsThreshold, Takes}
use Rattle.vms_plans.specs.Common.{Plan, acknowledged_plan, and_then, ends, fold_plan, groups_plan, makes, makes_all}
use Rattle.vms_plans.specs.Common.{place_groups, place_plan, places_plan, taken_plan, waits}
use Rattle.vms_cursors.specs.Folds.{fold_at, items_from, items_left, place_end, places_from}
use Rattle.vms_cursors.specs.Totals.{total_at}
use Rattle.vms_cursors.specs.declared.folds.Fold.{Fold}
use Rattle.vms_cursors.specs.declared.fold_positions.FoldPosition.TheVariants.{Places}
use Rattle.vms_cursors.specs.declared.taken.Taken.{Taken}
use Rattle.vms_cursors.proofs.PlanEquations.{and_then-assoc, and_then-makes_all}

-- what follows lists that begin in two ways is the same
abbrev pub AreSame : {B : Type 0} → (ws vs : List Diffs) → (f g : List Diffs → Plan B) → Type 1
AreSame ws vs f g = (x : List Diffs) → f (ws ++ x) ≡ g (vs ++ x)

module _ {B : Type 0} where
  none-same : (ws vs : List Diffs) (f g : List Diffs → Plan B) → AreSame ws vs f g → f ws ≡ g vs
  none-same ws vs f g same = ap f (sym (append-nil ws)) ∙ same [] ∙ ap g (append-nil vs)

  more-same : (ws vs xs : List Diffs) (f g : List Diffs → Plan B) → AreSame ws vs f g
      → AreSame (ws ++ xs) (vs ++ xs) f g
  more-same ws vs xs f g same = λ x.
      ap f (append_assoc ws xs x) ∙ same (xs ++ x) ∙ sym (ap g (append_assoc vs xs x))

  taken-same : (j : ℕ) (more other : Diffs → Plan (List Diffs)) (f g : List Diffs → Plan B)
      → ((w : Diffs) → and_then (more w) f ≡ and_then (other w) g) → (step : Step)
      → and_then (taken_plan j more step) f ≡ and_then (taken_plan j other step) g
  taken-same j more other f g same (Take d i w) =
      let ks = in_turn to_place (first_of_group j) w.values in
      and_then-makes_all ks (more w) f ∙ ap (makes_all ks) (same w) ∙ sym (and_then-makes_all ks (other w) g)
  taken-same j more other f g same step = refl

  pub groups-same : (c : CpuId) (j n : ℕ) (ws vs : List Diffs) (f g : List Diffs → Plan B) → AreSame ws vs f g
      → and_then (groups_plan c j n ws) f ≡ and_then (groups_plan c j n vs) g
  groups-same c j zero ws vs f g same = none-same ws vs f g same
  groups-same c j (suc n) ws vs f g same = ap (waits (Takes c (record { number = j }))) (fun_ext (taken-same j
      (λ w. groups_plan c (suc j) n (ws ++ (w ∷ []))) (λ w. groups_plan c (suc j) n (vs ++ (w ∷ []))) f g
      (λ w. groups-same c (suc j) n (ws ++ (w ∷ [])) (vs ++ (w ∷ [])) f g (more-same ws vs (w ∷ []) f g same))))

  module _ (shape : Shape) (is_own : Bool) (c : CpuId) where
    acknowledged-same : (g : ℕ) (ws vs : List Diffs) (f h : List Diffs → Plan B) → AreSame ws vs f h → (step : Step)
        → and_then (acknowledged_plan shape is_own c g ws step) f
        ≡ and_then (acknowledged_plan shape is_own c g vs step) h
    acknowledged-same g ws vs f h same (LoadT e t a) =
        let end = λ (taken : List Diffs). makes (SetA (record { number = g }) a) (ends taken) in
        and_then-assoc (place_groups shape is_own c g ws) end f
        ∙ groups-same c (group_of (counter_at shape g 0)) (shape.positions / 8) ws vs
        (λ taken. makes (SetA (record { number = g }) a) (f taken))
        (λ taken. makes (SetA (record { number = g }) a) (h taken))
        (λ x. ap (makes (SetA (record { number = g }) a)) (same x))
        ∙ sym (and_then-assoc (place_groups shape is_own c g vs) end h)
    acknowledged-same g ws vs f h same step = refl

    place-same : (b : Bool) (g : ℕ) (ws vs : List Diffs) (f h : List Diffs → Plan B) → AreSame ws vs f h
        → and_then (place_plan shape is_own c b g ws) f ≡ and_then (place_plan shape is_own c b g vs) h
    place-same true g ws vs f h same = ap (waits (LoadsThreshold (record { number = g })))
        (fun_ext (acknowledged-same g ws vs f h same))
    place-same false g ws vs f h same =
        groups-same c (group_of (counter_at shape g 0)) (shape.positions / 8) ws vs f h same

    pub places-same : (g n : ℕ) (ws vs : List Diffs) (f h : List Diffs → Plan B) → AreSame ws vs f h
        → and_then (places_plan shape is_own c g n ws) f ≡ and_then (places_plan shape is_own c g n vs) h
    places-same g zero ws vs f h same = none-same ws vs f h same
    places-same g (suc n) ws vs f h same =
        let b = acknowledges shape is_own g in
        let rest = λ (taken : List Diffs). places_plan shape is_own c (suc g) n taken in
        and_then-assoc (place_plan shape is_own c b g ws) rest f
        ∙ place-same b g ws vs (λ taken. and_then (rest taken) f) (λ taken. and_then (rest taken) h)
        (λ x. places-same (suc g) n (ws ++ x) (vs ++ x) f h (more-same ws vs x f h same))
        ∙ sym (and_then-assoc (place_plan shape is_own c b g vs) rest h)

-- a fold begins with nothing taken
module _ (shape : Shape) (taken : Taken) (none : taken.groups ≡ 0) (zeros : (i : ℕ) → total_at taken.totals i ≡ pos 0)
  where
    steps-same : (all : List Diffs) (i n : ℕ) → system_steps shape all i n ≡ items_left shape taken all i n
    steps-same all i zero = refl
    steps-same all i (suc n) =
        let same : taken_of_item shape i 0 all ≡ total_at taken.totals i +ℤ taken_of_item shape i taken.groups all =
        rw (none, zeros i) (omega (arith, ints)) in
        ap (λ z. to_system i z ++ system_steps shape all (suc i) n) same
        ∙ ap (λ rest. to_system i (total_at taken.totals i +ℤ taken_of_item shape i taken.groups all) ++ rest)
        (steps-same all (suc i) n)

    whole : (n : ℕ) → n ≡ n - 0
    whole n = omega arith

    pub fold-begins : (is_own : Bool) (c : CpuId)
        → fold_plan shape is_own c ≡ fold_at shape (record { cpu = c; is_own = is_own }) (Places taken 0)
    fold-begins is_own c =
        ap (λ n. and_then (places_plan shape is_own c 0 n [])
        (λ all. makes_all (system_steps shape all 0 (item_count shape)) (ends (tt {0})))) (whole (place_count shape))
        ∙ ap (and_then (places_plan shape is_own c 0 (place_count shape - 0) [])) (fun_ext (λ all.
        ap (λ n. makes_all (system_steps shape all 0 n) (ends (tt {0}))) (whole (item_count shape))
        ∙ ap (λ ks. makes_all ks (ends (tt {0}))) (steps-same all 0 (item_count shape - 0))))

-- a list more that was taken
module _ (shape : Shape) (taken later : Taken) (w : Diffs) (one_more : later.groups ≡ suc taken.groups)
    (totals : (i : ℕ)
    → total_at later.totals i ≡ total_at taken.totals i +ℤ entries_of shape i taken.groups w) where
  item-same : (x : List Diffs) (i : ℕ) → total_at taken.totals i +ℤ taken_of_item shape i taken.groups (w ∷ x)
      ≡ total_at later.totals i +ℤ taken_of_item shape i later.groups x
  item-same x i = rw (one_more, totals i) (omega (arith, ints))

  items-same : (x : List Diffs) (i n : ℕ) → items_left shape taken (w ∷ x) i n ≡ items_left shape later x i n
  items-same x i zero = refl
  items-same x i (suc n) =
      ap (λ z. to_system i z ++ items_left shape taken (w ∷ x) (suc i) n) (item-same x i)
      ∙ ap (λ rest. to_system i (total_at later.totals i +ℤ taken_of_item shape i later.groups x) ++ rest)
      (items-same x (suc i) n)

  all-same : (x : List Diffs) → items_from shape taken (w ∷ x) 0 ≡ items_from shape later x 0
  all-same x = ap (λ ks. makes_all ks (ends (tt {0}))) (items-same x 0 (item_count shape - 0))

  pub places_from-same : (fold : Fold) (g : ℕ) (x : List Diffs)
      → places_from shape taken fold g (w ∷ x) ≡ places_from shape later fold g x
  places_from-same fold g x = places-same shape fold.is_own fold.cpu g (place_count shape - g) (w ∷ x) x
      (λ all. items_from shape taken all 0) (λ all. items_from shape later all 0) (λ y. all-same (x ++ y))

  pub place_end-same : (fold : Fold) (g : ℕ) (number : Option ℕ) (x : List Diffs)
      → place_end shape taken fold g number (w ∷ x) ≡ place_end shape later fold g number x
  place_end-same fold g (Some a) x =
      ap (makes (SetA (record { number = g }) a)) (places_from-same fold (g + 1) x)
  place_end-same fold g None x = places_from-same fold (g + 1) x
