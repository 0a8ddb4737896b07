-- The steps of a fold are those that run through its plan.
use Rattle.std.proofs.Common.{◌≡◌, ℕ, suc, zero, ◌/◌, Bool, true, false, List, [], ◌∷◌, ◌++◌, length, refl, sym, ap}
use Rattle.std.proofs.Common.{subst, ◌∙◌, append-nil, append_assoc}
use Rattle.std.proofs.lemmas.List.Elements.{All-cons, All-head, All-nil, All-tail}
use Rattle.std.specs.Prelude.{All}
use Rattle.vms_calls.specs.Common.{Diffs, CpuId, GroupId, PlaceId, Shape, place_count, item_count, counter_at, group_of}
use Rattle.vms_calls.specs.Common.{first_of_group, Step, LoadT, SetA, Take, in_turn, FoundPlace, HasGroups, IsFold}
use Rattle.vms_calls.specs.Common.{acknowledges, group_steps, lists_of, place_steps, system_steps, to_place}
use Rattle.vms_plans.specs.Common.{Runs, ends, makes, makes_all, groups_plan, place_groups, place_plan, places_plan}
use Rattle.vms_plans.specs.Common.{fold_plan}
use Rattle.vms_plans.proofs.PlanLaws.{runs-and_then, splits-and_then, runs-makes_all, splits-makes_all, runs-makes_only}
use Rattle.vms_plans.proofs.PlanLaws.{makes_only, ends_only}

abbrev IsEight : Diffs → Type 0
IsEight w = length w.values ≡ 8

module _ (c : CpuId) where
  groups-run : (j : ℕ) (found ws : List Diffs) → All IsEight found
      → Runs (groups_plan c j (length found) ws) (in_turn (group_steps c) j found) (ws ++ found)
  groups-run j [] ws eight = sym (append-nil ws)
  groups-run j (w ∷ found) ws eight =
      let more = in_turn (group_steps c) (suc j) found in
      let plan = groups_plan c (suc j) (length found) (ws ++ (w ∷ [])) in (
        (refl, refl, All-head IsEight w found eight),
        runs-makes_all (in_turn to_place (first_of_group j) w.values) plan more (ws ++ (w ∷ found))
            (subst (Runs plan more) (append_assoc ws (w ∷ []) found)
            (groups-run (suc j) found (ws ++ (w ∷ [])) (All-tail IsEight w found eight))),
      )

  record FoundGroups (j n : ℕ) (ws : List Diffs) (steps : List Step) (all : List Diffs) : Type 0 where
    groups : List Diffs
    one_each : length groups ≡ n
    eight_each : All IsEight groups
    in_order : steps ≡ in_turn (group_steps c) j groups
    answers : all ≡ ws ++ groups

  groups-told : (j n : ℕ) (ws : List Diffs) (steps : List Step) (all : List Diffs)
      → Runs (groups_plan c j n ws) steps all → FoundGroups j n ws steps all
  groups-told j zero ws steps all run =
      let last = ends_only ws all steps run in
      record {
        groups = [];
        one_each = refl;
        eight_each = All-nil IsEight;
        in_order = last.0;
        answers = sym last.1 ∙ sym (append-nil ws);
      }
  groups-told j (suc n) ws [] all run = absurd run
  groups-told j (suc n) ws (Take d i w ∷ rest) all run =
      let j' : GroupId = record { number = j } in
      let entries : List Step = in_turn to_place (first_of_group j) w.values in
      let parts = splits-makes_all entries (groups_plan c (suc j) n (ws ++ (w ∷ []))) rest all run.1 in
      let later = groups-told (suc j) n (ws ++ (w ∷ [])) parts.0 all parts.2 in
      record {
        groups = w ∷ later.groups;
        one_each = ap suc later.one_each;
        eight_each = All-cons IsEight w later.groups run.0.2 later.eight_each;
        in_order = ap (λ x. Take x i w ∷ rest) (sym run.0.0) ∙ ap (λ x. Take c x w ∷ rest) (sym run.0.1)
            ∙ ap (λ ks. Take c j' w ∷ ks) parts.1 ∙ ap (λ ks. Take c j' w ∷ (entries ++ ks)) later.in_order;
        answers = later.answers ∙ append_assoc ws (w ∷ []) later.groups;
      }
  groups-told j (suc n) ws (x ∷ rest) all run = absurd run.0

module _ (shape : Shape) (is_own : Bool) (c : CpuId) where
  place_groups-run : (g : ℕ) (found : FoundPlace) (ws : List Diffs) → HasGroups shape found
      → Runs (place_groups shape is_own c g ws)
      (in_turn (group_steps c) (group_of (counter_at shape g 0)) found.groups) (ws ++ found.groups)
  place_groups-run g found ws has =
      let j = group_of (counter_at shape g 0) in
      subst (λ n. Runs (groups_plan c j n ws) (in_turn (group_steps c) j found.groups) (ws ++ found.groups)) has.one_each
      (groups-run c j found.groups ws has.eight_each)

  place-runs : (b : Bool) (g : ℕ) (found : FoundPlace) (ws : List Diffs) → HasGroups shape found
      → Runs (place_plan shape is_own c b g ws) (place_steps shape b c g found) (ws ++ found.groups)
  place-runs true g found ws has =
      let set : Step = SetA (record { number = g }) found.threshold.number in (
        refl,
        runs-and_then (place_groups shape is_own c g ws) (λ taken. makes set (ends taken))
            (in_turn (group_steps c) (group_of (counter_at shape g 0)) found.groups) (set ∷ []) (ws ++ found.groups)
            (ws ++ found.groups) (place_groups-run g found ws has) (refl, refl),
      )
  place-runs false g found ws has = place_groups-run g found ws has

  record ToldPlace (b : Bool) (g : ℕ) (ws : List Diffs) (steps : List Step) (all : List Diffs) : Type 0 where
    found : FoundPlace
    has : HasGroups shape found
    in_order : steps ≡ place_steps shape b c g found
    answers : all ≡ ws ++ found.groups

  place-told : (b : Bool) (g : ℕ) (ws : List Diffs) (steps : List Step) (all : List Diffs)
      → Runs (place_plan shape is_own c b g ws) steps all → ToldPlace b g ws steps all
  place-told true g ws [] all run = absurd run
  place-told true g ws (LoadT f t a ∷ rest) all run =
      let g' : PlaceId = record { number = g } in
      let set : Step = SetA g' a in
      let j = group_of (counter_at shape g 0) in
      let parts = splits-and_then (place_groups shape is_own c g ws) (λ taken. makes set (ends taken)) rest all run.1 in
      let told = groups-told c j (shape.positions / 8) ws parts.first parts.answer parts.run in
      let last = makes_only (set ∷ []) parts.answer all parts.rest parts.later in
      let taken : List Step = in_turn (group_steps c) j told.groups in
      record {
        found = record { threshold = record { t = t; number = a }; groups = told.groups };
        has = record { one_each = told.one_each; eight_each = told.eight_each };
        in_order = ap (λ x. LoadT x t a ∷ rest) (sym run.0) ∙ ap (λ ks. LoadT g' t a ∷ ks) parts.in_order
            ∙ ap (λ ks. LoadT g' t a ∷ (ks ++ parts.rest)) told.in_order
            ∙ ap (λ ks. LoadT g' t a ∷ (taken ++ ks)) last.0;
        answers = sym last.1 ∙ told.answers;
      }
  place-told true g ws (x ∷ rest) all run = absurd run.0
  place-told false g ws steps all run =
      let told = groups-told c (group_of (counter_at shape g 0)) (shape.positions / 8) ws steps all run in
      record {
        found = record { threshold = record { t = 0; number = 0 }; groups = told.groups };
        has = record { one_each = told.one_each; eight_each = told.eight_each };
        in_order = told.in_order;
        answers = told.answers;
      }

  abbrev visited : ℕ → List FoundPlace → List Step
  visited g places = in_turn (λ g found. place_steps shape (acknowledges shape is_own g) c g found) g places

  places-run : (g : ℕ) (places : List FoundPlace) (ws : List Diffs) → All (HasGroups shape) places
      → Runs (places_plan shape is_own c g (length places) ws) (visited g places) (ws ++ lists_of places)
  places-run g [] ws has = sym (append-nil ws)
  places-run g (found ∷ places) ws has =
      let b = acknowledges shape is_own g in
      let taken : List Diffs = ws ++ found.groups in
      runs-and_then (place_plan shape is_own c b g ws) (λ ws'. places_plan shape is_own c (suc g) (length places) ws')
      (place_steps shape b c g found) (visited (suc g) places) taken (ws ++ lists_of (found ∷ places))
      (place-runs b g found ws (All-head (HasGroups shape) found places has))
      (subst (Runs (places_plan shape is_own c (suc g) (length places) taken) (visited (suc g) places))
      (append_assoc ws found.groups (lists_of places))
      (places-run (suc g) places taken (All-tail (HasGroups shape) found places has)))

  record FoundPlaces (g n : ℕ) (ws : List Diffs) (steps : List Step) (all : List Diffs) : Type 0 where
    places : List FoundPlace
    one_each : length places ≡ n
    groups : All (HasGroups shape) places
    in_order : steps ≡ visited g places
    answers : all ≡ ws ++ lists_of places

  places-told : (g n : ℕ) (ws : List Diffs) (steps : List Step) (all : List Diffs)
      → Runs (places_plan shape is_own c g n ws) steps all → FoundPlaces g n ws steps all
  places-told g zero ws steps all run =
      let last = ends_only ws all steps run in
      record {
        places = [];
        one_each = refl;
        groups = All-nil (HasGroups shape);
        in_order = last.0;
        answers = sym last.1 ∙ sym (append-nil ws);
      }
  places-told g (suc n) ws steps all run =
      let b = acknowledges shape is_own g in
      let parts = splits-and_then (place_plan shape is_own c b g ws) (λ ws'. places_plan shape is_own c (suc g) n ws')
      steps all run in
      let here = place-told b g ws parts.first parts.answer parts.run in
      let later = places-told (suc g) n parts.answer parts.rest all parts.later in
      record {
        places = here.found ∷ later.places;
        one_each = ap suc later.one_each;
        groups = All-cons (HasGroups shape) here.found later.places here.has later.groups;
        in_order = parts.in_order ∙ ap (λ ks. ks ++ parts.rest) here.in_order
            ∙ ap (λ ks. place_steps shape b c g here.found ++ ks) later.in_order;
        answers = later.answers ∙ ap (λ xs. xs ++ lists_of later.places) here.answers
            ∙ append_assoc ws here.found.groups (lists_of later.places);
      }

  abbrev added : List Diffs → List Step
  added taken = system_steps shape taken 0 (item_count shape)

  pub fold-runs : (steps : List Step) → IsFold shape is_own c steps → Runs (fold_plan shape is_own c) steps (tt {0})
  fold-runs steps call =
      subst (λ ks. Runs (fold_plan shape is_own c) ks (tt {0})) (sym call.in_order)
      (runs-and_then (places_plan shape is_own c 0 (place_count shape) []) (λ taken. makes_all (added taken) (ends (tt {0})))
      (visited 0 call.places) (added (lists_of call.places)) (lists_of call.places) (tt {0})
      (subst (λ n. Runs (places_plan shape is_own c 0 n []) (visited 0 call.places) (lists_of call.places)) call.one_each
      (places-run 0 call.places [] call.groups))
      (runs-makes_only (added (lists_of call.places)) (tt {0})))

  pub fold-told : (steps : List Step) → Runs (fold_plan shape is_own c) steps (tt {0}) → IsFold shape is_own c steps
  fold-told steps run =
      let parts = splits-and_then (places_plan shape is_own c 0 (place_count shape) [])
      (λ taken. makes_all (added taken) (ends (tt {0}))) steps (tt {0}) run in
      let told = places-told 0 (place_count shape) [] parts.first parts.answer parts.run in
      let last = makes_only (added parts.answer) (tt {0}) (tt {0}) parts.rest parts.later in
      record {
        places = told.places;
        one_each = told.one_each;
        groups = told.groups;
        in_order = parts.in_order ∙ ap (λ ks. ks ++ parts.rest) told.in_order
            ∙ ap (λ ks. visited 0 told.places ++ ks) (last.0 ∙ ap added told.answers);
      }
