-- For other crates too: how a fold goes on from each position.
use Rattle.std.proofs.Common.{◌≡◌, ◌≢◌, ℕ, suc, zero, ◌+◌, ◌-◌, ◌*◌, ◌/◌, ◌<◌, ◌≤◌, ◌+ℤ◌, ℤ, pos, negsuc, Bool, true}
use Rattle.std.proofs.Common.{false, List, [], ◌∷◌, ◌++◌, length, drop, add-one, refl, sym, ap, subst, ◌∙◌, arith}
use Rattle.std.proofs.Common.{drop-cons}
use Rattle.std.proofs.lemmas.Int.{ints}
use Rattle.std.proofs.lemmas.List.{drop_all}
use Rattle.std.proofs.lemmas.Nat.{div-mul-add}
use Rattle.std.proofs.Math.Nat.{mul-suc, mul_assoc}
use Rattle.std.specs.Prelude.{Option, Some, None, slice_index_or}
use Rattle.vms_calls.specs.Common.{AddG, AddS, CounterId, Diffs, GroupId, IsLayout, ItemId, LoadT, SetA, Shape, Step}
use Rattle.vms_calls.specs.Common.{Take, acknowledges, counter_at, entries_of, first_of_group, group_of, in_turn}
use Rattle.vms_calls.specs.Common.{item_count, place_count, taken_of_item, to_place, to_system}
use Rattle.vms_plans.specs.declared.due_steps.DueStep.TheVariants.{LoadsThreshold, Makes, Takes}
use Rattle.vms_plans.specs.Common.{Plan, acknowledged_plan, and_then, ends, groups_plan, makes, makes_all, place_groups}
use Rattle.vms_plans.specs.Common.{place_plan, places_plan, taken_plan, waits}
use Rattle.vms_cursors.specs.Cursors.{GoesOn, IsDue, Stops}
use Rattle.vms_cursors.specs.Folds.{fold_at, groups_from, items_from, items_left, place_end, places_from}
use Rattle.vms_cursors.specs.StepReadings.{number_in, taken_in}
use Rattle.vms_cursors.specs.Totals.{total_at}
use Rattle.vms_cursors.specs.declared.folds.Fold.{Fold}
use Rattle.vms_cursors.specs.declared.taken.Taken.{Taken}
use Rattle.vms_cursors.specs.declared.fold_positions.FoldPosition.TheVariants.{Places, Groups, Entries}
use Rattle.vms_cursors.proofs.FoldPlans.{groups-same, place_end-same}
use Rattle.vms_cursors.proofs.Goes.{waits-due, waits-goes, waits-stops}
use Rattle.vms_cursors.proofs.LayoutGroups.{eight-each}
use Rattle.vms_cursors.proofs.PlanEquations.{and_then-assoc, and_then-makes_all, due-along, goes-along, stops-along}
use Rattle.vms_cursors.proofs.TestGoes.{some_positions}
use Rattle.vms_cursors.proofs.StepReadings.{number-other, number-read, taken-other, taken-read}

mul-distrib : (e g : ℕ) → e * (g + 1) ≡ e * g + e
mul-distrib e g = rw (add-one g) (mul-suc e g)

none_left : (n k : ℕ) → n ≤ k → n - k ≡ 0
none_left n k most = omega (arith, most)

more_left : (n k : ℕ) → k < n → n - k ≡ suc (n - suc k)
more_left n k less = omega (arith, less)

-- a place has a group
pub first-is_left : (shape : Shape) → IsLayout shape → (taken : Taken) (g : ℕ)
    → taken.groups ≡ shape.positions / 8 * g → taken.groups < shape.positions / 8 * (g + 1)
first-is_left shape is taken g groups =
    omega (arith, groups, mul-distrib (shape.positions / 8) g, eight-each shape is, some_positions shape is)

-- a step that is known comes next
module _ {A : Type 0} (plan later : Plan A) (k : Step) (is : plan ≡ makes k later) where
  pub makes-due : IsDue plan (Makes k)
  makes-due = due-along (makes k later) plan (Makes k) is (waits-due (Makes k) (λ made. later))

  pub makes-goes : (step : Step) → k ≡ step → GoesOn plan step later
  makes-goes step same = goes-along (makes k later) plan step later later is refl
      (waits-goes (Makes k) (λ made. later) k step refl same)

  pub makes-stops : (step : Step) → (k ≡ step → ⊥) → Stops plan step
  makes-stops step other = stops-along (makes k later) plan step is (waits-stops (Makes k) (λ made. later) step other)

some-place : (k : ℕ) (z : ℤ) → z ≢ pos 0 → to_place k z ≡ AddG (record { number = k }) z ∷ []
some-place k (pos zero) some = absurd (some refl)
some-place k (pos (suc n)) some = refl
some-place k (negsuc n) some = refl

some-system : (i : ℕ) (z : ℤ) → z ≢ pos 0 → to_system i z ≡ AddS (record { number = i }) z ∷ []
some-system i (pos zero) some = absurd (some refl)
some-system i (pos (suc n)) some = refl
some-system i (negsuc n) some = refl

-- the additions of entries: none of 0
module _ (values : List ℤ) (k n : ℕ) (less : n < length values) where
  after_one : (z : ℤ) → slice_index_or values n (pos 0) ≡ z → in_turn to_place (k + n) (drop n values)
      ≡ to_place (k + n) z ++ in_turn to_place (k + (n + 1)) (drop (n + 1) values)
  after_one z is =
      let one : suc n ≡ n + 1 = sym (add-one n) in
      let next : suc (k + n) ≡ k + (n + 1) = omega arith in
      let head : drop n values ≡ z ∷ drop (suc n) values =
      drop-cons values n (pos 0) less ∙ ap (λ x. x ∷ drop (suc n) values) is in
      ap (in_turn to_place (k + n)) head
      ∙ ap (λ m. to_place (k + n) z ++ in_turn to_place m (drop (suc n) values)) next
      ∙ ap (λ m. to_place (k + n) z ++ in_turn to_place (k + (n + 1)) (drop m values)) one

  pub entry-zero : slice_index_or values n (pos 0) ≡ pos 0
      → in_turn to_place (k + n) (drop n values) ≡ in_turn to_place (k + (n + 1)) (drop (n + 1) values)
  entry-zero none = after_one (pos 0) none

  pub entry-some : (z : ℤ) → slice_index_or values n (pos 0) ≡ z → z ≢ pos 0
      → in_turn to_place (k + n) (drop n values)
      ≡ AddG (record { number = k + n }) z ∷ in_turn to_place (k + (n + 1)) (drop (n + 1) values)
  entry-some z is some = after_one z is
      ∙ ap (λ ks. ks ++ in_turn to_place (k + (n + 1)) (drop (n + 1) values)) (some-place (k + n) z some)

pub entries-none : (values : List ℤ) (k n : ℕ) → length values ≤ n → in_turn to_place (k + n) (drop n values) ≡ []
entries-none values k n most = ap (in_turn to_place (k + n)) (drop_all n values most)

module _ (shape : Shape) (taken : Taken) where
  abbrev items_after : ℕ → List Step
  items_after i = items_left shape taken [] i (item_count shape - i)

  -- the additions to items: none of 0
  item-next : (i : ℕ) → i < item_count shape → (z : ℤ) → total_at taken.totals i ≡ z
      → items_after i ≡ to_system i z ++ items_after (i + 1)
  item-next i less z is =
      let total = total_at taken.totals i +ℤ taken_of_item shape i taken.groups [] in
      let same : total ≡ z = omega (arith, ints, is) in
      ap (items_left shape taken [] i) (more_left (item_count shape) i less)
      ∙ ap (λ x. to_system i x ++ items_after (suc i)) same
      ∙ ap (λ k. to_system i z ++ items_after k) (sym (add-one i))

  pub item-zero : (i : ℕ) → i < item_count shape → total_at taken.totals i ≡ pos 0
      → items_after i ≡ items_after (i + 1)
  item-zero i less none = item-next i less (pos 0) none

  pub items-none : (i : ℕ) → item_count shape ≤ i → items_after i ≡ []
  items-none i most = ap (items_left shape taken [] i) (none_left (item_count shape) i most)

  pub item-some : (i : ℕ) → i < item_count shape → (z : ℤ) → total_at taken.totals i ≡ z → z ≢ pos 0
      → items_from shape taken [] i ≡ makes (AddS (record { number = i }) z) (items_from shape taken [] (i + 1))
  item-some i less z is some = ap (λ ks. makes_all ks (ends (tt {0})))
      (item-next i less z is ∙ ap (λ ks. ks ++ items_after (i + 1)) (some-system i z some))

  pub items-ended : (i : ℕ) → item_count shape ≤ i → items_from shape taken [] i ≡ ends (tt {0})
  items-ended i most = ap (λ ks. makes_all ks (ends (tt {0}))) (items-none i most)

  -- the next item for which something was taken
  module _ (from i : ℕ) (same : items_after from ≡ items_after i) where
    pub items-over : item_count shape ≤ i → items_from shape taken [] from ≡ ends (tt {0})
    items-over most = ap (λ ks. makes_all ks (ends (tt {0}))) same ∙ items-ended i most

    module _ (less : i < item_count shape) (z : ℤ) (is : total_at taken.totals i ≡ z) (some : z ≢ pos 0) where
      abbrev item : ItemId
      item = record { number = i }

      item-is : items_from shape taken [] from ≡ makes (AddS item z) (items_from shape taken [] (i + 1))
      item-is = ap (λ ks. makes_all ks (ends (tt {0}))) same ∙ item-some i less z is some

      pub item-due : IsDue (items_from shape taken [] from) (Makes (AddS item z))
      item-due = makes-due (items_from shape taken [] from) (items_from shape taken [] (i + 1)) (AddS item z) item-is

      module _ (step : Step) where
        pub item-goes : AddS item z ≡ step
            → GoesOn (items_from shape taken [] from) step (items_from shape taken [] (i + 1))
        item-goes = makes-goes (items_from shape taken [] from) (items_from shape taken [] (i + 1)) (AddS item z)
            item-is step

        pub item-stops : (AddS item z ≡ step → ⊥) → Stops (items_from shape taken [] from) step
        item-stops = makes-stops (items_from shape taken [] from) (items_from shape taken [] (i + 1)) (AddS item z)
            item-is step

  module _ (fold : Fold) where
    -- places
    pub places-none : (g : ℕ) → place_count shape ≤ g → fold_at shape fold (Places taken g) ≡ items_from
        shape taken [] 0
    places-none g most = ap (λ n. and_then (places_plan shape fold.is_own fold.cpu g n [])
        (λ all. items_from shape taken all 0))
        (none_left (place_count shape) g most)

    module _ (g : ℕ) (less : g < place_count shape) (groups : taken.groups ≡ shape.positions / 8 * g)
        (eight : 8 * (shape.positions / 8) ≡ shape.positions) where
      abbrev each : ℕ
      each = shape.positions / 8

      abbrev items : List Diffs → Plan (Unit {0})
      items all = items_from shape taken all 0

      abbrev rest : List Diffs → Plan (List Diffs)
      rest ws = places_plan shape fold.is_own fold.cpu (suc g) (place_count shape - suc g) ws

      rest-is : (end : (List Diffs → Plan (Unit {0})) → List Diffs → Plan (Unit {0}))
          → end (λ ws. and_then (rest ws) items) ≡ end (λ ws. places_from shape taken fold (g + 1) ws)
      rest-is end = ap (λ k. end (λ ws. and_then
          (places_plan shape fold.is_own fold.cpu k (place_count shape - k) ws) items)) (sym (add-one g))

      whole : (b : Bool) → acknowledges shape fold.is_own g ≡ b → fold_at shape fold (Places taken g)
          ≡ and_then (and_then (place_plan shape fold.is_own fold.cpu b g []) rest) items
      whole b is = ap (λ n. and_then (places_plan shape fold.is_own fold.cpu g n []) items)
          (more_left (place_count shape) g less)
          ∙ ap (λ x. and_then (and_then (place_plan shape fold.is_own fold.cpu x g []) rest) items) is

      first_group : group_of (counter_at shape g 0) ≡ taken.groups
      first_group = rw groups (div-mul-first each g shape.positions eight)
        where
          div-mul-first : (e k p : ℕ) → 8 * e ≡ p → (p * k + 0) / 8 ≡ e * k
          div-mul-first e k p is = subst (λ q. (q * k + 0) / 8 ≡ e * k) is
              (ap (λ n. n / 8) (let sum : 8 * e * k + 0 ≡ e * k * 8 + 0 = omega (arith, mul_assoc 8 e k) in sum)
              ∙ div-mul-add (e * k) 8 0 (omega arith))

      all_groups : each ≡ each * (g + 1) - taken.groups
      all_groups = omega (arith, groups, mul-distrib each g)

      groups-are : place_groups shape fold.is_own fold.cpu g []
          ≡ groups_plan fold.cpu taken.groups (each * (g + 1) - taken.groups) []
      groups-are = ap (λ j. groups_plan fold.cpu j each []) first_group
          ∙ ap (λ n. groups_plan fold.cpu taken.groups n []) all_groups

      pub place-unknown : acknowledges shape fold.is_own g ≡ false
          → fold_at shape fold (Places taken g) ≡ fold_at shape fold (Groups taken g None)
      place-unknown is = whole false is
          ∙ and_then-assoc (place_groups shape fold.is_own fold.cpu g []) rest items
          ∙ ap (and_then (place_groups shape fold.is_own fold.cpu g [])) (rest-is (λ more. more))
          ∙ ap (λ plan. and_then plan (place_end shape taken fold g None)) groups-are

      module _ (is : acknowledges shape fold.is_own g ≡ true) where
        abbrev next : Step → Plan (Unit {0})
        next step = and_then (and_then (acknowledged_plan shape fold.is_own fold.cpu g [] step) rest) items

        pub place-due : IsDue (fold_at shape fold (Places taken g)) (LoadsThreshold (record { number = g }))
        place-due = due-along (waits (LoadsThreshold (record { number = g })) next)
            (fold_at shape fold (Places taken g)) (LoadsThreshold (record { number = g })) (whole true is)
            (waits-due (LoadsThreshold (record { number = g })) next)

        pub place-stops : (step : Step) → number_in g step ≡ None → Stops (fold_at shape fold (Places taken g)) step
        place-stops step none = stops-along (waits (LoadsThreshold (record { number = g })) next)
            (fold_at shape fold (Places taken g)) step (whole true is)
            (waits-stops (LoadsThreshold (record { number = g })) next step
            (number-other (record { number = g }) step none))

        loaded-is : (t a : ℕ) → next (LoadT (record { number = g }) t a)
            ≡ fold_at shape fold (Groups taken g (Some a))
        loaded-is t a =
            let end = λ (ws : List Diffs). makes (SetA (record { number = g }) a) (ends ws) in
            ap (λ plan. and_then plan items)
            (and_then-assoc (place_groups shape fold.is_own fold.cpu g []) end rest)
            ∙ and_then-assoc (place_groups shape fold.is_own fold.cpu g [])
            (λ ws. makes (SetA (record { number = g }) a) (rest ws)) items
            ∙ ap (and_then (place_groups shape fold.is_own fold.cpu g []))
            (rest-is (λ more ws. makes (SetA (record { number = g }) a) (more ws)))
            ∙ ap (λ plan. and_then plan (place_end shape taken fold g (Some a))) groups-are

        pub place-goes : (step : Step) (a : ℕ) → number_in g step ≡ Some a
            → GoesOn (fold_at shape fold (Places taken g)) step (fold_at shape fold (Groups taken g (Some a)))
        place-goes step a told =
            let read = number-read (record { number = g }) step a told in
            goes-along (waits (LoadsThreshold (record { number = g })) next)
            (fold_at shape fold (Places taken g)) step (next (LoadT (record { number = g }) read.0 a))
            (fold_at shape fold (Groups taken g (Some a))) (whole true is) (loaded-is read.0 a)
            (waits-goes (LoadsThreshold (record { number = g })) next (LoadT (record { number = g }) read.0 a) step
            refl read.1)

    -- the groups of a place
    module _ (g : ℕ) (number : Option ℕ) where
      pub groups-none : shape.positions / 8 * (g + 1) ≤ taken.groups
          → fold_at shape fold (Groups taken g number) ≡ place_end shape taken fold g number []
      groups-none most =
          ap (λ n. and_then (groups_plan fold.cpu taken.groups n []) (place_end shape taken fold g number))
          (none_left (shape.positions / 8 * (g + 1)) taken.groups most)

      module _ (less : taken.groups < shape.positions / 8 * (g + 1)) where
        abbrev j : GroupId
        j = record { number = taken.groups }

        abbrev left : ℕ
        left = shape.positions / 8 * (g + 1) - suc taken.groups

        abbrev after_take : Step → Plan (Unit {0})
        after_take step = and_then
            (taken_plan taken.groups (λ w. groups_plan fold.cpu (suc taken.groups) left (w ∷ [])) step)
            (place_end shape taken fold g number)

        take-is : fold_at shape fold (Groups taken g number) ≡ waits (Takes fold.cpu j) after_take
        take-is = ap (λ n. and_then (groups_plan fold.cpu taken.groups n []) (place_end shape taken fold g number))
            (more_left (shape.positions / 8 * (g + 1)) taken.groups less)

        pub take-due : IsDue (fold_at shape fold (Groups taken g number)) (Takes fold.cpu j)
        take-due = due-along (waits (Takes fold.cpu j) after_take) (fold_at shape fold (Groups taken g number))
            (Takes fold.cpu j) take-is (waits-due (Takes fold.cpu j) after_take)

        module _ (step : Step) where
          pub take-stops : taken_in fold.cpu.number taken.groups step ≡ None
              → Stops (fold_at shape fold (Groups taken g number)) step
          take-stops none = stops-along (waits (Takes fold.cpu j) after_take)
              (fold_at shape fold (Groups taken g number)) step take-is
              (waits-stops (Takes fold.cpu j) after_take step (taken-other fold.cpu j step none))

          module _ (later : Taken) (w : Diffs) (one_more : later.groups ≡ suc taken.groups)
              (totals : (i : ℕ)
              → total_at later.totals i ≡ total_at taken.totals i +ℤ entries_of shape i taken.groups w) where
            abbrev added : List Step
            added = in_turn to_place (first_of_group taken.groups) w.values

            added-is : added ≡ in_turn to_place (first_of_group (later.groups - 1) + 0) (drop 0 w.values)
            added-is = ap (λ n. in_turn to_place n w.values)
                (let first : first_of_group taken.groups ≡ first_of_group (later.groups - 1) + 0 =
                omega (arith, one_more) in first)

            left-is : and_then (groups_plan fold.cpu (suc taken.groups) left (w ∷ []))
                (place_end shape taken fold g number) ≡ groups_from shape later fold g number
            left-is =
                groups-same fold.cpu (suc taken.groups) left (w ∷ []) [] (place_end shape taken fold g number)
                (place_end shape later fold g number)
                (place_end-same shape taken later w one_more totals fold g number)
                ∙ ap (λ n. and_then (groups_plan fold.cpu n (shape.positions / 8 * (g + 1) - n) [])
                (place_end shape later fold g number)) (sym one_more)

            pub take-goes : length w.values ≡ 8 → taken_in fold.cpu.number taken.groups step ≡ Some w
                → GoesOn (fold_at shape fold (Groups taken g number)) step
                (fold_at shape fold (Entries later g number w 0))
            take-goes whole told = goes-along (waits (Takes fold.cpu j) after_take)
                (fold_at shape fold (Groups taken g number)) step (after_take (Take fold.cpu j w))
                (fold_at shape fold (Entries later g number w 0)) take-is
                (and_then-makes_all added (groups_plan fold.cpu (suc taken.groups) left (w ∷ []))
                (place_end shape taken fold g number)
                ∙ ap (makes_all added) left-is
                ∙ ap (λ ks. makes_all ks (groups_from shape later fold g number)) added-is)
                (waits-goes (Takes fold.cpu j) after_take (Take fold.cpu j w) step (refl, refl, whole)
                (taken-read fold.cpu j step w told))

    -- the entries of a list
    module _ (g : ℕ) (number : Option ℕ) (w : Diffs) (whole : length w.values ≡ 8) where
      abbrev k : ℕ
      k = first_of_group (taken.groups - 1)

      pub list-ended : (n : ℕ) → 8 ≤ n
          → fold_at shape fold (Entries taken g number w n) ≡ fold_at shape fold (Groups taken g number)
      list-ended n most = ap (λ ks. makes_all ks (groups_from shape taken fold g number))
          (entries-none w.values k n (omega (arith, whole, most)))

      -- the next entry that isn't 0
      module _ (from n : ℕ)
          (same : (m : ℕ) → in_turn to_place (m + from) (drop from w.values) ≡ in_turn to_place (m + n)
          (drop n w.values))
        where
          abbrev here : Plan (Unit {0})
          here = fold_at shape fold (Entries taken g number w from)

          at : here ≡ fold_at shape fold (Entries taken g number w n)
          at = ap (λ ks. makes_all ks (groups_from shape taken fold g number)) (same k)

          pub list-over : 8 ≤ n → here ≡ fold_at shape fold (Groups taken g number)
          list-over most = at ∙ list-ended n most

          module _ (less : n < 8) (z : ℤ) (is : slice_index_or w.values n (pos 0) ≡ z) (some : z ≢ pos 0)
              (counter : CounterId) (counter_is : counter.number ≡ k + n) where
            abbrev later : Plan (Unit {0})
            later = fold_at shape fold (Entries taken g number w (n + 1))

            entry-is : here ≡ makes (AddG counter z) later
            entry-is = at ∙ ap (λ ks. makes_all ks (groups_from shape taken fold g number))
                (entry-some w.values k n (omega (arith, whole, less)) z is some)
                ∙ ap (λ c. makes (AddG c z) later)
                (let one : record { number = k + n } ≡ counter = ap (λ m. record { number = m })
                (sym counter_is) in one)

            pub entry-due : IsDue here (Makes (AddG counter z))
            entry-due = makes-due here later (AddG counter z) entry-is

            module _ (step : Step) where
              pub entry-goes : AddG counter z ≡ step → GoesOn here step later
              entry-goes = makes-goes here later (AddG counter z) entry-is step

              pub entry-stops : (AddG counter z ≡ step → ⊥) → Stops here step
              entry-stops = makes-stops here later (AddG counter z) entry-is step
