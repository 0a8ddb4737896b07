-- The steps of a fold meet their conditions in a row.
use Rattle.std.proofs.Common.{◌≡◌, ◌≢◌, ℕ, suc, zero, ◌+◌, ◌/◌, ◌<◌, ◌≤◌, inl, ⊎_elim, Bool, true, false, nat_eq}
use Rattle.std.proofs.Common.{nat_lt, if◌then◌else◌, ℤ, pos, negsuc, neg_ℤ, ◌+ℤ◌, List, [], ◌∷◌, ◌++◌, length, Option}
use Rattle.std.proofs.Common.{Some, refl, sym, ap, ◌∙◌, subst, arith, eq-eqb}
use Rattle.std.specs.Prelude.{All}
use Rattle.std.proofs.lemmas.Bool.{and_parts, ltb-true, ne_eqb}
use Rattle.std.proofs.lemmas.Int.{ints}
use Rattle.vms_history.specs.Common.{Diffs, CpuId, IsLayout, IsCpu, IsPlace, IsZone, IsGroup, IsItem, place_count}
use Rattle.vms_history.specs.Common.{counter_count, group_count, item_count, counter_at, place_of, group_of}
use Rattle.vms_history.specs.Common.{first_of_group, own, after, total}
use Rattle.vms_history.proofs.Common.{own-mine, own-after, after-steps}
use Rattle.vms_core.specs.declared.steps.Facts.{Facts}
use Rattle.vms_core.specs.declared.steps.Step.{Step}
use Rattle.vms_core.specs.declared.steps.Step.TheVariants.{LoadT, AddG, AddS, Take, SetA}
use Rattle.vms_core.specs.Common.{Acknowledges, CarriesNothing, moved, moved_of_item, carried, carried_of_item, loaded}
use Rattle.vms_core.specs.Common.{took, has_put, entries_of, History}
use Rattle.vms_calls.specs.Common.{FoundPlace, HasGroups, IsFold, to_place, to_system, group_steps, place_steps}
use Rattle.vms_calls.specs.Common.{system_steps, acknowledges, lists_of, taken_of_item, in_turn}
use Rattle.vms_calls.proofs.Amounts.{if-zero_more, if-cancelled}
use Rattle.vms_calls.proofs.Agreement.{event}
use Rattle.vms_core.proofs.Common.{group-within}
use Rattle.vms_calls.proofs.FoldSums.{sum_steps, total-after, amount, amount-outside, amount-group, group-moved}
use Rattle.vms_calls.proofs.FoldSums.{group-of_item, place-sum, places-sum, nothing-worth, item-worth}
use Rattle.vms_calls.proofs.StepRuns.{Runs, Knows, runs-append}
use Rattle.vms_calls.proofs.TakenSteps.{OnlyMoves, loaded-kept, put-kept, took-made, only-groups, has-group}

module _ (facts : Facts) (layout : IsLayout facts.layout) (p : ℕ) (who : Option CpuId) where
  -- what a measure of own steps adds up to after further ones
  total-own : (m : Step → ℤ) (ks : List Step) (g : History)
      → total m (own (after p ks g) p) ≡ sum_steps m ks +ℤ total m (own g p)
  total-own m ks g = ap (total m) (own-after p ks g) ∙ total-after m p ks (own g p)

  total-next : (m : Step → ℤ) (k : Step) (g : History)
      → total m (own (event facts p k ∷ g) p) ≡ m k +ℤ total m (own g p)
  total-next m k g = ap (total m) (own-mine (event facts p k) g p refl)

  -- nothing is carried for counters
  abbrev NoneCarried : History → Type 0
  NoneCarried g = (k : ℕ) → carried k (own g p) ≡ pos 0

  -- an addition of what is carried for a counter, and the ones after it
  one-run : (n : ℕ) (d : ℤ) (ds : List ℤ) (g : History) (P : History → Type 0) → n < counter_count facts.layout
      → ((k : ℕ) → carried k (own g p) ≡ amount k n (d ∷ ds)) → d ≢ pos 0
      → (((k : ℕ) → carried k (own (event facts p (AddG (record { number = n }) d) ∷ g) p) ≡ amount k (suc n) ds)
      → Runs facts p who (in_turn to_place (suc n) ds) (event facts p (AddG (record { number = n }) d) ∷ g) P)
      → Runs facts p who (AddG (record { number = n }) d ∷ in_turn to_place (suc n) ds) g P
  one-run n d ds g P n_in carries some more = (
    λ knows. record {
      counter = n_in;
      carries =
          carries n ∙ (let same : nat_eq n n ≡ true = eq-eqb n n refl in
          rw same (omega (arith, ints, amount-outside n (suc n) ds (inl (omega arith)))));
      some = some;
    },
    λ knows told. more (λ k. total-next (moved k) (AddG (record { number = n }) d) g
        ∙ ap (λ x. (if nat_eq n k then neg_ℤ d else pos 0) +ℤ x) (carries k)
        ∙ if-cancelled (nat_eq n k) d (amount k (suc n) ds)),
  )

  -- the counters from n on get these numbers, which are carried for them
  adds-run : (n : ℕ) (ds : List ℤ) (g : History) (P : History → Type 0) → n + length ds ≤ counter_count facts.layout
      → ((k : ℕ) → carried k (own g p) ≡ amount k n ds) → P (after p (in_turn to_place n ds) g)
      → Runs facts p who (in_turn to_place n ds) g P
  adds-run n [] g P within carries rest = rest
  adds-run n (pos zero ∷ ds) g P within carries rest =
      adds-run (suc n) ds g P (omega arith) (λ k. carries k ∙ if-zero_more (nat_eq n k) (amount k (suc n) ds)) rest
  adds-run n (pos (suc d) ∷ ds) g P within carries rest =
      one-run n (pos (suc d)) ds g P (omega arith) carries (λ e. omega (arith, ints))
      (λ left. adds-run (suc n) ds (event facts p (AddG (record { number = n }) (pos (suc d))) ∷ g) P (omega arith)
      left rest)
  adds-run n (negsuc d ∷ ds) g P within carries rest =
      one-run n (negsuc d) ds g P (omega arith) carries (λ e. omega (arith, ints))
      (λ left. adds-run (suc n) ds (event facts p (AddG (record { number = n }) (negsuc d)) ∷ g) P (omega arith)
      left rest)

  module _ (c : CpuId) (c_in : IsCpu facts.layout c.number) where
    group-run : (j : ℕ) (w : Diffs) (g : History) (P : History → Type 0) → IsGroup facts.layout j → length w.values ≡ 8
        → NoneCarried g → P (after p (group_steps c j w) g) → Runs facts p who (group_steps c j w) g P
    group-run j w g P j_in eight none rest = (
      λ knows. (c_in, j_in),
      λ knows told. adds-run (first_of_group j) w.values (event facts p (Take c (record { number = j }) w) ∷ g) P
          (let within = group-within (counter_count facts.layout) j j_in in omega arith)
          (λ k. omega (
            arith,
            ints,
            total-next (moved k) (Take c (record { number = j }) w) g,
            none k,
            amount-group j k w.values eight,
          ))
          rest,
    )

    groups-run : (j : ℕ) (ws : List Diffs) (g : History) (P : History → Type 0)
        → j + length ws ≤ group_count facts.layout
        → All (λ w. length w.values ≡ 8) ws → NoneCarried g → P (after p (in_turn (group_steps c) j ws) g)
        → Runs facts p who (in_turn (group_steps c) j ws) g P
    groups-run j [] g P within eights none rest = rest
    groups-run j (w ∷ ws) g P within eights none rest =
        let first = group_steps c j w in
        let more = in_turn (group_steps c) (suc j) ws in
        let eight : length w.values ≡ 8 = eights 0 w (omega arith) in
        runs-append facts p who first more g P
        (group-run j w g (λ now. Runs facts p who more now P) (omega arith) eight none
        (groups-run (suc j) ws (after p first g) P (omega arith) (λ n d less. eights (suc n) d (omega arith))
        (λ k. total-own (moved k) first g ∙ (omega (arith, ints, group-moved k c j w eight, none k)))
        (subst P (after-steps p first more g) rest)))

    -- the groups of a place are the layout's
    groups-within : (z : ℕ) → IsPlace facts.layout z
        → group_of (counter_at facts.layout z 0) + facts.layout.positions / 8 ≤ group_count facts.layout
    groups-within z z_in = ⊎_elim
        (λ (e : facts.layout.positions ≡ 8). rw e (omega arith))
        (λ (e : facts.layout.positions ≡ 16). rw e (omega arith))
        layout.positions

    -- and they stand where the place's groups do
    group-place : (z j : ℕ) → place_of facts.layout (first_of_group j) ≡ z
        → (group_of (counter_at facts.layout z 0) ≤ j) ×
        (j < group_of (counter_at facts.layout z 0) + facts.layout.positions / 8)
    group-place z j = ⊎_elim
        (λ (e : facts.layout.positions ≡ 8). rw e (λ at. (omega arith, omega arith)))
        (λ (e : facts.layout.positions ≡ 16). rw e (λ at. (omega arith, omega arith)))
        layout.positions

    -- a fold of one's own CPU
    abbrev IsOwner : Bool → Type 0
    IsOwner is_own = is_own ≡ true → who ≡ Some c

    module _ (z : ℕ) (z_in : IsPlace facts.layout z) (found : FoundPlace) (has : HasGroups facts.layout found) where
      abbrev groups : List Step
      groups = in_turn (group_steps c) (group_of (counter_at facts.layout z 0)) found.groups

      within : group_of (counter_at facts.layout z 0) + length found.groups ≤ group_count facts.layout
      within = rw has.one_each (groups-within z z_in)

      abbrev load : Step
      load = LoadT (record { number = z }) found.threshold.t found.threshold.number

      acknowledged : IsZone facts.layout z → who ≡ Some c → (g : History)
          → Knows facts p who (after p groups (event facts p load ∷ g))
          → Acknowledges facts (after p groups (event facts p load ∷ g)) p (record { number = z })
          found.threshold.number
      acknowledged zone owner g knows = record {
        cpu = c;
        owns = record { owner = knows.owner ∙ owner; within = c_in };
        zone = zone;
        t = found.threshold.t;
        as_loaded = ap (loaded z) mine ∙ loaded-kept p z groups (event facts p load ∷ own g p) only
            ∙ (let same : nat_eq z z ≡ true = eq-eqb z z refl in rw same refl);
        took_each = λ j j_in at.
            ap (took c z j) mine
            ∙ took-made p c z j groups (event facts p load ∷ own g p) only
            (let place = group-place z j at in
            let count = has.one_each in
            has-group c (group_of (counter_at facts.layout z 0)) found.groups j place.0 (omega arith));
        put_nothing = ap (has_put facts.layout z) mine
            ∙ put-kept p facts.layout z groups (event facts p load ∷ own g p) only
            ∙ (let same : nat_eq z z ≡ true = eq-eqb z z refl in rw same refl);
      }
        where
          only : OnlyMoves groups
          only = only-groups c (group_of (counter_at facts.layout z 0)) found.groups

          mine : own (after p groups (event facts p load ∷ g)) p ≡ after p groups (event facts p load ∷ own g p)
          mine = own-after p groups (event facts p load ∷ g)
              ∙ ap (after p groups) (own-mine (event facts p load) g p refl)

      place-run : (b : Bool) (g : History) (P : History → Type 0) → (b ≡ true → IsZone facts.layout z × (who ≡ Some c))
          → NoneCarried g → P (after p (place_steps facts.layout b c z found) g)
          → Runs facts p who (place_steps facts.layout b c z found) g P
      place-run false g P owned none rest =
          groups-run (group_of (counter_at facts.layout z 0)) found.groups g P within has.eight_each none rest
      place-run true g P owned none rest =
          let own_place = owned refl in
          let set : List Step = SetA (record { number = z }) found.threshold.number ∷ [] in
          let told_then : History = event facts p load ∷ g in (
            λ knows. (z_in, (c, knows.owner ∙ own_place.1)),
            λ knows told. runs-append facts p who groups set told_then P
                (groups-run (group_of (counter_at facts.layout z 0)) found.groups told_then (λ now.
                Runs facts p who set now P) within has.eight_each
                (λ k. total-next (moved k) load g ∙ omega (arith, ints, none k)) (
                  λ knows. acknowledged own_place.0 own_place.1 g knows,
                  λ knows told. subst P (after-steps p groups set told_then) rest,
                )),
          )

    -- the steps on the places from z on
    abbrev visits : Bool → ℕ → List FoundPlace → List Step
    visits is_own z places =
        in_turn (λ g found. place_steps facts.layout (acknowledges facts.layout is_own g) c g found) z places

    places-run : (is_own : Bool) → (is_own ≡ true → who ≡ Some c)
        → (z : ℕ) (places : List FoundPlace) (g : History) (P : History → Type 0)
        → z + length places ≤ place_count facts.layout → All (HasGroups facts.layout) places → NoneCarried g
        → P (after p (visits is_own z places) g) → Runs facts p who (visits is_own z places) g P
    places-run is_own owner z [] g P within has none rest = rest
    places-run is_own owner z (found ∷ places) g P within has none rest =
        let first = place_steps facts.layout (acknowledges facts.layout is_own z) c z found in
        let more = visits is_own (suc z) places in
        let here : HasGroups facts.layout found = has 0 found (omega arith) in
        runs-append facts p who first more g P
        (place-run z (omega arith) found here (acknowledges facts.layout is_own z) g (λ now.
        Runs facts p who more now P)
        (λ is. let parts = and_parts is_own (nat_lt z (length facts.layout.zones)) is in
        (ltb-true z (length facts.layout.zones) parts.1, owner parts.0))
        none
        (places-run is_own owner (suc z) places (after p first g) P (omega arith) (λ n d less.
        has (suc n) d (omega arith))
        (λ k. omega (
          arith,
          ints,
          total-own (moved k) first g,
          place-sum (moved k) c (λ j w. pos 0) (group-moved k c) facts.layout layout (λ z t a. refl) (λ z a. refl)
              (acknowledges facts.layout is_own z) z found here,
          nothing-worth k c (group_of (counter_at facts.layout z 0)) found.groups,
          none k,
        ))
        (subst P (after-steps p first more g) rest)))

    -- the items from i on get what was taken for them
    systems-run : (ws : List Diffs) (i n : ℕ) (g : History) (P : History → Type 0) → i + n ≤ item_count facts.layout
        → ((l : ℕ) → i ≤ l → IsItem facts.layout l
        → carried_of_item facts.layout l (own g p) ≡ taken_of_item facts.layout l 0 ws)
        → P (after p (system_steps facts.layout ws i n) g) → Runs facts p who (system_steps facts.layout ws i n) g P
    systems-run ws i zero g P within carries rest = rest
    systems-run ws i (suc n) g P within carries rest =
        by (taken_of_item facts.layout i 0 ws) refl (λ h left last.
        systems-run ws (suc i) n h P (omega arith) left last) rest
      where
        more : List Step
        more = system_steps facts.layout ws (suc i) n

        Left : History → Type 0
        Left h = (l : ℕ) → suc i ≤ l → IsItem facts.layout l
            → carried_of_item facts.layout l (own h p) ≡ taken_of_item facts.layout l 0 ws

        add : ℤ → Step
        add d = AddS (record { number = i }) d

        one : (d : ℤ) → taken_of_item facts.layout i 0 ws ≡ d → d ≢ pos 0
            → ((h : History) → Left h → P (after p more h) → Runs facts p who more h P)
            → P (after p (add d ∷ more) g) → Runs facts p who (add d ∷ more) g P
        one d is some next last = (
          λ knows. record { item = omega arith; carries = carries i (omega arith) (omega arith) ∙ is; some = some },
          λ knows told. next (event facts p (add d) ∷ g)
              (λ l later l_in. total-next (moved_of_item facts.layout l) (add d) g
              ∙ (let other : nat_eq i l ≡ false = ne_eqb i l (λ e. omega arith) in
              rw other (omega (arith, ints, carries l (omega arith) l_in))))
              last,
        )

        by : (d : ℤ) → taken_of_item facts.layout i 0 ws ≡ d
            → ((h : History) → Left h → P (after p more h) → Runs facts p who more h P)
            → P (after p (to_system i d ++ more) g) → Runs facts p who (to_system i d ++ more) g P
        by (pos zero) is next last = next g (λ l later l_in. carries l (omega arith) l_in) last
        by (pos (suc d)) is next last = one (pos (suc d)) is (λ e. omega (arith, ints)) next last
        by (negsuc d) is next last = one (negsuc d) is (λ e. omega (arith, ints)) next last

    pub fold-runs : (is_own : Bool) → (is_own ≡ true → who ≡ Some c)
        → (steps : List Step) (g : History) (P : History → Type 0)
        → IsFold facts.layout is_own c steps → CarriesNothing facts.layout (own g p) → P (after p steps g)
        → Runs facts p who steps g P
    fold-runs is_own owner steps g P fold nothing rest =
        subst (λ ks. P (after p ks g) → Runs facts p who ks g P) (sym fold.in_order)
        (λ last. runs-append facts p who places systems g P
        (places-run is_own owner 0 fold.places g (λ now. Runs facts p who systems now P) (let count = fold.one_each in
        omega arith) fold.groups
        nothing.counters
        (systems-run (lists_of fold.places) 0 (item_count facts.layout) (after p places g) P (omega arith)
        (λ l from l_in. omega (
          arith,
          ints,
          total-own (moved_of_item facts.layout l) places g,
          places-sum (moved_of_item facts.layout l) c (entries_of facts.layout l) (group-of_item facts.layout l c)
              facts.layout layout
              (λ z t a. refl) (λ z a. refl) is_own 0 fold.places fold.groups,
          item-worth facts.layout l c (group_of (counter_at facts.layout 0 0)) (lists_of fold.places),
          ap (λ j. taken_of_item facts.layout l j (lists_of fold.places)) first_group,
          nothing.items l,
        ))
        (subst P (after-steps p places systems g) last))))
        rest
      where
        places : List Step
        places = visits is_own 0 fold.places

        systems : List Step
        systems = system_steps facts.layout (lists_of fold.places) 0 (item_count facts.layout)

        first_group : group_of (counter_at facts.layout 0 0) ≡ 0
        first_group = omega arith
