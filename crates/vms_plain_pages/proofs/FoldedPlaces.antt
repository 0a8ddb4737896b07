-- For other crates too: places that a fold visits one after another, and the whole fold.
use Rattle.std.proofs.Common.{◌≡◌, ◌≢◌, ℕ, suc, ◌+◌, ◌*◌, ◌/◌, ◌<◌, ◌≤◌, ⊎_elim, inl, ◌&&◌, nat_eq, nat_lt, Bool, true}
use Rattle.std.proofs.Common.{false, ℤ, pos, ◌+ℤ◌, List, [], ◌∷◌, ◌++◌, length, get_or, Option, Some, None}
use Rattle.std.proofs.Common.{if◌then◌else◌, refl, sym, ap, subst, ◌∙◌, arith, append_assoc, length-append, length-set}
use Rattle.std.specs.Prelude.{All}
use Rattle.std.proofs.Math.Nat.{mul-le-mul_left, mul-suc}
use Rattle.std.proofs.lemmas.Bool.Decides.{nat_tests}
use Rattle.std.proofs.lemmas.Int.{ints}
use Rattle.std.proofs.lemmas.List.{append-nil}
use Rattle.std.proofs.lemmas.List.Elements.{All-append, All-cons, All-nil}
use Rattle.vms_calls.specs.Common.{CpuId, Shape, IsLayout, IsCounter, IsCpu, IsGroup, IsPlace, IsZone, cell, counter_at}
use Rattle.vms_calls.specs.Common.{counter_count, group_of, item_count, item_of, place_count, sum_below, LeadsOn, State}
use Rattle.vms_calls.specs.Common.{Step, SetA, HasShape, acknowledged_at, diff_at, system_at, threshold_at}
use Rattle.vms_calls.specs.Common.{threshold_sets_at, value_at, with_acknowledged, zones_of, FoundPlace, HasGroups}
use Rattle.vms_calls.specs.Common.{IsFold, acknowledges, group_steps, lists_of, place_steps, system_steps}
use Rattle.vms_calls.specs.Common.{taken_of_item, in_turn}
use Rattle.vms_history.proofs.Common.{get_or-set_cell, sum_below-same, LeadsOn-append}
use Rattle.vms_plain_pages.specs.Common.{CallLeadsAlone, AddsSums, FoldsCounters, FoldsGroups, FoldsPlace}
use Rattle.vms_plain_pages.specs.Common.{acknowledged_of_place, part_of_item, sum_at, FoldsCpu, effect_by}
use Rattle.vms_plain_pages.specs.Common.{pages_by_state}
use Rattle.vms_plain_pages.proofs.FoldedCounters.{FoldsCounters-append, FoldsCounters-none}
use Rattle.vms_plain_pages.proofs.FoldedGroups.{in_turn-append, taken_of_item-append}

-- the counters of a place make up whole groups
module _ (shape : Shape) (layout : IsLayout shape) where
  by_positions : (P : ℕ → Type 0) → P 8 → P 16 → P shape.positions
  by_positions P narrow wide = ⊎_elim (λ (is : shape.positions ≡ 8). subst P (sym is) narrow)
      (λ (is : shape.positions ≡ 16). subst P (sym is) wide) layout.positions

  pub first_group : (g : ℕ) → group_of (counter_at shape g 0) ≡ shape.positions / 8 * g
  first_group g = by_positions (λ n. (n * g + 0) / 8 ≡ n / 8 * g) (omega arith) (omega arith)

  pub first_counter : (g : ℕ) → 8 * group_of (counter_at shape g 0) ≡ counter_at shape g 0
  first_counter g = by_positions (λ n. 8 * ((n * g + 0) / 8) ≡ n * g + 0) (omega arith) (omega arith)

  pub item_count-most : item_count shape ≤ 32
  item_count-most = by_positions (λ n. 2 * n ≤ 32) (omega arith) (omega arith)

  -- each group of a place is one of the layout
  pub group-within : (g n : ℕ) → IsPlace shape g → n < shape.positions / 8 → IsGroup shape (shape.positions / 8 * g + n)
  group-within g n g_in = by_positions (λ w. n < w / 8 → w / 8 * g + n < w * place_count shape / 8)
      (λ within. omega arith) (λ within. omega arith)

  pub all_groups : 8 * (shape.positions / 8) ≡ shape.positions
  all_groups = by_positions (λ n. 8 * (n / 8) ≡ n) (omega arith) (omega arith)

-- a place whose groups are taken, with or without an acknowledgement
module _ (shape : Shape) (layout : IsLayout shape) (is_own : Bool) (c : CpuId) (c_in : IsCpu shape c.number) (g : ℕ)
    (s mid : State) (shaped : HasShape shape s) (before after : List ℤ)
    (folds : FoldsGroups shape c (group_of (counter_at shape g 0)) (shape.positions / 8) s mid before after) where
  counters-place : FoldsCounters shape c.number (counter_at shape g 0) shape.positions s mid before after
  counters-place =
      subst (λ n. FoldsCounters shape c.number (counter_at shape g 0) n s mid before after) (all_groups shape layout)
      (subst (λ k. FoldsCounters shape c.number k (8 * (shape.positions / 8)) s mid before after)
      (first_counter shape layout g) folds.counters)

  pub FoldsPlace-plain : acknowledges shape is_own g ≡ false → FoldsPlace shape is_own c g s mid before after
  FoldsPlace-plain none = record {
    found = record { threshold = record { t = 0; number = 0 }; groups = folds.groups };
    groups = record { one_each = folds.one_each; eight_each = folds.eight_each };
    leads = λ who own. subst (λ b. LeadsOn pages_by_state who (place_steps shape b c g
        (record { threshold = record { t = 0; number = 0 }; groups = folds.groups })) s mid)
        (sym none) (folds.leads who);
    counters = counters-place;
    taken = folds.taken;
    acknowledged = λ d h d_in h_in.
        ap (λ (x : List (Option ℕ)). get_or x (cell (zones_of mid) d h) None) folds.acknowledged
        ∙ ap (λ n. get_or s.acknowledged (cell n d h) None) zones
        ∙ sym (ap (λ b. if b && nat_eq c.number d && nat_eq g h then Some (threshold_sets_at s c.number g)
        else acknowledged_at s d h) none);
  }
    where
      zones : zones_of mid ≡ zones_of s
      zones = ap zones_of folds.counters.rest

  module _ (own : is_own ≡ true) (g_in : IsZone shape g) (t number : ℕ) (t_is : threshold_at s c.number g ≡ t)
      (number_is : threshold_sets_at s c.number g ≡ number) where
    abbrev next : State
    next = with_acknowledged mid c.number g number

    abbrev found : FoundPlace
    found = record { threshold = record { t = t; number = number }; groups = folds.groups }

    zone : acknowledges shape is_own g ≡ true
    zone = let is_zone : nat_lt g (length shape.zones) ≡ true = grind (arith, nat_tests) in rw (own, is_zone) refl

    place-leads : (who : Option CpuId) → who ≡ Some c
        → LeadsOn pages_by_state who (place_steps shape true c g found) s next
    place-leads who is = (
      λ (d : CpuId) (owns : who ≡ Some d).
          let same : c ≡ d = cc in
          subst (λ (e : CpuId). (threshold_at s e.number g ≡ t) × (threshold_sets_at s e.number g ≡ number)) same
          (t_is, number_is),
      LeadsOn-append pages_by_state who
          (in_turn (group_steps c) (group_of (counter_at shape g 0)) folds.groups)
          (SetA (record { number = g }) number ∷ []) s mid next (folds.leads who)
          (tt, ap (λ (o : Option CpuId). effect_by o (SetA (record { number = g }) number) mid) is),
    )

    acknowledged-next : (d h : ℕ) → IsCpu shape d → IsZone shape h
        → acknowledged_at next d h ≡ acknowledged_of_place shape is_own c.number s g d h
    acknowledged-next d h d_in h_in =
        let zones : zones_of mid ≡ length shape.zones = folds.counters.shaped.mark in
        let full : length mid.acknowledged ≡ shape.cpus * zones_of mid =
        folds.counters.shaped.acknowledged ∙ ap (λ n. shape.cpus * n) (sym zones) in
        let zones_same : zones_of mid ≡ zones_of s = ap zones_of folds.counters.rest in
        let stays : acknowledged_at mid d h ≡ acknowledged_at s d h =
        ap (λ (x : List (Option ℕ)). get_or x (cell (zones_of mid) d h) None) folds.acknowledged
        ∙ ap (λ n. get_or s.acknowledged (cell n d h) None) zones_same in
        get_or-set_cell (zones_of mid) shape.cpus mid.acknowledged c.number g d h (Some number) None full c_in
        (subst (λ n. g < n) (sym zones) g_in) (subst (λ n. h < n) (sym zones) h_in)
        ∙ ap (λ (x : Option ℕ). if nat_eq c.number d && nat_eq g h then Some number else x) stays
        ∙ ap (λ n. if nat_eq c.number d && nat_eq g h then Some n else acknowledged_at s d h) (sym number_is)
        ∙ by (nat_eq c.number d) (nat_eq g h) (acknowledges shape is_own g) zone
      where
        by : (a b e : Bool) → e ≡ true
            → (if a && b then Some (threshold_sets_at s c.number g) else acknowledged_at s d h)
            ≡ (if e && a && b then Some (threshold_sets_at s c.number g) else acknowledged_at s d h)
        by a b true is = refl
        by a b false is = absurd cc

    counters-next : FoldsCounters shape c.number (counter_at shape g 0) shape.positions s next before after
    counters-next =
        let was = counters-place in
        record {
          rest = ap (λ (x : State). record x { acknowledged = next.acknowledged }) was.rest;
          shaped = record {
            place = was.shaped.place;
            system = was.shaped.system;
            diff = was.shaped.diff;
            threshold = was.shaped.threshold;
            mark = was.shaped.mark;
            cpu = was.shaped.cpu;
            acknowledged =
                length-set mid.acknowledged (cell (zones_of mid) c.number g) (Some number) ∙ was.shaped.acknowledged;
            threshold_sets = was.shaped.threshold_sets;
            mark_sets = was.shaped.mark_sets;
          };
          values = was.values;
          other_values = was.other_values;
          zeros = was.zeros;
          other_diffs = was.other_diffs;
          sums = was.sums;
        }

    pub FoldsPlace-acknowledged : FoldsPlace shape is_own c g s next before after
    FoldsPlace-acknowledged = record {
      found = found;
      groups = record { one_each = folds.one_each; eight_each = folds.eight_each };
      leads = λ who owns. subst (λ b. LeadsOn pages_by_state who (place_steps shape b c g found) s next) (sym zone)
          (place-leads who (owns own));
      counters = counters-next;
      taken = folds.taken;
      acknowledged = acknowledged-next;
    }

lists_of-append : (xs ys : List FoundPlace) → lists_of (xs ++ ys) ≡ lists_of xs ++ lists_of ys
lists_of-append [] ys = refl
lists_of-append (x ∷ xs) ys =
    ap (λ ws. x.groups ++ ws) (lists_of-append xs ys) ∙ sym (append_assoc x.groups (lists_of xs) (lists_of ys))

length-lists_of : (shape : Shape) (xs : List FoundPlace) → All (HasGroups shape) xs
    → length (lists_of xs) ≡ shape.positions / 8 * length xs
length-lists_of shape [] has = let none : shape.positions / 8 * 0 ≡ 0 = omega arith in sym none
length-lists_of shape (x ∷ xs) has =
    let more : shape.positions / 8 * suc (length xs) ≡ shape.positions / 8 * length xs + shape.positions / 8 =
    mul-suc (shape.positions / 8) (length xs) in
    let here = has 0 x (omega arith) in
    omega (
      arith,
      length-append x.groups (lists_of xs),
      here.one_each,
      length-lists_of shape xs (λ n d less. has (suc n) d (omega arith)),
      more,
    )

module _ (shape : Shape) (is_own : Bool) (c : CpuId) where
  abbrev steps_at : ℕ → FoundPlace → List Step
  steps_at g found = place_steps shape (acknowledges shape is_own g) c g found

  -- what CPU d acknowledged of zone h once the places below n are visited
  abbrev pub acknowledged_below : ℕ → State → (d h : ℕ) → Option ℕ
  acknowledged_below n s d h =
      if is_own && nat_eq c.number d && nat_lt h n then Some (threshold_sets_at s c.number h) else acknowledged_at s d h

  -- the places below n are visited
  pub record FoldsPlaces (n : ℕ) (s next : State) (before after : List ℤ) : Type 0 where
    pub places : List FoundPlace
    pub one_each : length places ≡ n
    pub groups : All (HasGroups shape) places
    pub leads : (who : Option CpuId) → (is_own ≡ true → who ≡ Some c)
        → LeadsOn pages_by_state who (in_turn steps_at 0 places) s next
    pub counters : FoldsCounters shape c.number 0 (shape.positions * n) s next before after
    pub taken : (i : ℕ) → sum_at after i ≡ sum_at before i +ℤ taken_of_item shape i 0 (lists_of places)
    pub acknowledged : (d h : ℕ) → IsCpu shape d → IsZone shape h
        → acknowledged_at next d h ≡ acknowledged_below n s d h

  pub FoldsPlaces-none : (s : State) (sums : List ℤ) → HasShape shape s → FoldsPlaces 0 s s sums sums
  FoldsPlaces-none s sums shaped = record {
    places = [];
    one_each = refl;
    groups = All-nil (HasGroups shape);
    leads = λ who owns. refl;
    counters = let none : shape.positions * 0 ≡ 0 = omega arith in
        subst (λ n. FoldsCounters shape c.number 0 n s s sums sums) (sym none)
        (FoldsCounters-none shape c.number 0 s sums shaped);
    taken = λ i. omega (arith, ints);
    acknowledged = λ d h d_in h_in. let none : nat_lt h 0 ≡ false = grind (arith, nat_tests) in
        rw none (by is_own (nat_eq c.number d) (Some (threshold_sets_at s c.number h)) (acknowledged_at s d h));
  }
    where
      by : (a b : Bool) (x y : Option ℕ) → y ≡ (if a && b && false then x else y)
      by true true x y = refl
      by true false x y = refl
      by false b x y = refl

  module _ (layout : IsLayout shape) (c_in : IsCpu shape c.number) (n : ℕ) (n_in : IsPlace shape n) (s mid next : State)
      (before between after : List ℤ) (first : FoldsPlaces n s mid before between)
      (second : FoldsPlace shape is_own c n mid next between after) where
    more-counters : FoldsCounters shape c.number 0 (shape.positions * (n + 1)) s next before after
    more-counters =
        let all : shape.positions * n + shape.positions ≡ shape.positions * (n + 1) = omega arith in
        let at : counter_at shape n 0 ≡ 0 + shape.positions * n = omega arith in
        let within : 0 + (shape.positions * n + shape.positions) ≤ counter_count shape =
        omega (arith, all, mul-le-mul_left shape.positions (let up : n + 1 ≤ place_count shape = omega arith in up)) in
        subst (λ m. FoldsCounters shape c.number 0 m s next before after) all
        (FoldsCounters-append shape c.number c_in 0 (shape.positions * n) shape.positions within s mid next before
        between after first.counters
        (subst (λ k. FoldsCounters shape c.number k shape.positions mid next between after) at second.counters))

    more-taken : (i : ℕ)
        → sum_at after i ≡ sum_at before i +ℤ taken_of_item shape i 0 (lists_of (first.places ++ (second.found ∷ [])))
    more-taken i =
        let lists : lists_of (first.places ++ (second.found ∷ [])) ≡ lists_of first.places ++ second.found.groups =
        lists_of-append first.places (second.found ∷ [])
        ∙ ap (λ ws. lists_of first.places ++ ws) (append-nil second.found.groups) in
        let at : 0 + length (lists_of first.places) ≡ group_of (counter_at shape n 0) =
        omega (
          arith,
          length-lists_of shape first.places first.groups,
          ap (λ m. shape.positions / 8 * m) first.one_each,
          first_group shape layout n,
        ) in
        omega (
          arith,
          ints,
          first.taken i,
          second.taken i,
          ap (taken_of_item shape i 0) lists,
          taken_of_item-append shape i 0 (lists_of first.places) second.found.groups,
          ap (λ j. taken_of_item shape i j second.found.groups) at,
        )

    more-leads : (who : Option CpuId) → (is_own ≡ true → who ≡ Some c)
        → LeadsOn pages_by_state who (in_turn steps_at 0 (first.places ++ (second.found ∷ []))) s next
    more-leads who owns =
        subst (λ ks. LeadsOn pages_by_state who ks s next)
        (sym (in_turn-append steps_at 0 first.places (second.found ∷ [])))
        (LeadsOn-append pages_by_state who (in_turn steps_at 0 first.places)
        (in_turn steps_at (0 + length first.places) (second.found ∷ [])) s mid next (first.leads who owns)
        (subst (λ g. LeadsOn pages_by_state who (steps_at g second.found ++ []) mid next) at
        (LeadsOn-append pages_by_state who (steps_at n second.found) [] mid next next (second.leads who owns) refl)))
      where
        at : n ≡ 0 + length first.places
        at = omega (arith, first.one_each)

    more-acknowledged : (d h : ℕ) → IsCpu shape d → IsZone shape h
        → acknowledged_at next d h ≡ acknowledged_below (n + 1) s d h
    more-acknowledged d h d_in h_in =
        second.acknowledged d h d_in h_in
        ∙ by is_own refl (nat_lt n (length shape.zones)) refl (nat_eq c.number d) refl (nat_eq n h) refl
        (nat_lt h n) refl (nat_lt h (n + 1)) refl (first.acknowledged d h d_in h_in)
      where
        same : threshold_sets_at mid c.number n ≡ threshold_sets_at s c.number n
        same = ap (λ (x : State). threshold_sets_at x c.number n) first.counters.rest

        by : (o : Bool) → is_own ≡ o → (z : Bool) → nat_lt n (length shape.zones) ≡ z
            → (a : Bool) → nat_eq c.number d ≡ a → (e : Bool) → nat_eq n h ≡ e
            → (l : Bool) → nat_lt h n ≡ l → (u : Bool) → nat_lt h (n + 1) ≡ u
            → acknowledged_at mid d h
            ≡ (if o && a && l then Some (threshold_sets_at s c.number h) else acknowledged_at s d h)
            → (if (o && z) && a && e then Some (threshold_sets_at mid c.number n) else acknowledged_at mid d h)
            ≡ (if o && a && u then Some (threshold_sets_at s c.number h) else acknowledged_at s d h)
        by false own z zone a cpu e here l less u up was = was
        by true own false zone false cpu e here l less u up was = was
        by true own true zone false cpu e here l less u up was = was
        by true own true zone true cpu true here l less true up was =
            let is : n ≡ h = grind (arith, nat_tests) in
            ap (λ m. Some m) (same ∙ ap (threshold_sets_at s c.number) is)
        by true own true zone true cpu true here l less false up was = absurd (grind (arith, nat_tests))
        by true own z zone true cpu false here true less true up was = byz z was
          where
            byz : (z : Bool) → acknowledged_at mid d h ≡ Some (threshold_sets_at s c.number h)
                → (if z && true && false then Some (threshold_sets_at mid c.number n) else acknowledged_at mid d h)
                ≡ Some (threshold_sets_at s c.number h)
            byz true was = was
            byz false was = was
        by true own z zone true cpu false here true less false up was = absurd (grind (arith, nat_tests))
        by true own z zone true cpu false here false less true up was = absurd (grind (arith, nat_tests))
        by true own true zone true cpu false here false less false up was = was
        by true own false zone true cpu false here false less false up was = was
        by true own false zone true cpu true here l less u up was = absurd (grind (arith, nat_tests))

    pub FoldsPlaces-more : FoldsPlaces (n + 1) s next before after
    FoldsPlaces-more = record {
      places = first.places ++ (second.found ∷ []);
      one_each = omega (arith, length-append first.places (second.found ∷ []), first.one_each);
      groups = All-append (HasGroups shape) first.places (second.found ∷ []) first.groups
          (All-cons (HasGroups shape) second.found [] second.groups (All-nil (HasGroups shape)));
      leads = more-leads;
      counters = more-counters;
      taken = more-taken;
      acknowledged = more-acknowledged;
    }

  -- the state with what a fold may change, from another
  abbrev changed : State → State → State
  changed s x = record s {
    place = x.place;
    system = x.system;
    diff = x.diff;
    acknowledged = x.acknowledged;
  }

  -- all places are visited, and the sums are added
  module _ (s mid next : State) (zeros sums : List ℤ) (none : (i : ℕ) → sum_at zeros i ≡ pos 0)
      (visits : FoldsPlaces (place_count shape) s mid zeros sums) (adds : AddsSums shape sums mid next) where
    pub fold-made : (who : Option CpuId) → (is_own ≡ true → who ≡ Some c)
        → CallLeadsAlone who (IsFold shape is_own c) s next
    fold-made who owns = (
      in_turn steps_at 0 visits.places ++ system_steps shape (lists_of visits.places) 0 (item_count shape),
      record { places = visits.places; one_each = visits.one_each; groups = visits.groups; in_order = refl },
      LeadsOn-append pages_by_state who (in_turn steps_at 0 visits.places)
          (system_steps shape (lists_of visits.places) 0 (item_count shape)) s mid next (visits.leads who owns)
          (adds.leads who (lists_of visits.places) (λ i i_in. omega (arith, ints, visits.taken i, none i))),
    )

    pub FoldsCpu-whole : FoldsCpu shape is_own c.number s next
    FoldsCpu-whole = record {
      rest = whole;
      shaped = subst (HasShape shape) (sym adds.rest) (record {
        place = was.place;
        system = adds.same_length ∙ was.system;
        diff = was.diff;
        threshold = was.threshold;
        mark = was.mark;
        cpu = was.cpu;
        acknowledged = was.acknowledged;
        threshold_sets = was.threshold_sets;
        mark_sets = was.mark_sets;
      });
      values = λ k k_in. ap (λ (x : State). value_at x k) adds.rest
          ∙ visits.counters.values k (omega arith) (omega arith);
      systems = λ i i_in. let stays : system_at mid i ≡ system_at s i =
          ap (λ (x : State). system_at x i) visits.counters.rest in
          omega (arith, ints, adds.systems i i_in, stays, visits.counters.sums i, none i, part i);
      diffs = λ d k d_in k_in. ap (λ (x : State). diff_at x d k) adds.rest ∙ diff-mid d k d_in k_in;
      acknowledged = λ d g d_in g_in. ap (λ (x : State). acknowledged_at x d g) adds.rest
          ∙ visits.acknowledged d g d_in g_in ∙ all d g g_in;
    }
      where
        was : HasShape shape mid
        was = visits.counters.shaped

        whole : next ≡ changed s next
        whole =
            let made : next ≡ record mid { system = next.system } = adds.rest in
            let first : record mid { system = next.system } ≡ changed s (record mid { system = next.system }) =
            ap (λ (x : State). record x { system = next.system }) visits.counters.rest in
            made ∙ first ∙ sym (ap (changed s) made)

        part : (i : ℕ) → part_of_item shape s c.number i 0 (shape.positions * place_count shape)
            ≡ sum_below (λ k. if nat_eq (item_of shape k) i then diff_at s c.number k else pos 0) (counter_count shape)
        part i = sum_below-same (λ m. if nat_eq (item_of shape (0 + m)) i then diff_at s c.number (0 + m) else pos 0)
            (λ k. if nat_eq (item_of shape k) i then diff_at s c.number k else pos 0) (counter_count shape)
            (λ m less. let at : 0 + m ≡ m = omega arith in
            ap (λ k. if nat_eq (item_of shape k) i then diff_at s c.number k else pos 0) at)

        diff-mid : (d k : ℕ) → IsCpu shape d → IsCounter shape k
            → diff_at mid d k ≡ (if nat_eq c.number d then pos 0 else diff_at s d k)
        diff-mid d k d_in k_in = by (nat_eq c.number d) refl
          where
            by : (b : Bool) → nat_eq c.number d ≡ b → diff_at mid d k ≡ (if b then pos 0 else diff_at s d k)
            by true same =
                let is : c.number ≡ d = grind (arith, nat_tests) in
                subst (λ e. diff_at mid e k ≡ pos 0) is (visits.counters.zeros k (omega arith) (omega arith))
            by false other =
                let differ : d ≢ c.number = grind (arith, nat_tests) in
                visits.counters.other_diffs d k d_in k_in (inl differ)

        all : (d g : ℕ) → IsZone shape g → acknowledged_below (place_count shape) s d g
            ≡ (if is_own && nat_eq c.number d then Some (threshold_sets_at s c.number g) else acknowledged_at s d g)
        all d g g_in =
            let inside : nat_lt g (place_count shape) ≡ true = grind (arith, nat_tests) in
            rw inside (by is_own (nat_eq c.number d))
          where
            by : (a b : Bool)
                → (if a && b && true then Some (threshold_sets_at s c.number g) else acknowledged_at s d g)
                ≡ (if a && b then Some (threshold_sets_at s c.number g) else acknowledged_at s d g)
            by true true = refl
            by true false = refl
            by false b = refl
