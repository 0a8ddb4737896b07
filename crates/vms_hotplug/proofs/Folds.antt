-- A fold of one CPU, counter by counter.
use Rattle.std.proofs.Common.{◌≡◌, ℕ, suc, ◌+◌, ◌<◌, ◌≤◌, ◌&&◌, nat_eq, nat_lt, Bool, true, false, ℤ, pos, ◌+ℤ◌, ◌≤ℤ◌}
use Rattle.std.proofs.Common.{unsigned_abs, length, get_or, if◌then◌else◌, refl, sym, ap, subst, ◌∙◌, arith, length-set}
use Rattle.std.proofs.lemmas.Bool.Decides.{nat_tests}
use Rattle.std.proofs.lemmas.Int.{ints}
use Rattle.vms_world.specs.Common.{Shape, IsLayout, IsCounter, IsCpu, IsItem, cell, counter_count, item_of}
use Rattle.vms_world.specs.Common.{most_threshold, sum_below, State, diff_at, system_at, value_at, with_diff}
use Rattle.vms_world.specs.Common.{with_carried}
use Rattle.vms_base.proofs.Common.{counter_count-most, item_of-lt}
use Rattle.vms_history.proofs.Common.{get_or-set, get_or-set_cell, sum_below-most, sum_below-size}
use Rattle.vms_core.specs.Cells.{HasShape}
use Rattle.vms_hotplug.specs.Common.{FlushesCpu, IsSmallState}

module _ (shape : Shape) (c : ℕ) (s : State) where
  -- what counter k adds to item i
  abbrev pub part_of : ℕ → ℕ → ℤ
  part_of i k = if nat_eq (item_of shape k) i then diff_at s c k else pos 0

  -- the counters below m are folded
  pub record FoldsBelow (m : ℕ) (now : State) : Type 0 where
    pub rest : now ≡ record s { place = now.place; system = now.system; diff = now.diff }
    pub shaped : HasShape shape now
    pub values : (k : ℕ) → IsCounter shape k
        → value_at now k ≡ value_at s k +ℤ (if nat_lt k m then diff_at s c k else pos 0)
    pub systems : (i : ℕ) → IsItem shape i → system_at now i ≡ system_at s i +ℤ sum_below (part_of i) m
    pub diffs : (d k : ℕ) → IsCpu shape d → IsCounter shape k
        → diff_at now d k ≡ (if nat_eq c d && nat_lt k m then pos 0 else diff_at s d k)

  module _ (layout : IsLayout shape) (c_in : IsCpu shape c) where
    -- the parts of an item are small together
    pub parts-most : ((k : ℕ) → IsCounter shape k → unsigned_abs (diff_at s c k) ≤ most_threshold) → (i m : ℕ)
        → m ≤ counter_count shape → unsigned_abs (sum_below (part_of i) m) ≤ 64000
    parts-most small i m within =
        let each = sum_below-most (λ k. pos (unsigned_abs (part_of i k))) m 125 (λ k k_in.
        by (nat_eq (item_of shape k) i) (diff_at s c k) (small k (omega arith))) in
        omega (arith, ints, sum_below-size (part_of i) m, each, counter_count-most shape layout)
      where
        by : (b : Bool) (z : ℤ) → unsigned_abs z ≤ 125 → pos (unsigned_abs (if b then z else pos 0)) ≤ℤ pos 125
        by true z few = omega (arith, ints)
        by false z few = omega (arith, ints)

    module _ (most : ℕ) (room : IsSmallState shape most s) (m : ℕ) (m_in : IsCounter shape m) (now : State)
        (so_far : FoldsBelow m now) where
      -- there is room for a counter more
      pub IsSmallState-folded : IsSmallState shape (most + 64000) now
      IsSmallState-folded = record {
        shaped = so_far.shaped;
        diffs = λ d k d_in k_in. subst (λ (z : ℤ). unsigned_abs z ≤ most_threshold) (sym (so_far.diffs d k d_in k_in))
            (zero_or (nat_eq c d && nat_lt k m) (diff_at s d k) (room.diffs d k d_in k_in));
        values = λ k k_in. let small = room.values k k_in in
            let few = or_zero (nat_lt k m) (diff_at s c k) (room.diffs c k c_in k_in) in
            omega (arith, ints, so_far.values k k_in);
        systems = λ i i_in. let small = room.systems i i_in in
            let few = parts-most (λ k k_in. room.diffs c k c_in k_in) i m (omega arith) in
            omega (arith, ints, so_far.systems i i_in);
      }
        where
          zero_or : (b : Bool) (z : ℤ) → unsigned_abs z ≤ most_threshold
              → unsigned_abs (if b then pos 0 else z) ≤ most_threshold
          zero_or true z few = omega arith
          zero_or false z few = few

          or_zero : (b : Bool) (z : ℤ) → unsigned_abs z ≤ most_threshold
              → unsigned_abs (if b then z else pos 0) ≤ most_threshold
          or_zero true z few = few
          or_zero false z few = omega arith

      abbrev d : ℤ
      d = diff_at now c m

      abbrev next : State
      next = with_carried shape m d (with_diff now c m (pos 0))

      d-is : d ≡ diff_at s c m
      d-is = so_far.diffs c m c_in m_in ∙ ap (λ (b : Bool). if nat_eq c c && b then pos 0 else diff_at s c m) last
          ∙ by (nat_eq c c)
        where
          last : nat_lt m m ≡ false
          last = grind (arith, nat_tests)

          by : (b : Bool) → (if b && false then pos 0 else diff_at s c m) ≡ diff_at s c m
          by true = refl
          by false = refl

      value-next : (k : ℕ) → IsCounter shape k
          → value_at next k ≡ value_at s k +ℤ (if nat_lt k (m + 1) then diff_at s c k else pos 0)
      value-next k k_in =
          get_or-set now.place m k (value_at now m +ℤ d) (pos 0)
          (subst (λ (n : ℕ). m < n) (sym so_far.shaped.place) m_in)
          ∙ by (nat_eq m k) refl (nat_lt k m) refl (nat_lt k (m + 1)) refl (so_far.values k k_in)
        where
          by : (a : Bool) → nat_eq m k ≡ a → (b : Bool) → nat_lt k m ≡ b → (e : Bool) → nat_lt k (m + 1) ≡ e
              → value_at now k ≡ value_at s k +ℤ (if b then diff_at s c k else pos 0)
              → (if a then value_at now m +ℤ d else value_at now k)
              ≡ value_at s k +ℤ (if e then diff_at s c k else pos 0)
          by true same true less e up was = absurd (grind (arith, nat_tests))
          by true same false less false up was = absurd (grind (arith, nat_tests))
          by true same false less true up was =
              let is : m ≡ k = grind (arith, nat_tests) in
              omega (arith, ints, d-is, was, ap (value_at now) is, ap (diff_at s c) is)
          by false other true less true up was = was
          by false other true less false up was = absurd (grind (arith, nat_tests))
          by false other false less false up was = was
          by false other false less true up was = absurd (grind (arith, nat_tests))

      system-next : (i : ℕ) → IsItem shape i → system_at next i ≡ system_at s i +ℤ sum_below (part_of i) (m + 1)
      system-next i i_in =
          get_or-set now.system (item_of shape m) i (system_at now (item_of shape m) +ℤ d) (pos 0)
          (subst (λ (n : ℕ). item_of shape m < n) (sym so_far.shaped.system) (item_of-lt shape layout m))
          ∙ by (nat_eq (item_of shape m) i) refl
        where
          more : suc m ≡ m + 1
          more = omega arith

          by : (a : Bool) → nat_eq (item_of shape m) i ≡ a
              → (if a then system_at now (item_of shape m) +ℤ d else system_at now i)
              ≡ system_at s i +ℤ sum_below (part_of i) (m + 1)
          by true same =
              let is : item_of shape m ≡ i = grind (arith, nat_tests) in
              let part : part_of i m ≡ diff_at s c m =
              ap (λ (b : Bool). if b then diff_at s c m else pos 0) same in
              subst (λ (n : ℕ). system_at now (item_of shape m) +ℤ d ≡ system_at s i +ℤ sum_below (part_of i) n) more
              (omega (arith, ints, d-is, part, so_far.systems i i_in, ap (system_at now) is))
          by false other =
              let part : part_of i m ≡ pos 0 = ap (λ (b : Bool). if b then diff_at s c m else pos 0) other in
              subst (λ (n : ℕ). system_at now i ≡ system_at s i +ℤ sum_below (part_of i) n) more
              (omega (arith, ints, part, so_far.systems i i_in))

      diff-next : (e k : ℕ) → IsCpu shape e → IsCounter shape k
          → diff_at next e k ≡ (if nat_eq c e && nat_lt k (m + 1) then pos 0 else diff_at s e k)
      diff-next e k e_in k_in =
          rw (length-set now.place m (value_at now m +ℤ d), so_far.shaped.place)
          (get_or-set_cell (counter_count shape) shape.cpus now.diff c m e k (pos 0) (pos 0) so_far.shaped.diff c_in
          m_in k_in)
          ∙ by (nat_eq c e) (nat_eq m k) refl (nat_lt k m) refl (nat_lt k (m + 1)) refl
          (subst (λ (n : ℕ). get_or now.diff (cell n e k) (pos 0)
          ≡ (if nat_eq c e && nat_lt k m then pos 0 else diff_at s e k)) so_far.shaped.place
          (so_far.diffs e k e_in k_in))
        where
          by : (a b : Bool) → nat_eq m k ≡ b → (l : Bool) → nat_lt k m ≡ l → (u : Bool) → nat_lt k (m + 1) ≡ u
              → get_or now.diff (cell (counter_count shape) e k) (pos 0)
              ≡ (if a && l then pos 0 else diff_at s e k)
              → (if a && b then pos 0 else get_or now.diff (cell (counter_count shape) e k) (pos 0))
              ≡ (if a && u then pos 0 else diff_at s e k)
          by false b at l less u up was = was
          by true true at l less true up was = refl
          by true true at l less false up was = absurd (grind (arith, nat_tests))
          by true false at true less true up was = was
          by true false at true less false up was = absurd (grind (arith, nat_tests))
          by true false at false less false up was = was
          by true false at false less true up was = absurd (grind (arith, nat_tests))

      pub FoldsBelow-more : FoldsBelow (m + 1) next
      FoldsBelow-more = record {
        rest = ap (λ (x : State). record x { place = next.place; system = next.system; diff = next.diff }) so_far.rest;
        shaped = record {
          place = length-set now.place m (value_at now m +ℤ d) ∙ so_far.shaped.place;
          system = length-set now.system (item_of shape m) (system_at now (item_of shape m) +ℤ d)
              ∙ so_far.shaped.system;
          diff = length-set now.diff (cell (length now.place) c m) (pos 0) ∙ so_far.shaped.diff;
          threshold = so_far.shaped.threshold;
          mark = so_far.shaped.mark;
          cpu = so_far.shaped.cpu;
          acknowledged = so_far.shaped.acknowledged;
          threshold_sets = so_far.shaped.threshold_sets;
          mark_sets = so_far.shaped.mark_sets;
        };
        values = value-next;
        systems = system-next;
        diffs = diff-next;
      }

    pub FoldsBelow-none : HasShape shape s → FoldsBelow 0 s
    FoldsBelow-none shaped = record {
      rest = refl;
      shaped = shaped;
      values = λ k k_in. let none : nat_lt k 0 ≡ false = grind (arith, nat_tests) in
          rw none (omega (arith, ints));
      systems = λ i i_in. omega (arith, ints);
      diffs = λ e k e_in k_in. let none : nat_lt k 0 ≡ false = grind (arith, nat_tests) in
          rw none (by (nat_eq c e) (diff_at s e k));
    }
      where
        by : (b : Bool) (z : ℤ) → z ≡ (if b && false then pos 0 else z)
        by true z = refl
        by false z = refl

    pub FlushesCpu-all : (now : State) → FoldsBelow (counter_count shape) now → FlushesCpu shape c s now
    FlushesCpu-all now so_far = record {
      rest = so_far.rest;
      shaped = so_far.shaped;
      values = λ k k_in. let all : nat_lt k (counter_count shape) ≡ true = grind (arith, nat_tests) in
          so_far.values k k_in ∙ ap (λ (b : Bool). value_at s k +ℤ (if b then diff_at s c k else pos 0)) all;
      systems = so_far.systems;
      diffs = λ e k e_in k_in. let all : nat_lt k (counter_count shape) ≡ true = grind (arith, nat_tests) in
          so_far.diffs e k e_in k_in
          ∙ ap (λ (b : Bool). if nat_eq c e && b then pos 0 else diff_at s e k) all ∙ by (nat_eq c e) (diff_at s e k);
    }
      where
        by : (b : Bool) (z : ℤ) → (if b && true then pos 0 else z) ≡ (if b then pos 0 else z)
        by true z = refl
        by false z = refl
