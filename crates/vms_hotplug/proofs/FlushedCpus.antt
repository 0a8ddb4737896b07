-- A flush, CPU by CPU.
use Rattle.std.proofs.Common.{◌≡◌, ℕ, suc, ◌+◌, ◌*◌, ◌^◌, ◌≤◌, ◌&&◌, nat_eq, nat_lt, Bool, true, false, ℤ, pos, ◌+ℤ◌}
use Rattle.std.proofs.Common.{unsigned_abs, get_or, if◌then◌else◌, refl, sym, ap, subst, ◌∙◌, arith}
use Rattle.std.proofs.lemmas.Bool.Decides.{nat_tests}
use Rattle.std.proofs.lemmas.Int.{ints}
use Rattle.vms_world.specs.Common.{is_online, Shape, IsLayout, IsCounter, IsCpu, IsItem, cell, counter_count}
use Rattle.vms_world.specs.Common.{item_count, item_of, most_threshold, sum_below, State, cpu_at, diff_at, system_at}
use Rattle.vms_world.specs.Common.{value_at, folded_at, folded_of, folded_of_item, flushed_pages}
use Rattle.vms_history.proofs.Common.{sum_below-same, sum_below-sum, sum_below-zeros}
use Rattle.vms_core.specs.Cells.{HasShape}
use Rattle.vms_world.proofs.Common.{if-sum, is_listed_by_cpu, is_listed}
use Rattle.vms_hotplug.specs.Common.{FlushesCpu, IsSmallState}
use Rattle.vms_hotplug.proofs.Folds.{parts-most}

module _ (shape : Shape) (s : State) where
  -- what the CPUs below n move to counter k
  abbrev pub folded_below : ℕ → ℕ → ℤ
  folded_below n k = sum_below (λ c. folded_at s c k) n

  abbrev pub of_item : (ℕ → ℤ) → ℕ → ℕ → ℤ
  of_item f i k = if nat_eq (item_of shape k) i then f k else pos 0

  -- the online CPUs below n are folded
  pub record FlushesBelow (n : ℕ) (now : State) : Type 0 where
    pub rest : now ≡ record s { place = now.place; system = now.system; diff = now.diff }
    pub room : IsSmallState shape (2 ^ 60 + n * 64000) now
    pub values : (k : ℕ) → IsCounter shape k → value_at now k ≡ value_at s k +ℤ folded_below n k
    pub systems : (i : ℕ) → IsItem shape i
        → system_at now i ≡ system_at s i +ℤ sum_below (of_item (folded_below n) i) (counter_count shape)
    pub diffs : (c k : ℕ) → IsCpu shape c → IsCounter shape k
        → diff_at now c k ≡ (if is_online (cpu_at s c) && nat_lt c n then pos 0 else diff_at s c k)

  pub FlushesBelow-none : IsSmallState shape (2 ^ 60) s → FlushesBelow 0 s
  FlushesBelow-none room = record {
    rest = refl;
    room = room;
    values = λ k k_in. omega (arith, ints);
    systems = λ i i_in. omega (
      arith,
      ints,
      sum_below-zeros (of_item (folded_below 0) i) (counter_count shape)
          (λ k k_in. nothing (nat_eq (item_of shape k) i)),
    );
    diffs = λ c k c_in k_in. let none : nat_lt c 0 ≡ false = grind (arith, nat_tests) in
        rw none (by (is_online (cpu_at s c)) (diff_at s c k));
  }
    where
      nothing : (b : Bool) → (if b then pos 0 else pos 0) ≡ pos 0
      nothing true = refl
      nothing false = refl

      by : (b : Bool) (z : ℤ) → z ≡ (if b && false then pos 0 else z)
      by true z = refl
      by false z = refl

  module _ (n : ℕ) (now : State) (so_far : FlushesBelow n now) where
    more : suc n ≡ n + 1
    more = omega arith

    folded-more : (k : ℕ) → folded_below (n + 1) k ≡ folded_at s n k +ℤ folded_below n k
    folded-more k = ap (folded_below' k) (sym more)
      where
        folded_below' : ℕ → ℕ → ℤ
        folded_below' k m = folded_below m k

    -- CPU n is offline, and nothing of it is folded
    pub FlushesBelow-kept : is_online (cpu_at s n) ≡ false → FlushesBelow (n + 1) now
    FlushesBelow-kept offline = record {
      rest = so_far.rest;
      room = record {
        shaped = so_far.room.shaped;
        diffs = so_far.room.diffs;
        values = λ k k_in. let small = so_far.room.values k k_in in omega arith;
        systems = λ i i_in. let small = so_far.room.systems i i_in in omega arith;
      };
      values = λ k k_in. so_far.values k k_in ∙ ap (λ z. value_at s k +ℤ z) (sym (same k));
      systems = λ i i_in. so_far.systems i i_in ∙ ap (λ z. system_at s i +ℤ z)
          (sum_below-same (of_item (folded_below n) i) (of_item (folded_below (n + 1)) i) (counter_count shape)
          (λ k k_in. ap (λ z. if nat_eq (item_of shape k) i then z else pos 0) (sym (same k))));
      diffs = λ c k c_in k_in. so_far.diffs c k c_in k_in
          ∙ by c (diff_at s c k) (is_online (cpu_at s c)) refl (nat_lt c n) refl (nat_lt c (n + 1)) refl;
    }
      where
        none : (k : ℕ) → folded_at s n k ≡ pos 0
        none k = ap (λ (b : Bool). if b then diff_at s n k else pos 0) offline

        same : (k : ℕ) → folded_below (n + 1) k ≡ folded_below n k
        same k = omega (arith, ints, folded-more k, none k)

        by : (c : ℕ) (z : ℤ) (o : Bool) → is_online (cpu_at s c) ≡ o → (l : Bool) → nat_lt c n ≡ l
            → (u : Bool) → nat_lt c (n + 1) ≡ u
            → (if o && l then pos 0 else z) ≡ (if o && u then pos 0 else z)
        by c z false off l less u up = refl
        by c z true on true less true up = refl
        by c z true on false less false up = refl
        by c z true on true less false up = absurd (grind (arith, nat_tests))
        by c z true on false less true up =
            let last : c ≡ n = grind (arith, nat_tests) in
            let both : true ≡ false = sym on ∙ ap (λ (d : ℕ). is_online (cpu_at s d)) last ∙ offline in
            absurd cc

    -- CPU n is online and folded
    module _ (layout : IsLayout shape) (n_in : IsCpu shape n) (next : State) (folds : FlushesCpu shape n now next)
        (online : is_online (cpu_at s n) ≡ true) where
      folded-is : (k : ℕ) → IsCounter shape k → diff_at now n k ≡ folded_at s n k
      folded-is k k_in =
          let last : nat_lt n n ≡ false = grind (arith, nat_tests) in
          so_far.diffs n k n_in k_in
          ∙ ap (λ (b : Bool). if is_online (cpu_at s n) && b then pos 0 else diff_at s n k) last
          ∙ ap (λ (b : Bool). if b && false then pos 0 else diff_at s n k) online
          ∙ sym (ap (λ (b : Bool). if b then diff_at s n k else pos 0) online)

      value-next : (k : ℕ) → IsCounter shape k → value_at next k ≡ value_at s k +ℤ folded_below (n + 1) k
      value-next k k_in =
          omega (arith, ints, folds.values k k_in, so_far.values k k_in, folded-is k k_in, folded-more k)

      system-next : (i : ℕ) → IsItem shape i
          → system_at next i ≡ system_at s i +ℤ sum_below (of_item (folded_below (n + 1)) i) (counter_count shape)
      system-next i i_in =
          let counters = counter_count shape in
          let apart = sum_below-sum (of_item (folded_at s n) i) (of_item (folded_below n) i) counters in
          let joined = sum_below-same (of_item (folded_below (n + 1)) i)
          (λ k. of_item (folded_at s n) i k +ℤ of_item (folded_below n) i k) counters
          (λ k k_in. ap (λ z. if nat_eq (item_of shape k) i then z else pos 0) (folded-more k)
          ∙ if-sum (nat_eq (item_of shape k) i) (folded_at s n k) (folded_below n k)) in
          let added = sum_below-same (of_item (diff_at now n) i) (of_item (folded_at s n) i) counters
          (λ k k_in. ap (λ z. if nat_eq (item_of shape k) i then z else pos 0) (folded-is k k_in)) in
          omega (arith, ints, folds.systems i i_in, so_far.systems i i_in, apart, joined, added)

      diff-next : (c k : ℕ) → IsCpu shape c → IsCounter shape k
          → diff_at next c k ≡ (if is_online (cpu_at s c) && nat_lt c (n + 1) then pos 0 else diff_at s c k)
      diff-next c k c_in k_in =
          folds.diffs c k c_in k_in
          ∙ by (nat_eq n c) refl (is_online (cpu_at s c)) refl (nat_lt c n) refl (nat_lt c (n + 1)) refl
          (so_far.diffs c k c_in k_in)
        where
          by : (a : Bool) → nat_eq n c ≡ a → (o : Bool) → is_online (cpu_at s c) ≡ o → (l : Bool) → nat_lt c n ≡ l
              → (u : Bool) → nat_lt c (n + 1) ≡ u
              → diff_at now c k ≡ (if o && l then pos 0 else diff_at s c k)
              → (if a then pos 0 else diff_at now c k) ≡ (if o && u then pos 0 else diff_at s c k)
          by true same true on l less true up was = refl
          by true same true on l less false up was = absurd (grind (arith, nat_tests))
          by true same false off l less u up was =
              let is : n ≡ c = grind (arith, nat_tests) in
              let both : true ≡ false = sym online ∙ ap (λ (d : ℕ). is_online (cpu_at s d)) is ∙ off in
              absurd cc
          by false other false off l less u up was = was
          by false other true on true less true up was = was
          by false other true on true less false up was = absurd (grind (arith, nat_tests))
          by false other true on false less false up was = was
          by false other true on false less true up was = absurd (grind (arith, nat_tests))

      room-next : IsSmallState shape (2 ^ 60 + (n + 1) * 64000) next
      room-next = record {
        shaped = folds.shaped;
        diffs = λ c k c_in k_in. subst (λ (z : ℤ). unsigned_abs z ≤ most_threshold) (sym (folds.diffs c k c_in k_in))
            (zero_or (nat_eq n c) (diff_at now c k) (so_far.room.diffs c k c_in k_in));
        values = λ k k_in. let small = so_far.room.values k k_in in
            let few = so_far.room.diffs n k n_in k_in in
            omega (arith, ints, folds.values k k_in);
        systems = λ i i_in. let small = so_far.room.systems i i_in in
            let few = parts-most shape n now layout n_in (λ k k_in. so_far.room.diffs n k n_in k_in) i
            (counter_count shape) (omega arith) in
            omega (arith, ints, folds.systems i i_in);
      }
        where
          zero_or : (b : Bool) (z : ℤ) → unsigned_abs z ≤ most_threshold
              → unsigned_abs (if b then pos 0 else z) ≤ most_threshold
          zero_or true z few = omega arith
          zero_or false z few = few

      pub FlushesBelow-more : FlushesBelow (n + 1) next
      FlushesBelow-more = record {
        rest = folds.rest
            ∙ ap (λ (x : State). record x { place = next.place; system = next.system; diff = next.diff }) so_far.rest;
        room = room-next;
        values = value-next;
        systems = system-next;
        diffs = diff-next;
      }

  -- all online CPUs are folded
  pub flushed-all : (now : State) → HasShape shape s → FlushesBelow shape.cpus now → now ≡ flushed_pages shape s
  flushed-all now shaped all =
      let places = is_listed (λ k. value_at s k +ℤ folded_of shape s k) (counter_count shape) now.place (pos 0)
      all.room.shaped.place all.values in
      let systems = is_listed (λ i. system_at s i +ℤ folded_of_item shape s i) (item_count shape) now.system (pos 0)
      all.room.shaped.system all.systems in
      let diffs = is_listed_by_cpu (λ c k. if is_online (cpu_at s c) then pos 0 else diff_at s c k) shape.cpus
      (counter_count shape) now.diff (pos 0) all.room.shaped.diff diff-read in
      all.rest ∙ rw (places, systems, diffs) refl
    where
      by : (o : Bool) (z : ℤ) → (if o && true then pos 0 else z) ≡ (if o then pos 0 else z)
      by true z = refl
      by false z = refl

      diff-read : (c k : ℕ) → IsCpu shape c → IsCounter shape k
          → get_or now.diff (cell (counter_count shape) c k) (pos 0)
          ≡ (if is_online (cpu_at s c) then pos 0 else diff_at s c k)
      diff-read c k c_in k_in =
          let inside : nat_lt c shape.cpus ≡ true = grind (arith, nat_tests) in
          ap (λ (w : ℕ). get_or now.diff (cell w c k) (pos 0)) (sym all.room.shaped.place)
          ∙ all.diffs c k c_in k_in
          ∙ ap (λ (b : Bool). if is_online (cpu_at s c) && b then pos 0 else diff_at s c k) inside
          ∙ by (is_online (cpu_at s c)) (diff_at s c k)
