-- For other crates too: what holds of plain data and what keeps it, and how many places a state has.
use Rattle.std.proofs.Common.{◌≡◌, ◌≢◌, ℕ, zero, suc, ◌+◌, ◌*◌, ◌/◌, ◌%◌, ◌^◌, ◌<◌, ◌≤◌, ℤ, pos, List, length, get_or}
use Rattle.std.proofs.Common.{unsigned_abs, refl, sym, arith, subst, ⊎_elim, ◌∙◌, length-set, get_or-set_same}
use Rattle.std.proofs.Common.{get_or-set_other, take, drop, lit<}
use Rattle.std.proofs.Math.ListN.{set}
use Rattle.std.proofs.Math.Nat.{mul-div_cancel_left, mul-zero}
use Rattle.std.proofs.lemmas.Bool.{cases_eq, cases_lt}
use Rattle.std.proofs.lemmas.List.{get_or_past}
use Rattle.std.proofs.lemmas.Nat.{div-add-mod', div_below, mod_below}
use Rattle.std.proofs.lemmas.Int.{ints}
use Rattle.vms_history.specs.Common.{IsByte, AreBytes, Shape, IsLayout, cell, counter_count, place_count}
use Rattle.vms_history.specs.Common.{most_threshold}
use Rattle.vms_base.proofs.Common.{cell-lt}
use Rattle.vms_core.specs.declared.states.State.{State}
use Rattle.vms_core.specs.Common.{IsOpening, IsPlainBase, HasShape, TellsGroup, counters_of, places_of, zones_of}
use Rattle.vms_core.specs.Common.{IsPlain}
use Rattle.vms_core.specs.Cells.{zeroed}
use Rattle.vms_core.proofs.CellLemmas.{TellsGroup-cells, AreBytes-cells, length-zeroed}

-- what holds of each cell of a table, and of the default, holds at each index of its list
each_index : {X : Type 0} (xs : List X) (default : X) (rows width : ℕ) (P : X → Type 0) → length xs ≡ rows * width
    → ((c k : ℕ) → c < rows → k < width → P (get_or xs (cell width c k) default)) → P default
    → (n : ℕ) → P (get_or xs n default)
each_index {X} xs default rows width P full cells none n = ⊎_elim inside outside (cases_lt n (rows * width))
  where
    by_width : n < rows * width → (0 < width) → P (get_or xs n default)
    by_width within some = subst (λ (i : ℕ). P (get_or xs i default)) (div-add-mod' n width)
        (cells (n / width) (n % width) (div_below n width rows some within) (mod_below n width some))

    inside : n < rows * width → P (get_or xs n default)
    inside within = ⊎_elim (by_width within) (λ (none : width ≤ 0).
        let no_width : width ≡ 0 = omega arith in
        let nothing : rows * width ≡ 0 = rw (no_width, mul-zero) in absurd (omega arith)) (cases_lt 0 width)

    outside : rows * width ≤ n → P (get_or xs n default)
    outside past = rw (get_or_past xs n default (omega arith)) none

-- what holds of each number of a list holds after a write of one of which it holds
each_set : {X : Type 0} (xs : List X) (n : ℕ) (v default : X) (P : X → Type 0) → n < length xs → P v
    → ((m : ℕ) → P (get_or xs m default)) → (m : ℕ) → P (get_or (set xs n v) m default)
each_set xs n v default P within here others m = ⊎_elim
    (λ (same : m ≡ n). rw (same, get_or-set_same xs n v default within) here)
    (λ (other : m ≢ n). rw (get_or-set_other xs n m v default other) (others m))
    (cases_eq m n)

pub byte : (z : ℤ) → unsigned_abs z ≤ most_threshold → IsByte z
byte z small = (omega (arith, ints), omega (arith, ints))

-- the differentials of a state that may open a phase are bytes
pub AreBytes-opening : (shape : Shape) (s : State) → IsOpening shape s → AreBytes s.diff
AreBytes-opening shape s opening k =
    byte (get_or s.diff k (pos 0))
    (each_index s.diff (pos 0) shape.cpus (counter_count shape) (λ d. unsigned_abs d ≤ most_threshold)
    opening.shaped.diff
    (λ c l c_in l_in. rw (← opening.shaped.place) (opening.diffs c l c_in l_in)) (omega arith) k)

module _ (s : State) (counters places : ℕ) (plain : IsPlain s counters places) where
  pub diff_cell : (c k : ℕ) → c < length s.cpu → k < counters_of s → cell counters c k < length s.diff
  diff_cell c k c_in k_in =
      let width : counters ≡ counter_count plain.shape = plain.one_for_each_counter ∙ plain.shaped.place in
      let row : c < plain.shape.cpus = omega (arith, plain.shaped.cpu) in
      let column : k < counter_count plain.shape = omega (arith, plain.shaped.place) in
      rw (plain.shaped.diff, width)
      (cell-lt (counter_count plain.shape) plain.shape.cpus c k row column)

  -- the eight cells of a group stand in the list
  pub diff_cells : (c j : ℕ) → c < length s.cpu → j < counters_of s / 8 → cell counters c (8 * j) + 8 ≤ length s.diff
  diff_cells c j c_in j_in = omega (arith, diff_cell c (8 * j + 7) c_in (omega arith))

  -- each of them is a byte
  pub AreBytes-part : (start : ℕ) → AreBytes (take 8 (drop start s.diff))
  AreBytes-part start = AreBytes-cells s.diff start (λ k. byte (get_or s.diff k (pos 0)) (plain.diffs k))

  pub TellsGroup-part : (c j : ℕ) → c < length s.cpu → j < counters_of s / 8
      → TellsGroup s c j (take 8 (drop (cell counters c (8 * j)) s.diff))
  TellsGroup-part c j c_in j_in =
      let same = plain.one_for_each_counter in
      rw same (TellsGroup-cells s c j (rw same at (diff_cells c j c_in j_in)))

  -- the cell of a zone stands in the list of acknowledgements
  pub zone_cell : (c g : ℕ) → c < length s.cpu → g < zones_of s → cell (zones_of s) c g < length s.acknowledged
  zone_cell c g c_in g_in =
      let row : c < plain.shape.cpus = omega (arith, plain.shaped.cpu) in
      let column : g < length plain.shape.zones = omega (arith, plain.shaped.mark) in
      rw (plain.shaped.acknowledged, plain.shaped.mark)
      (cell-lt (length plain.shape.zones) plain.shape.cpus c g row column)

  -- other differentials, of which none is larger than a threshold may be
  IsPlain-diffs : (ds : List ℤ) → length ds ≡ length s.diff
      → ((m : ℕ) → unsigned_abs (get_or ds m (pos 0)) ≤ most_threshold)
      → IsPlain (record s { diff = ds }) counters places
  IsPlain-diffs ds same small = record {
    shape = plain.shape;
    is_layout = plain.is_layout;
    shaped = record {
      place = plain.shaped.place;
      system = plain.shaped.system;
      diff = same ∙ plain.shaped.diff;
      threshold = plain.shaped.threshold;
      mark = plain.shaped.mark;
      cpu = plain.shaped.cpu;
      acknowledged = plain.shaped.acknowledged;
      threshold_sets = plain.shaped.threshold_sets;
      mark_sets = plain.shaped.mark_sets;
    };
    one_for_each_counter = plain.one_for_each_counter;
    one_for_each_place = plain.one_for_each_place;
    diffs = small;
    thresholds = plain.thresholds;
    marks = plain.marks;
    diff_fits = rw same plain.diff_fits;
    threshold_fits = plain.threshold_fits;
  }

  pub IsPlain-put : (n : ℕ) (d : ℤ) → n < length s.diff → unsigned_abs d ≤ most_threshold
      → IsPlain (record s { diff = set s.diff n d }) counters places
  IsPlain-put n d within small = IsPlain-diffs (set s.diff n d) (length-set s.diff n d)
      (each_set s.diff n d (pos 0) (λ z. unsigned_abs z ≤ most_threshold) within small plain.diffs)

  pub IsPlain-take : (start : ℕ) → start + 8 ≤ length s.diff
      → IsPlain (record s { diff = zeroed s.diff start 8 }) counters places
  unfolding zeroed
  IsPlain-take start within = IsPlain-diffs (zeroed s.diff start 8) (length-zeroed s.diff start 8) (small 8 within)
    where
      small : (n : ℕ) → start + n ≤ length s.diff → (m : ℕ)
          → unsigned_abs (get_or (zeroed s.diff start n) m (pos 0)) ≤ most_threshold
      small zero room = plain.diffs
      small (suc n) room = each_set (zeroed s.diff start n) (start + n) (pos 0) (pos 0)
          (λ z. unsigned_abs z ≤ most_threshold)
          (omega (arith, length-zeroed s.diff start n)) (omega arith) (small n (omega arith))

module _ (shape : Shape) (s : State) (layout : IsLayout shape) (shaped : HasShape shape s) where
  -- the number of a table's columns, from the length of its list
  columns : (n len : ℕ) → len ≡ shape.cpus * n → len / length s.cpu ≡ n
  columns n len full = rw (shaped.cpu, full) (mul-div_cancel_left n layout.cpus_least)

  pub places_of-shaped : places_of s ≡ place_count shape
  places_of-shaped = columns (place_count shape) (length s.threshold) shaped.threshold

module _ (s : State) (base : IsPlainBase s) where
  pub IsPlainBase-holds : length s.diff < 2 ^ 63 → length s.threshold < 2 ^ 63
      → IsPlain s (length s.diff / length s.cpu) (length s.threshold / length s.cpu)
  IsPlainBase-holds diff_fits threshold_fits = record {
    shape = base.shape;
    is_layout = base.is_layout;
    shaped = base.opening.shaped;
    one_for_each_counter =
        columns base.shape s base.is_layout base.opening.shaped (counter_count base.shape)
        (length s.diff) base.opening.shaped.diff ∙ sym base.opening.shaped.place;
    one_for_each_place = refl;
    diffs = each_index s.diff (pos 0) base.shape.cpus (counter_count base.shape) (λ d. unsigned_abs d ≤ most_threshold)
        base.opening.shaped.diff
        (λ c k c_in k_in. rw (← base.opening.shaped.place) (base.opening.diffs c k c_in k_in)) (omega arith);
    thresholds = each_index s.threshold 0 base.shape.cpus (place_count base.shape) (λ t. t ≤ most_threshold)
        base.opening.shaped.threshold
        (λ c g c_in g_in. rw (← places_of-shaped base.shape s base.is_layout base.opening.shaped)
        (base.opening.thresholds c g c_in g_in)) (omega arith);
    marks = λ n. ⊎_elim
        (λ (within : n < length s.mark). base.opening.marks n (rw base.opening.shaped.mark at within))
        (λ (past : length s.mark ≤ n). rw (get_or_past s.mark n 0 past) (lit< tt))
        (cases_lt n (length s.mark));
    diff_fits = diff_fits;
    threshold_fits = threshold_fits;
  }
