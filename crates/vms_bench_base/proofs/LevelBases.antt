-- Level page counters are a base, whose marks cover what the CPUs may hide.
use Rattle.std.proofs.Common.{◌≡◌, ℕ, ◌*◌, ◌^◌, ◌<◌, ◌≤◌, ℤ, pos, List, [], length, get_or, replicate, refl, ap, sym}
use Rattle.std.proofs.Common.{◌∙◌, subst, arith, ⊎_elim, unsigned_abs, None}
use Rattle.std.proofs.lemmas.Bool.{cases_lt}
use Rattle.std.proofs.lemmas.List.{get_or_past, get_or-replicate, length-replicate}
use Rattle.std.proofs.lemmas.List.Elements.{All-replicate, All-same}
use Rattle.vms_calls.specs.Common.{CpuState, Online, Dead, Absent, ZoneSize, Shape, IsLayout, IsZone, cell, counter_at}
use Rattle.vms_calls.specs.Common.{counter_count, place_count, IsValidSize, size_at, State, Facts, IsBase, IsOpening}
use Rattle.vms_calls.specs.Common.{counters_of, places_of, diff_at, cpu_at, mark_at, if_present, opening_peak, peak_sum}
use Rattle.vms_history.proofs.Common.{count_below-most, largest_below-most}
use Rattle.vms_core.proofs.Common.{IsOpening-level, get_or-copies}
use Rattle.vms_bench_base.specs.Common.{IsLevel, AreOnline, size_of_zones}

-- an entry of copies is the copy, or the default past their end, and so at most the copy where the default is 0
copies-most : (n i t : ℕ) → get_or (replicate n t) i 0 ≤ t
copies-most n i t = ⊎_elim
    (λ (within : i < n). let is = get_or-replicate n i t 0 within in omega (arith, is))
    (λ (past : n ≤ i). let is = get_or_past (replicate n t) i 0 (omega (arith, length-replicate n t)) in
    omega (arith, is))
    (cases_lt i n)

if_present-most : (x : CpuState) (n : ℕ) → if_present x n ≤ n
if_present-most Online n = omega arith
if_present-most Dead n = omega arith
if_present-most Absent n = omega arith

module _ (shape : Shape) (layout : IsLayout shape) (value : ℤ) (s : State) (small : unsigned_abs value ≤ 2 ^ 60)
    (level : IsLevel shape value s) where
  first_online : cpu_at s 0 ≡ Online
  first_online = rw level.cpu (get_or-replicate shape.cpus 0 Online Absent layout.cpus_least)

  -- the same with no marks may open a phase
  abbrev unmarked : State
  unmarked = record s { mark = replicate (length shape.zones) 0 }

  IsOpening-unmarked : IsOpening shape unmarked
  IsOpening-unmarked =
      IsOpening-level shape layout unmarked value 98 small (omega arith) (omega arith) level.place level.system
      level.diff level.threshold refl (rw level.cpu (length-replicate shape.cpus Online)) first_online
      level.acknowledged level.threshold_sets level.mark_sets

  mark-is : (g : ℕ) → IsZone shape g → mark_at s g ≡ 50000
  mark-is g known = rw level.mark (get_or-replicate (length shape.zones) g 50000 0 known)

  IsOpening-marked : IsOpening shape s
  IsOpening-marked = record {
    shaped = record {
      place = IsOpening-unmarked.shaped.place;
      system = IsOpening-unmarked.shaped.system;
      diff = IsOpening-unmarked.shaped.diff;
      threshold = IsOpening-unmarked.shaped.threshold;
      mark = rw level.mark (length-replicate {A = ℕ} (length shape.zones) 50000);
      cpu = IsOpening-unmarked.shaped.cpu;
      acknowledged = IsOpening-unmarked.shaped.acknowledged;
      threshold_sets = IsOpening-unmarked.shaped.threshold_sets;
      mark_sets = IsOpening-unmarked.shaped.mark_sets;
    };
    some_online = IsOpening-unmarked.some_online;
    values = IsOpening-unmarked.values;
    systems = IsOpening-unmarked.systems;
    diffs = IsOpening-unmarked.diffs;
    absent = IsOpening-unmarked.absent;
    thresholds = IsOpening-unmarked.thresholds;
    online = IsOpening-unmarked.online;
    marks = λ g known. let is = mark-is g known in omega (arith, is);
    unacknowledged = λ c g c_in g_in.
        rw level.acknowledged (get_or-copies (shape.cpus * length shape.zones) (cell (length s.mark) c g) None);
    unset_thresholds = IsOpening-unmarked.unset_thresholds;
    unset_marks = IsOpening-unmarked.unset_marks;
  }

  zero-diff : (c k : ℕ) → diff_at s c k ≡ pos 0
  zero-diff c k = ap (λ xs. get_or xs (cell (counters_of s) c k) (pos 0)) level.diff
      ∙ get_or-copies (shape.cpus * counter_count shape) (cell (counters_of s) c k) (pos 0)

  peak-most : (c g : ℕ) → opening_peak shape s c g ≤ 98
  peak-most c g =
      let threshold = subst (λ xs. get_or xs (cell (places_of s) c g) 0 ≤ 98) (sym level.threshold)
      (copies-most (shape.cpus * place_count shape) (cell (places_of s) c g) 98) in
      let diffs = largest_below-most (λ n. unsigned_abs (diff_at s c (counter_at shape g n))) shape.positions 0
      (λ n within. subst (λ (z : ℤ). unsigned_abs z ≤ 0) (sym (zero-diff c (counter_at shape g n))) (omega arith)) in
      omega (arith, threshold, diffs)

  module _ (sizes : List ZoneSize) (same : sizes ≡ replicate (length shape.zones) size_of_zones) where
    abbrev facts : Facts
    facts = record { layout = shape; sizes = sizes; base = s }

    sum-most : (g : ℕ) → peak_sum facts g [] ≤ shape.cpus * 98
    sum-most g =
        count_below-most (λ c. if_present (cpu_at s c) (opening_peak shape s c g)) shape.cpus 98
        (λ c within. let present = if_present-most (cpu_at s c) (opening_peak shape s c g) in
        omega (arith, present, peak-most c g))

    size-is : (g : ℕ) → IsZone shape g → size_at sizes g ≡ size_of_zones
    size-is g known = rw same (get_or-replicate (length shape.zones) g size_of_zones _ known)

    valid : IsValidSize size_of_zones
    valid = record {
      managed_least = omega arith;
      managed_most = omega arith;
      low_above_min = omega arith;
      high_above_low = omega arith;
      high_most = omega arith;
    }

    pub IsBase-level : IsBase facts
    IsBase-level = record {
      layout = layout;
      one_size_each = rw same (length-replicate (length shape.zones) size_of_zones);
      sizes = All-same IsValidSize sizes (replicate (length shape.zones) size_of_zones) same
          (All-replicate IsValidSize (length shape.zones) size_of_zones valid);
      opening = IsOpening-marked;
      covered = λ g known. record {
        unset = λ none. let is = mark-is g known in absurd (omega (arith, none, is));
        set = λ some.
            let is = mark-is g known in
            let high = ap (λ (size : ZoneSize). size.high) (size-is g known) in
            omega (arith, is, high, sum-most g, layout.cpus_most);
      };
    }

    pub AreOnline-level : AreOnline facts
    AreOnline-level c below = (below, rw level.cpu (get_or-replicate shape.cpus c Online Absent below))
