-- For other crates too: a refresh gives a state thresholds and marks with which a history may begin.
use Rattle.std.proofs.Common.{◌≡◌, ℕ, ◌+◌, ◌*◌, ◌^◌, ◌<◌, ◌≤◌, ◌&&◌, nat_eq, nat_le, nat_lt, max, Bool, true, false}
use Rattle.std.proofs.Common.{unsigned_abs, [], List, length, None, All, if◌then◌else◌, sym, ap, ◌∙◌, arith, get_or}
use Rattle.std.proofs.Math.Nat.{mul-le-mul_left}
use Rattle.std.proofs.lemmas.List.Elements.{All-get_or}
use Rattle.std.proofs.lemmas.List.Sums.{count_by-le-length}
use Rattle.vms_calls.specs.Common.{Header, CpuState, Online, Dead, Absent, ZoneSize, is_online, Covers, linux_mark_of}
use Rattle.vms_calls.specs.Common.{cover_mark_of, Shape, IsLayout, IsCpu, IsPlace, IsZone, counter_at, place_count}
use Rattle.vms_calls.specs.Common.{cell, IsValidSize, gap_of, size_at, most_threshold, State, IsBase, HasShape, cpu_at}
use Rattle.vms_calls.specs.Common.{diff_at, mark_at, threshold_at, if_present, opening_peak, peak_sum, facts_of}
use Rattle.vms_history.proofs.Common.{count_below-most, largest_below-most}
use Rattle.vms_core.proofs.Common.{counter_at-known, places_of-shaped}
use Rattle.vms_calls.proofs.Common.{cover_mark-covers}
use Rattle.vms_world.specs.Common.{MayRefresh, count_online, hidden_in, place_threshold, refreshed, with_thresholds}
use Rattle.vms_world.specs.Common.{zone_mark}
use Rattle.vms_world.proofs.ListedReads.{length-listed, get_or-listed, length-listed_by_cpu, get_or-listed_by_cpu}
use Rattle.vms_world.proofs.PlaceThresholds.{AreThresholds, place_threshold-most, place_threshold-least}

-- a mark stays near the high watermark
mark-below : (size : ZoneSize) (online t hidden : ℕ) → online ≤ 128 → t ≤ most_threshold → hidden ≤ 16000
    → cover_mark_of size (linux_mark_of size online t) hidden ≤ size.high + 16000
mark-below size online t hidden few small within =
    cover (linux_mark_of size online t) (linux (nat_lt (gap_of size) (online * t)))
    (nat_eq (linux_mark_of size online t) 0 && nat_le hidden (gap_of size))
  where
    times : online * t ≤ 16000
    times = let h : online * t ≤ online * 125 = mul-le-mul_left online small in omega arith

    linux : (b : Bool) → (if b then (size.high + online * t) else 0) ≤ size.high + 16000
    linux true = omega (arith, times)
    linux false = omega arith

    cover : (m : ℕ) → m ≤ size.high + 16000 → (b : Bool)
        → (if b then 0 else max m (size.high + hidden)) ≤ size.high + 16000
    cover m near true = omega arith
    cover m near false = omega arith

if_present-most : (x : CpuState) (n m : ℕ) → n ≤ m → if_present x n ≤ m
if_present-most Online n m less = less
if_present-most Dead n m less = less
if_present-most Absent n m less = omega arith

module _ (header : Header) (is_layout : IsLayout header.layout)
    (one_size_each : length header.sizes ≡ length header.layout.zones) (sizes : All IsValidSize header.sizes)
    (zones : List ℕ) (are : AreThresholds header.layout zones) (s : State) (unrated : MayRefresh header.layout s) where
  abbrev layout : Shape
  layout = header.layout

  abbrev rated : State
  rated = with_thresholds layout zones s

  abbrev next : State
  next = refreshed header zones s

  abbrev new_threshold : ℕ → ℕ → ℕ
  new_threshold c g = if is_online (cpu_at s c) then place_threshold layout zones g else threshold_at s c g

  pub shaped-refreshed : HasShape layout next
  shaped-refreshed = record {
    place = unrated.shaped.place;
    system = unrated.shaped.system;
    diff = unrated.shaped.diff;
    threshold = length-listed_by_cpu new_threshold layout.cpus (place_count layout);
    mark = length-listed (zone_mark header zones rated) (length layout.zones);
    cpu = unrated.shaped.cpu;
    acknowledged = unrated.shaped.acknowledged;
    threshold_sets = unrated.shaped.threshold_sets;
    mark_sets = unrated.shaped.mark_sets;
  }

  pub threshold-refreshed : (c g : ℕ) → IsCpu layout c → IsPlace layout g → threshold_at next c g ≡ new_threshold c g
  threshold-refreshed c g c_in g_in =
      rw (places_of-shaped layout next is_layout shaped-refreshed)
      (get_or-listed_by_cpu new_threshold layout.cpus (place_count layout) c g 0 c_in g_in)

  pub mark-refreshed : (g : ℕ) → IsZone layout g → mark_at next g ≡ zone_mark header zones rated g
  mark-refreshed g g_in = get_or-listed (zone_mark header zones rated) (length layout.zones) g 0 g_in

  pub threshold_most : (c g : ℕ) → IsCpu layout c → IsPlace layout g → threshold_at next c g ≤ most_threshold
  threshold_most c g c_in g_in =
      rw (threshold-refreshed c g c_in g_in) (by (is_online (cpu_at s c)))
    where
      by : (b : Bool) → (if b then place_threshold layout zones g else threshold_at s c g) ≤ most_threshold
      by true = place_threshold-most layout is_layout zones are g g_in
      by false = unrated.thresholds c g c_in g_in

  threshold-least : (c g : ℕ) → IsCpu layout c → cpu_at next c ≡ Online → IsPlace layout g → 1 ≤ threshold_at next c g
  threshold-least c g c_in runs g_in =
      rw (threshold-refreshed c g c_in g_in, runs) (place_threshold-least layout is_layout zones are g g_in)

  peak-most : (c g : ℕ) → IsCpu layout c → IsZone layout g → opening_peak layout next c g ≤ most_threshold
  peak-most c g c_in g_in = omega (
    arith,
    threshold_most c g c_in (omega arith),
    largest_below-most (λ n. unsigned_abs (diff_at s c (counter_at layout g n))) layout.positions most_threshold
        (λ n n_in. unrated.diffs c (counter_at layout g n) c_in
        (counter_at-known layout is_layout g n (omega arith) n_in)),
  )

  pub hidden-most : (g : ℕ) → IsZone layout g → hidden_in layout rated g ≤ 16000
  hidden-most g g_in =
      let most : hidden_in layout rated g ≤ layout.cpus * 125 =
      count_below-most (λ c. if_present (cpu_at rated c) (opening_peak layout rated c g)) layout.cpus 125
      (λ c c_in. if_present-most (cpu_at rated c) _ 125 (peak-most c g c_in g_in)) in
      omega (arith, most, is_layout.cpus_most)

  abbrev no_size : ZoneSize
  no_size = record { managed = 0; min = 0; low = 0; high = 0 }

  mark-most : (g : ℕ) → IsZone layout g → mark_at next g < 2 ^ 43
  mark-most g g_in =
      let inside : g < length header.sizes = omega (arith, one_size_each) in
      let valid = All-get_or IsValidSize header.sizes g no_size inside sizes in
      omega (
        arith,
        mark-refreshed g g_in,
        mark-below (size_at header.sizes g) (count_online s.cpu) (get_or zones g 0) (hidden_in layout rated g)
            (omega (arith, count_by-le-length is_online s.cpu, unrated.shaped.cpu, is_layout.cpus_most))
            (are.most g g_in) (hidden-most g g_in),
        valid.high_most,
      )

  covered : (g : ℕ) → IsZone layout g
      → Covers (size_at header.sizes g) (mark_at next g) (peak_sum (facts_of header next) g [])
  covered g g_in = rw (mark-refreshed g g_in) (cover_mark-covers (size_at header.sizes g)
      (linux_mark_of (size_at header.sizes g) (count_online s.cpu) (get_or zones g 0)) (hidden_in layout rated g))

  pub IsBase-refreshed : IsBase (facts_of header next)
  IsBase-refreshed = record {
    layout = is_layout;
    one_size_each = one_size_each;
    sizes = sizes;
    opening = record {
      shaped = shaped-refreshed;
      some_online = unrated.some_online;
      values = unrated.values;
      systems = unrated.systems;
      diffs = unrated.diffs;
      absent = unrated.absent;
      thresholds = threshold_most;
      online = threshold-least;
      marks = mark-most;
      unacknowledged = λ c g c_in g_in.
          ap (λ (n : ℕ). get_or s.acknowledged (cell n c g) None)
          (length-listed (zone_mark header zones rated) (length layout.zones) ∙ sym unrated.shaped.mark)
          ∙ unrated.unacknowledged c g c_in g_in;
      unset_thresholds = λ c g c_in g_in.
          ap (λ (n : ℕ). get_or s.threshold_sets (cell n c g) 0)
          (places_of-shaped layout next is_layout shaped-refreshed
          ∙ sym (places_of-shaped layout s is_layout unrated.shaped))
          ∙ unrated.unset_thresholds c g c_in g_in;
      unset_marks = unrated.unset_marks;
    };
    covered = covered;
  }
