-- For other crates too: the state that a complete history leaves may open the next phase, and its totals grew by no
-- more than the volumes.
use Rattle.std.proofs.Common.{◌≡◌, ℕ, ◌+◌, ◌*◌, ◌^◌, ◌<◌, ◌≤◌, Bool, [], ℤ, pos, ◌+ℤ◌, ◌-ℤ◌, unsigned_abs, None, ap}
use Rattle.std.proofs.Common.{◌∙◌, subst, arith, if◌then◌else◌, nat_eq}
use Rattle.std.proofs.Math.ListN.{get_or-map}
use Rattle.std.proofs.lemmas.List.{length-map}
use Rattle.std.proofs.lemmas.Int.{ints}
use Rattle.vms_history.specs.Common.{Shape, IsLayout, IsCpu, IsCounter, IsItem, IsPlace, counter_at, counter_count}
use Rattle.vms_history.specs.Common.{item_of, place_of, size_at, most_threshold, most_volume, total, sum_below}
use Rattle.vms_history.specs.Common.{count_below}
use Rattle.vms_base.proofs.Common.{place_of-lt, counter_at-place}
use Rattle.vms_history.proofs.Common.{if-map, if-either, total-by_parts, pos-count_below, count_below-least}
use Rattle.vms_history.proofs.Common.{largest_below-most, count_below-sum, count_below-most, base_can_begin}
use Rattle.vms_history.proofs.Common.{sum_below-most, sum_below-size, sum_below-same, sum_below-sum, sum_below-zeros}
use Rattle.vms_core.specs.declared.states.State.{State}
use Rattle.vms_core.specs.declared.steps.Facts.{Facts}
use Rattle.vms_core.specs.declared.steps.Step.{Step}
use Rattle.vms_core.specs.declared.steps.Step.TheVariants.{Put}
use Rattle.vms_core.specs.Common.{IsBase, IsOpening, settled, next_facts, HasShape, value_at, system_at, diff_at}
use Rattle.vms_core.specs.Common.{mark_at, cpu_at, Meets, grown, AreWithinVolumes, IsWithinVolumes, pages, History}
use Rattle.vms_core.specs.Common.{IsLegal, IsComplete, state_after, opening_peak, peak, peak_sum, cpu_in, if_present}
use Rattle.vms_core.specs.Common.{change_of, change_of_item, differentials, differentials_of_item, values_of_item}
use Rattle.vms_core.specs.Common.{true_total, true_total_of_item, spent}
use Rattle.vms_core.proofs.CarriedNothing.{carried_by_all-none, none-carried_of_item}
use Rattle.vms_core.proofs.CounterRanges.{counter_at-known}
use Rattle.vms_core.proofs.HiddenPages.{absent-zero}
use Rattle.vms_core.proofs.ItemSums.{item-most}
use Rattle.vms_core.proofs.Items.{system_totals-kept, one_change, if-sum}
use Rattle.vms_core.proofs.LiveOwners.{online-stays}
use Rattle.vms_core.proofs.MarkCovers.{Covers-less, if_present-least, covers-kept}
use Rattle.vms_core.proofs.PeakBounds.{last_within-holds, thresholds-within, peaks-in_range}
use Rattle.vms_core.proofs.SettingRanges.{thresholds-in_range, marks-in_range}
use Rattle.vms_core.proofs.Settings.{cpu_at-state_after}
use Rattle.vms_core.proofs.Shapes.{HasShape-state_after}
use Rattle.vms_core.proofs.Spending.{changes-by_cpu, changes-within_sizes}
use Rattle.vms_core.proofs.Sums.{totals-kept}

-- sums over some of the numbers below n
module _ (is_in : ℕ → Bool) (n : ℕ) where
  abbrev over : (ℕ → ℤ) → ℤ
  over f = sum_below (λ k. if is_in k then f k else pos 0) n

  over-sum : (f g : ℕ → ℤ) → over (λ k. f k +ℤ g k) ≡ over f +ℤ over g
  over-sum f g =
      sum_below-same (λ k. if is_in k then f k +ℤ g k else pos 0)
      (λ k. (if is_in k then f k else pos 0) +ℤ (if is_in k then g k else pos 0)) n
      (λ k k_in. if-sum (is_in k) (f k) (g k))
      ∙ sum_below-sum (λ k. if is_in k then f k else pos 0) (λ k. if is_in k then g k else pos 0) n

  over-same : (f g : ℕ → ℤ) → ((k : ℕ) → k < n → f k ≡ g k) → over f ≡ over g
  over-same f g same =
      sum_below-same (λ k. if is_in k then f k else pos 0) (λ k. if is_in k then g k else pos 0) n
      (λ k k_in. ap (λ z. if is_in k then z else pos 0) (same k k_in))

-- what the steps of a history change an item by they change its counters by
change_of_item-by_counter : (facts : Facts) (i : ℕ) (h : History) (s : State) (p : ℕ) (step : Step)
    → Meets facts h s p step
    → sum_below (λ k. if nat_eq (item_of facts.layout k) i then change_of k step else pos 0)
    (counter_count facts.layout)
    ≡ change_of_item facts.layout i step
change_of_item-by_counter facts i h s p (Put l w t delta how) meets =
    one_change (λ k. nat_eq (item_of facts.layout k) i) (counter_count facts.layout) l.number delta meets.counter
change_of_item-by_counter facts i h s p _ meets =
    sum_below-zeros (λ k. if nat_eq (item_of facts.layout k) i then pos 0 else pos 0) (counter_count facts.layout)
    (λ k k_in. if-either (nat_eq (item_of facts.layout k) i) (pos 0))

changes_of_item-by_counter : (facts : Facts) (i : ℕ) (h : History) → IsLegal facts h
    → total (change_of_item facts.layout i) h
    ≡ sum_below (λ k. if nat_eq (item_of facts.layout k) i then total (change_of k) h else pos 0)
    (counter_count facts.layout)
changes_of_item-by_counter facts i h =
    total-by_parts pages facts (change_of_item facts.layout i)
    (λ g k. if nat_eq (item_of facts.layout k) i then total (change_of k) g else pos 0)
    (λ e g k. if nat_eq (item_of facts.layout k) i then change_of k e.step else pos 0) (counter_count facts.layout)
    (λ k k_in. if-either (nat_eq (item_of facts.layout k) i) (pos 0))
    (λ e g k k_in. if-sum (nat_eq (item_of facts.layout k) i) (change_of k e.step) (total (change_of k) g))
    (λ e g legal. change_of_item-by_counter facts i g (state_after facts g) e.caller e.step legal.2)
    h

-- the values of an item's counters are small together, where each is: an item has at most sixteen counters
pub values_of_item-most : (shape : Shape) → IsLayout shape → (s : State) (i most : ℕ)
    → ((k : ℕ) → IsCounter shape k → unsigned_abs (value_at s k) ≤ most)
    → unsigned_abs (values_of_item shape s i) ≤ 16 * most
values_of_item-most shape layout s i most each =
    let sizes = sum_below-same
    (λ k. pos (unsigned_abs (if nat_eq (item_of shape k) i then value_at s k else pos 0)))
    (λ k. if nat_eq (item_of shape k) i then pos (unsigned_abs (value_at s k)) else pos 0) (counter_count shape)
    (λ k k_in. if-map (λ (z : ℤ). pos (unsigned_abs z)) (nat_eq (item_of shape k) i) (value_at s k) (pos 0)) in
    let together = item-most shape layout i most (λ k. pos (unsigned_abs (value_at s k)))
    (λ k k_in. let small = each k k_in in omega (arith, ints)) in
    omega (
      arith,
      ints,
      sum_below-size (λ k. if nat_eq (item_of shape k) i then value_at s k else pos 0) (counter_count shape),
      sizes,
      together,
    )

-- a value is its total less what is hidden
less-hidden : (value hidden : ℤ) → unsigned_abs (value +ℤ hidden) ≤ 129 * 2 ^ 48 → unsigned_abs hidden ≤ 128 * 125
    → unsigned_abs value ≤ 2 ^ 56
less-hidden value hidden small few = omega (arith, ints)

module _ (facts : Facts) (h : History) where
  abbrev shape : Shape
  shape = facts.layout

  abbrev ended : State
  ended = state_after facts h

  -- what the settled state may hide is within the peaks
  pub opening_peaks-within : IsLegal facts h → (c g : ℕ) → IsCpu shape c → IsPlace shape g
      → opening_peak shape (settled ended) c g ≤ peak facts c g h
  opening_peaks-within legal c g c_in g_in =
      let layout = (base_can_begin pages facts h legal).layout in
      let each : (n : ℕ) → n < shape.positions
      → unsigned_abs (diff_at ended c (counter_at shape g n)) ≤ peak facts c g h =
      λ n n_in.
      let k = counter_at shape g n in
      let within = last_within-holds facts h legal c k c_in (counter_at-known shape layout g n g_in n_in) in
      let last = subst (λ (f : ℕ). unsigned_abs (diff_at ended c k) ≤ peak facts c f h)
      (counter_at-place shape layout g n n_in) (omega (arith, within.differential, within.last)) in
      last in
      omega (
        arith,
        thresholds-within facts h legal c g c_in g_in,
        largest_below-most (λ n. unsigned_abs (diff_at ended c (counter_at shape g n))) shape.positions
            (peak facts c g h) each,
      )

  peak_sums-within : IsLegal facts h → (g : ℕ) → IsPlace shape g
      → peak_sum (next_facts facts ended) g [] ≤ peak_sum facts g h
  peak_sums-within legal g g_in = count_below-least
      (λ c. if_present (cpu_at ended c) (opening_peak shape (settled ended) c g))
      (λ c. if_present (cpu_in facts c h) (peak facts c g h)) shape.cpus
      (λ c c_in. subst (λ x. if_present (cpu_at ended c) (opening_peak shape (settled ended) c g)
      ≤ if_present x (peak facts c g h)) (cpu_at-state_after facts h legal c c_in)
      (if_present-least (cpu_at ended c) (opening_peak shape (settled ended) c g) (peak facts c g h)
      (opening_peaks-within legal c g c_in g_in)))

  module _ (complete : IsComplete facts h) where
    legal : IsLegal facts h
    legal = complete.legal

    total-ended : (k : ℕ) → IsCounter shape k → value_at ended k +ℤ differentials shape ended k ≡ true_total facts h k
    total-ended k k_in =
        omega (arith, ints, totals-kept facts h legal k k_in, carried_by_all-none facts h complete k)

    total_of_item-ended : (i : ℕ) → IsItem shape i
        → system_at ended i +ℤ differentials_of_item shape ended i ≡ true_total_of_item facts h i
    total_of_item-ended i i_in =
        omega (arith, ints, system_totals-kept facts h legal i i_in, none-carried_of_item facts h complete i)

    -- a system-wide value is off from the sum of the global ones by as much as in the base
    pub system_values-keep_off : (i : ℕ) → IsItem shape i
        → system_at ended i -ℤ values_of_item shape ended i
        ≡ system_at facts.base i -ℤ values_of_item shape facts.base i
    system_values-keep_off i i_in =
        let is_in : ℕ → Bool = λ k. nat_eq (item_of shape k) i in
        let n = counter_count shape in
        let changes : ℕ → ℤ = λ k. total (change_of k) h in
        let now = over-sum is_in n (value_at ended) (differentials shape ended) in
        let was = over-sum is_in n (value_at facts.base) (differentials shape facts.base) in
        let grown = over-sum is_in n (λ k. value_at facts.base k +ℤ differentials shape facts.base k) changes in
        let same = over-same is_in n (λ k. value_at ended k +ℤ differentials shape ended k)
        (λ k. (value_at facts.base k +ℤ differentials shape facts.base k) +ℤ changes k) total-ended in
        omega (
          arith,
          ints,
          now,
          was,
          grown,
          same,
          total_of_item-ended i i_in,
          changes_of_item-by_counter facts i h legal,
        )

    module _ (volume : ℕ → ℕ → ℕ) (base : IsWithinVolumes shape volume facts.base)
        (volumes : AreWithinVolumes shape (grown volume h)) where
      total-grown : (k : ℕ) → IsCounter shape k
          → unsigned_abs (value_at ended k +ℤ differentials shape ended k)
          ≤ most_volume + count_below (λ c. grown volume h c k) shape.cpus
      total-grown k k_in = omega (
        arith,
        ints,
        total-ended k k_in,
        base.totals k k_in,
        changes-within_sizes k h,
        changes-by_cpu facts h legal k,
        pos-count_below (λ c. spent h c k) shape.cpus,
        count_below-sum (λ c. volume c k) (λ c. spent h c k) shape.cpus,
      )

      system-ended : (i : ℕ) → IsItem shape i → system_at ended i ≡ values_of_item shape ended i
      system-ended i i_in = omega (arith, ints, system_values-keep_off i i_in, base.systems i i_in)

      pub within-volumes : IsWithinVolumes shape (grown volume h) (settled ended)
      within-volumes = record { totals = total-grown; systems = system-ended }

      layout : IsLayout shape
      layout = (base_can_begin pages facts h legal).layout

      diff-most : (c k : ℕ) → IsCpu shape c → IsCounter shape k → unsigned_abs (diff_at ended c k) ≤ most_threshold
      diff-most c k c_in k_in =
          let within = last_within-holds facts h legal c k c_in k_in in
          let peak = peaks-in_range facts h legal c (place_of shape k) c_in (place_of-lt shape layout k k_in) in
          omega (arith, within.differential, within.last, peak)

      hidden-most : (k : ℕ) → IsCounter shape k → unsigned_abs (differentials shape ended k) ≤ 128 * 125
      hidden-most k k_in =
          let each = sum_below-most (λ c. pos (unsigned_abs (diff_at ended c k))) shape.cpus most_threshold
          (λ c c_in. let small = diff-most c k c_in k_in in omega (arith, ints)) in
          omega (arith, ints, sum_below-size (λ c. diff_at ended c k) shape.cpus, each, layout.cpus_most)

      value-most : (k : ℕ) → IsCounter shape k → unsigned_abs (value_at ended k) ≤ 2 ^ 56
      value-most k k_in = less-hidden (value_at ended k) (differentials shape ended k)
          (omega (
            arith,
            total-grown k k_in,
            count_below-most (λ c. grown volume h c k) shape.cpus most_volume (λ c c_in. volumes c k c_in k_in),
            layout.cpus_most,
          ))
          (hidden-most k k_in)

      system-most : (i : ℕ) → IsItem shape i → unsigned_abs (system_at ended i) ≤ 2 ^ 60
      system-most i i_in = omega (
        arith,
        ap unsigned_abs (system-ended i i_in),
        values_of_item-most shape layout ended i (2 ^ 56) value-most,
      )

      shaped : HasShape shape ended
      shaped = HasShape-state_after facts h legal

      opening-ended : IsOpening shape (settled ended)
      opening-ended =
          let begun = base_can_begin pages facts h legal in
          let online = begun.opening.some_online in
          record {
            shaped = record {
              place = shaped.place;
              system = shaped.system;
              diff = shaped.diff;
              threshold = shaped.threshold;
              mark = shaped.mark;
              cpu = shaped.cpu;
              acknowledged = length-map ended.acknowledged (λ _. None) ∙ shaped.acknowledged;
              threshold_sets = length-map ended.threshold_sets (λ _. 0) ∙ shaped.threshold_sets;
              mark_sets = length-map ended.mark_sets (λ _. 0) ∙ shaped.mark_sets;
            };
            some_online = (online.0, online.1, online-stays facts h online.0 legal online.2);
            values = λ k k_in. let small = value-most k k_in in omega arith;
            systems = system-most;
            diffs = diff-most;
            absent = λ c k c_in gone k_in. absent-zero facts h legal c k c_in k_in gone;
            thresholds = λ c g c_in g_in. (thresholds-in_range facts h legal c g c_in g_in).most;
            online = λ c g c_in is_online g_in. (thresholds-in_range facts h legal c g c_in g_in).least is_online;
            marks = marks-in_range facts h legal;
            unacknowledged = λ c g c_in g_in. get_or-map (λ _. None) ended.acknowledged _ None;
            unset_thresholds = λ c g c_in g_in. get_or-map (λ _. 0) ended.threshold_sets _ 0;
            unset_marks = λ g g_in. get_or-map (λ _. 0) ended.mark_sets g 0;
          }

      pub IsBase-ended : IsBase (next_facts facts ended)
      IsBase-ended =
          let begun = base_can_begin pages facts h legal in
          record {
            layout = begun.layout;
            one_size_each = begun.one_size_each;
            sizes = begun.sizes;
            opening = opening-ended;
            covered = λ g zone.
                Covers-less (size_at facts.sizes g) (mark_at ended g) (peak_sum facts g h)
                (peak_sum (next_facts facts ended) g []) (peak_sums-within legal g (omega arith))
                (covers-kept facts h legal g zone);
          }
