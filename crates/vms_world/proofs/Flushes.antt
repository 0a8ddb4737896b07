-- For other crates too: a world that was flushed belongs to its header: nothing is lost, and no CPU hides more.
use Rattle.std.proofs.Common.{◌≡◌, ℕ, ◌*◌, ◌^◌, ◌<◌, ◌≤◌, Bool, true, false, nat_eq, ℤ, pos, ◌+ℤ◌, unsigned_abs, []}
use Rattle.std.proofs.Common.{if◌then◌else◌, sym, ap, subst, ◌∙◌, arith}
use Rattle.std.proofs.lemmas.Int.{ints}
use Rattle.vms_calls.specs.Common.{Header, Absent, is_online, Covers, Shape, IsLayout, IsCpu, IsCounter, IsItem, IsZone}
use Rattle.vms_calls.specs.Common.{counter_at, counter_count, item_count, item_of, size_at, most_threshold, most_volume}
use Rattle.vms_calls.specs.Common.{State, IsBase, HasShape, cpu_at, diff_at, mark_at, system_at, value_at}
use Rattle.vms_calls.specs.Common.{IsWithinVolumes, if_present, opening_peak, peak_sum, differentials, values_of_item}
use Rattle.vms_calls.specs.Common.{facts_of}
use Rattle.vms_history.proofs.Common.{count_below-least, count_below-most, largest_below-least, largest_below-most}
use Rattle.vms_history.proofs.Common.{sum_below-most, sum_below-size, sum_below-same, sum_below-sum}
use Rattle.vms_core.proofs.Common.{counter_at-known, Covers-less, if_present-least, values_of_item-most}
use Rattle.vms_world.specs.declared.worlds.World.{World}
use Rattle.vms_world.specs.Common.{folded_at, folded_of, folded_of_item, flushed_pages, flushed, IsWorldOf, page_volume}
use Rattle.vms_world.proofs.ListedReads.{length-listed, get_or-listed, length-listed_by_cpu, get_or-listed_by_cpu}
use Rattle.vms_world.proofs.PageParts.{IsWorldOf-pages}

pub if-sum : (b : Bool) (x y : ℤ) → (if b then x +ℤ y else pos 0) ≡ (if b then x else pos 0) +ℤ (if b then y else pos 0)
if-sum true x y = omega (arith, ints)
if-sum false x y = omega (arith, ints)

module _ (shape : Shape) (layout : IsLayout shape) (s : State) (shaped : HasShape shape s) where
  abbrev next : State
  next = flushed_pages shape s

  pub value-flushed : (k : ℕ) → IsCounter shape k → value_at next k ≡ value_at s k +ℤ folded_of shape s k
  value-flushed k k_in = get_or-listed (λ k. value_at s k +ℤ folded_of shape s k) (counter_count shape) k (pos 0) k_in

  pub system-flushed : (i : ℕ) → IsItem shape i → system_at next i ≡ system_at s i +ℤ folded_of_item shape s i
  system-flushed i i_in =
      get_or-listed (λ i. system_at s i +ℤ folded_of_item shape s i) (item_count shape) i (pos 0) i_in

  pub diff-flushed : (c k : ℕ) → IsCpu shape c → IsCounter shape k
      → diff_at next c k ≡ (if is_online (cpu_at s c) then pos 0 else diff_at s c k)
  diff-flushed c k c_in k_in =
      rw (length-listed (λ k. value_at s k +ℤ folded_of shape s k) (counter_count shape))
      (get_or-listed_by_cpu (λ c k. if is_online (cpu_at s c) then pos 0 else diff_at s c k) shape.cpus
      (counter_count shape)
      c k (pos 0) c_in k_in)

  -- each differential is folded or stays
  parted : (c k : ℕ) → IsCpu shape c → IsCounter shape k → diff_at next c k +ℤ folded_at s c k ≡ diff_at s c k
  parted c k c_in k_in = ap (λ d. d +ℤ folded_at s c k) (diff-flushed c k c_in k_in) ∙ by (is_online (cpu_at s c))
    where
      by : (b : Bool) → (if b then pos 0 else diff_at s c k) +ℤ (if b then diff_at s c k else pos 0) ≡ diff_at s c k
      by true = omega (arith, ints)
      by false = omega (arith, ints)

  -- what a counter adds up to stays
  pub total-flushed : (k : ℕ) → IsCounter shape k
      → value_at next k +ℤ differentials shape next k ≡ value_at s k +ℤ differentials shape s k
  total-flushed k k_in = omega (
    arith,
    ints,
    value-flushed k k_in,
    sum_below-sum (λ c. diff_at next c k) (λ c. folded_at s c k) shape.cpus,
    sum_below-same (λ c. diff_at next c k +ℤ folded_at s c k) (λ c. diff_at s c k) shape.cpus
        (λ c c_in. parted c k c_in k_in),
  )

  smaller : (c k : ℕ) → IsCpu shape c → IsCounter shape k
      → unsigned_abs (diff_at next c k) ≤ unsigned_abs (diff_at s c k)
  smaller c k c_in k_in =
      subst (λ d. unsigned_abs d ≤ unsigned_abs (diff_at s c k)) (sym (diff-flushed c k c_in k_in))
      (by (is_online (cpu_at s c)))
    where
      by : (b : Bool) → unsigned_abs (if b then pos 0 else diff_at s c k) ≤ unsigned_abs (diff_at s c k)
      by true = omega arith
      by false = omega arith

  peak-least : (c g : ℕ) → IsCpu shape c → IsZone shape g → opening_peak shape next c g ≤ opening_peak shape s c g
  peak-least c g c_in g_in =
      let each : (n : ℕ) → n < shape.positions
      → unsigned_abs (diff_at next c (counter_at shape g n)) ≤ opening_peak shape s c g =
      λ n n_in. omega (
        arith,
        smaller c (counter_at shape g n) c_in (counter_at-known shape layout g n (omega arith) n_in),
        largest_below-least (λ n. unsigned_abs (diff_at s c (counter_at shape g n))) shape.positions n n_in,
      ) in
      omega (
        arith,
        largest_below-most (λ n. unsigned_abs (diff_at next c (counter_at shape g n))) shape.positions
            (opening_peak shape s c g) each,
      )

  -- a system-wide value that is the sum of its counters stays one
  system-sum : (i : ℕ) → IsItem shape i → system_at s i ≡ values_of_item shape s i
      → system_at next i ≡ values_of_item shape next i
  system-sum i i_in was =
      let of_item : (ℕ → ℤ) → ℕ → ℤ = λ f k. if nat_eq (item_of shape k) i then f k else pos 0 in
      let apart = sum_below-sum (of_item (value_at s)) (of_item (folded_of shape s)) (counter_count shape) in
      let joined = sum_below-same (of_item (value_at next))
      (λ k. of_item (value_at s) k +ℤ of_item (folded_of shape s) k) (counter_count shape)
      (λ k k_in. ap (λ z. if nat_eq (item_of shape k) i then z else pos 0) (value-flushed k k_in)
      ∙ if-sum (nat_eq (item_of shape k) i) (value_at s k) (folded_of shape s k)) in
      omega (arith, ints, system-flushed i i_in, was, apart, joined)

module _ (header : Header) (w : World) (of : IsWorldOf header w) where
  abbrev layout : Shape
  layout = header.layout

  abbrev is_layout : IsLayout layout
  is_layout = of.page_base.layout

  abbrev shaped : HasShape layout w.pages
  shaped = of.page_base.opening.shaped

  abbrev after : State
  after = flushed_pages layout w.pages

  diff-most : (c k : ℕ) → IsCpu layout c → IsCounter layout k → unsigned_abs (diff_at after c k) ≤ most_threshold
  diff-most c k c_in k_in = omega (
    arith,
    smaller layout is_layout w.pages shaped c k c_in k_in,
    of.page_base.opening.diffs c k c_in k_in,
  )

  hidden-most : (k : ℕ) → IsCounter layout k → unsigned_abs (differentials layout after k) ≤ 128 * 125
  hidden-most k k_in =
      let each = sum_below-most (λ c. pos (unsigned_abs (diff_at after c k))) layout.cpus most_threshold
      (λ c c_in. let small = diff-most c k c_in k_in in omega (arith, ints)) in
      omega (arith, ints, sum_below-size (λ c. diff_at after c k) layout.cpus, each, is_layout.cpus_most)

  value-most : (k : ℕ) → IsCounter layout k → unsigned_abs (value_at after k) ≤ 2 ^ 56
  value-most k k_in =
      let small : unsigned_abs (value_at after k +ℤ differentials layout after k) ≤ 129 * 2 ^ 48 = omega (
        arith,
        ap unsigned_abs (total-flushed layout is_layout w.pages shaped k k_in),
        of.pages_within.totals k k_in,
        count_below-most (λ c. page_volume header w c k) layout.cpus most_volume
            (λ c c_in. of.page_volumes.most c k c_in k_in),
        is_layout.cpus_most,
      ) in
      omega (arith, ints, small, hidden-most k k_in)

  system-is : (i : ℕ) → IsItem layout i → system_at after i ≡ values_of_item layout after i
  system-is i i_in = system-sum layout is_layout w.pages shaped i i_in (of.pages_within.systems i i_in)

  system-most : (i : ℕ) → IsItem layout i → unsigned_abs (system_at after i) ≤ 2 ^ 60
  system-most i i_in = omega (
    arith,
    ap unsigned_abs (system-is i i_in),
    values_of_item-most layout is_layout after i (2 ^ 56) value-most,
  )

  covered : (g : ℕ) → IsZone layout g
      → Covers (size_at header.sizes g) (mark_at after g) (peak_sum (facts_of header after) g [])
  covered g g_in = Covers-less (size_at header.sizes g) (mark_at w.pages g) (peak_sum (facts_of header w.pages) g [])
      (peak_sum (facts_of header after) g [])
      (count_below-least (λ c. if_present (cpu_at after c) (opening_peak layout after c g))
      (λ c. if_present (cpu_at w.pages c) (opening_peak layout w.pages c g)) layout.cpus
      (λ c c_in. if_present-least (cpu_at w.pages c) _ _ (peak-least layout is_layout w.pages shaped c g c_in g_in)))
      (of.page_base.covered g g_in)

  absent-zero : (c k : ℕ) → IsCpu layout c → cpu_at after c ≡ Absent → IsCounter layout k → diff_at after c k ≡ pos 0
  absent-zero c k c_in gone k_in =
      diff-flushed layout is_layout w.pages shaped c k c_in k_in
      ∙ ap (λ x. if is_online x then pos 0 else diff_at w.pages c k) gone
      ∙ of.page_base.opening.absent c k c_in gone k_in

  base : IsBase (facts_of header after)
  base =
      let was = of.page_base.opening in
      record {
        layout = of.page_base.layout;
        one_size_each = of.page_base.one_size_each;
        sizes = of.page_base.sizes;
        opening = record {
          shaped = record {
            place = length-listed (λ k. value_at w.pages k +ℤ folded_of layout w.pages k) (counter_count layout);
            system = length-listed (λ i. system_at w.pages i +ℤ folded_of_item layout w.pages i) (item_count layout);
            diff = length-listed_by_cpu (λ c k. if is_online (cpu_at w.pages c) then pos 0 else diff_at w.pages c k)
                layout.cpus (counter_count layout);
            threshold = was.shaped.threshold;
            mark = was.shaped.mark;
            cpu = was.shaped.cpu;
            acknowledged = was.shaped.acknowledged;
            threshold_sets = was.shaped.threshold_sets;
            mark_sets = was.shaped.mark_sets;
          };
          some_online = was.some_online;
          values = λ k k_in. omega (arith, value-most k k_in);
          systems = system-most;
          diffs = diff-most;
          absent = absent-zero;
          thresholds = was.thresholds;
          online = was.online;
          marks = was.marks;
          unacknowledged = was.unacknowledged;
          unset_thresholds = was.unset_thresholds;
          unset_marks = was.unset_marks;
        };
        covered = covered;
      }

  within : IsWithinVolumes layout (page_volume header w) after
  within = record {
    totals = λ k k_in. rw (total-flushed layout is_layout w.pages shaped k k_in) (of.pages_within.totals k k_in);
    systems = system-is;
  }

  pub IsWorldOf-flushed : IsWorldOf header (flushed layout w)
  IsWorldOf-flushed = IsWorldOf-pages header w of after base (λ c c_in gone. gone) within
