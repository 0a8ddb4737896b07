-- What stands in each place after thresholds, a mark and peaks were written for one zone.
use Rattle.std.proofs.Common.{◌≡◌, ◌≢◌, ℕ, suc, ◌+◌, ◌&&◌, nat_eq, max, if◌then◌else◌, Bool, true, false, List, [], ◌∷◌}
use Rattle.std.proofs.Common.{length, refl, sym, ap, ◌∙◌, arith, eq-eqb, eqb-true, add-one, length-set, subst}
use Rattle.std.proofs.lemmas.Bool.{ne_eqb}
use Rattle.vms_calls.specs.Common.{Choice, Header, CpuId, CpuState, IsCpu, IsLayout, IsNode, IsPlace, IsZone, Shape}
use Rattle.vms_calls.specs.Common.{State, HasShape, cell, cover_mark_of, cpu_at, if_present, is_online, linux_mark_of}
use Rattle.vms_calls.specs.Common.{mark_at, mark_sets_at, online_from, size_at, state_at, threshold_at}
use Rattle.vms_calls.specs.Common.{threshold_sets_at, with_mark, with_threshold}
use Rattle.vms_history.proofs.Common.{count_below-same, get_or-changed, get_or-changed_cell, get_or-set}
use Rattle.vms_history.proofs.Common.{get_or-set_cell}
use Rattle.vms_plain_control.specs.Common.{GetsMark, GetsThreshold, HasAllPeaks, KeepsMark, KeepsThresholds, KeepsZone}
use Rattle.vms_plain_control.specs.Common.{RatesZone, SparesZone, is_acknowledged, mark_by, mark_given, marked}
use Rattle.vms_plain_control.specs.Common.{online_in, peak_found, peak_given, peak_in, peaks_lowered, peaks_raised}
use Rattle.vms_plain_control.specs.Common.{rated, with_peak, with_place_thresholds}
use Rattle.vms_plain_control.proofs.OnlineWrites.{kept-all, read-all}
use Rattle.vms_plain_control.proofs.SetTimes.{HasShape-marked, marks-thresholds}
use Rattle.vms_plain_control.proofs.ThresholdWrites.{HasShape-with_threshold, threshold_at-with_threshold}
use Rattle.vms_plain_control.proofs.ThresholdWrites.{threshold_sets_at-with_threshold}

if-here : (b e : Bool) (v w : ℕ) → e ≡ true → (if b && e then v else w) ≡ (if b then v else w)
if-here true e v w is = ap (λ e. if e then v else w) is
if-here false e v w is = refl

if-there : (b e : Bool) (v w : ℕ) → e ≡ false → (if b && e then v else w) ≡ w
if-there true e v w is = ap (λ e. if e then v else w) is
if-there false e v w is = refl

if-both : (b e a : Bool) (v w : ℕ) → e ≡ true → (if b && e then (if a then v else w) else w) ≡ (if b && a then v else w)
if-both true e a v w is = ap (λ e. if e then (if a then v else w) else w) is
if-both false e a v w is = refl

other-place : (g f : ℕ) → f ≢ g → nat_eq g f ≡ false
other-place g f other = ne_eqb g f (λ same. other (sym same))

-- thresholds that are set leave the marks
marks-stay : (g t : ℕ) (cs : List CpuId) (s : State) → (with_place_thresholds g t cs s).mark ≡ s.mark
marks-stay g t [] s = refl
marks-stay g t (c ∷ cs) s = marks-stay g t cs (with_threshold s c.number g t)

-- thresholds of a place that are set for the CPUs that are online by a list
module _ (shape : Shape) (layout : IsLayout shape) (g t : ℕ) (g_in : IsPlace shape g) (xs : List CpuState)
    (one_each : length xs ≡ shape.cpus) (s : State) (shaped : HasShape shape s) where
  abbrev given : State
  given = with_place_thresholds g t (online_from 0 xs) s

  module _ (d f : ℕ) (f_in : IsPlace shape f) where
    threshold-read : threshold_at given d f
        ≡ (if is_online (state_at xs d) && nat_eq g f then t else threshold_at s d f)
    threshold-read = read-all State (λ now c. with_threshold now c.number g t) (HasShape shape) shape.cpus
        (λ a c c_in keeps. HasShape-with_threshold shape layout a keeps c.number g t) (λ a. threshold_at a d f)
        (λ old. t) (nat_eq g f) d
        (λ a c c_in keeps. threshold_at-with_threshold shape layout a keeps c.number g t c_in g_in d f f_in) xs s
        (omega (arith, one_each)) shaped

    number-read : threshold_sets_at given d f
        ≡ (if is_online (state_at xs d) && nat_eq g f then suc (threshold_sets_at s d f) else threshold_sets_at s d f)
    number-read = read-all State (λ now c. with_threshold now c.number g t) (HasShape shape) shape.cpus
        (λ a c c_in keeps. HasShape-with_threshold shape layout a keeps c.number g t) (λ a. threshold_sets_at a d f)
        suc (nat_eq g f) d
        (λ a c c_in keeps. threshold_sets_at-with_threshold shape layout a keeps c.number g t c_in g_in d f f_in) xs s
        (omega (arith, one_each)) shaped

  pub thresholds-here : (d : ℕ) → threshold_at given d g ≡ (if is_online (state_at xs d) then t else threshold_at s d g)
  thresholds-here d = threshold-read d g g_in
      ∙ if-here (is_online (state_at xs d)) (nat_eq g g) t (threshold_at s d g) (eq-eqb g g refl)

  pub numbers-here : (d : ℕ) → threshold_sets_at given d g
      ≡ (if is_online (state_at xs d) then suc (threshold_sets_at s d g) else threshold_sets_at s d g)
  numbers-here d = number-read d g g_in
      ∙ if-here (is_online (state_at xs d)) (nat_eq g g) (suc (threshold_sets_at s d g)) (threshold_sets_at s d g)
      (eq-eqb g g refl)

  pub KeepsThresholds-given : (f : ℕ) → IsPlace shape f → f ≢ g → KeepsThresholds shape f s given
  KeepsThresholds-given f f_in other = record {
    pages = λ d d_in. threshold-read d f f_in
        ∙ if-there (is_online (state_at xs d)) (nat_eq g f) t (threshold_at s d f) (other-place g f other);
    numbers = λ d d_in. number-read d f f_in
        ∙ if-there (is_online (state_at xs d)) (nat_eq g f) (suc (threshold_sets_at s d f)) (threshold_sets_at s d f)
        (other-place g f other);
  }

-- thresholds of a place that are set on the online CPUs
module _ (shape : Shape) (layout : IsLayout shape) (g t : ℕ) (g_in : IsPlace shape g) (s : State)
    (shaped : HasShape shape s) where
  pub GetsThreshold-set : GetsThreshold shape g t s (with_place_thresholds g t (online_in s) s)
  GetsThreshold-set = record {
    pages = λ d d_in. thresholds-here shape layout g t g_in s.cpu shaped.cpu s shaped d;
    numbers = λ d d_in. numbers-here shape layout g t g_in s.cpu shaped.cpu s shaped d;
  }

  pub KeepsThresholds-set : (f : ℕ) → IsPlace shape f → f ≢ g
      → KeepsThresholds shape f s (with_place_thresholds g t (online_in s) s)
  KeepsThresholds-set f f_in other =
      KeepsThresholds-given shape layout g t g_in s.cpu shaped.cpu s shaped f f_in other

  pub KeepsMark-set : (f : ℕ) → KeepsMark f s (with_place_thresholds g t (online_in s) s)
  KeepsMark-set f = record {
    pages = ap (λ (ms : List ℕ). mark_at (record s { mark = ms }) f) (marks-stay g t (online_in s) s);
    number = ap (λ (ms : List ℕ). mark_sets_at (record s { mark_sets = ms }) f)
        (marks-thresholds shape layout g t g_in (online_in s) s);
  }

-- a mark and then thresholds
module _ (shape : Shape) (layout : IsLayout shape) (g m t : ℕ) (zone : IsZone shape g) (s : State)
    (shaped : HasShape shape s) where
  abbrev next : State
  next = with_place_thresholds g t (online_in s) (marked g m s)

  place : (f : ℕ) → IsZone shape f → IsPlace shape f
  place f f_in = omega arith

  same-thresholds : (d f : ℕ) → threshold_at (marked g m s) d f ≡ threshold_at s d f
  same-thresholds d f = by (nat_eq m (mark_at s g))
    where
      by : (b : Bool) → threshold_at (if b then s else with_mark s g m) d f ≡ threshold_at s d f
      by true = refl
      by false = refl

  same-numbers : (d f : ℕ) → threshold_sets_at (marked g m s) d f ≡ threshold_sets_at s d f
  same-numbers d f = by (nat_eq m (mark_at s g))
    where
      by : (b : Bool) → threshold_sets_at (if b then s else with_mark s g m) d f ≡ threshold_sets_at s d f
      by true = refl
      by false = refl

  under : HasShape shape (marked g m s)
  under = HasShape-marked shape g m zone s shaped

  gives : GetsThreshold shape g t s next
  gives = record {
    pages = λ d d_in. thresholds-here shape layout g t (place g zone) s.cpu shaped.cpu (marked g m s) under d
        ∙ ap (λ n. if is_online (cpu_at s d) then t else n) (same-thresholds d g);
    numbers = λ d d_in. numbers-here shape layout g t (place g zone) s.cpu shaped.cpu (marked g m s) under d
        ∙ ap (λ n. if is_online (cpu_at s d) then suc n else n) (same-numbers d g);
  }

  keeps : (f : ℕ) → IsPlace shape f → f ≢ g → KeepsThresholds shape f s next
  keeps f f_in other =
      let kept = KeepsThresholds-given shape layout g t (place g zone) s.cpu shaped.cpu (marked g m s) under f f_in
      other in
      record {
        pages = λ d d_in. kept.pages d d_in ∙ same-thresholds d f;
        numbers = λ d d_in. kept.numbers d d_in ∙ same-numbers d f;
      }

  mark-then : (f : ℕ) → mark_at next f ≡ mark_at (marked g m s) f
  mark-then f = ap (λ (ms : List ℕ). mark_at (record s { mark = ms }) f) (marks-stay g t (online_in s) (marked g m s))

  number-then : (f : ℕ) → mark_sets_at next f ≡ mark_sets_at (marked g m s) f
  number-then f = ap (λ (ms : List ℕ). mark_sets_at (record s { mark_sets = ms }) f)
      (marks-thresholds shape layout g t (place g zone) (online_in s) (marked g m s))

  gives-mark : GetsMark g m s next
  gives-mark = record {
    pages = mark-then g ∙ pages (nat_eq m (mark_at s g)) refl;
    number = number-then g ∙ number (nat_eq m (mark_at s g));
  }
    where
      pages : (b : Bool) → nat_eq m (mark_at s g) ≡ b → mark_at (if b then s else with_mark s g m) g ≡ m
      pages true same = sym (eqb-true m (mark_at s g) same)
      pages false other = get_or-set s.mark g g m 0 (rw shaped.mark zone)
          ∙ ap (λ b. if b then m else mark_at s g) (eq-eqb g g refl)

      number : (b : Bool) → mark_sets_at (if b then s else with_mark s g m) g
          ≡ (if b then mark_sets_at s g else suc (mark_sets_at s g))
      number true = refl
      number false = get_or-changed (λ n. n + 1) s.mark_sets g g 0 (rw shaped.mark_sets zone)
          ∙ ap (λ b. if b then mark_sets_at s g + 1 else mark_sets_at s g) (eq-eqb g g refl)
          ∙ add-one (mark_sets_at s g)

  keeps-mark : (f : ℕ) → f ≢ g → KeepsMark f s next
  keeps-mark f other = record {
    pages = mark-then f ∙ pages (nat_eq m (mark_at s g));
    number = number-then f ∙ number (nat_eq m (mark_at s g));
  }
    where
      pages : (b : Bool) → mark_at (if b then s else with_mark s g m) f ≡ mark_at s f
      pages true = refl
      pages false = get_or-set s.mark g f m 0 (rw shaped.mark zone)
          ∙ ap (λ b. if b then m else mark_at s f) (other-place g f other)

      number : (b : Bool) → mark_sets_at (if b then s else with_mark s g m) f ≡ mark_sets_at s f
      number true = refl
      number false = get_or-changed (λ n. n + 1) s.mark_sets g f 0 (rw shaped.mark_sets zone)
          ∙ ap (λ b. if b then mark_sets_at s f + 1 else mark_sets_at s f) (other-place g f other)

-- peaks of a zone that are lowered, and then raised
module _ (shape : Shape) (g : ℕ) (zone : IsZone shape g) (s : State) (one_each : length s.cpu ≡ shape.cpus) where
  module _ (d f : ℕ) (f_in : IsZone shape f) where
    lowered-one : (peaks : List ℕ) (c : ℕ) → IsCpu shape c → HasAllPeaks shape peaks
        → peak_in shape (if is_acknowledged s c g then with_peak shape c g (threshold_at s c g) peaks else peaks) d f
        ≡ (if nat_eq c d && nat_eq g f
        then (if is_acknowledged s d g then threshold_at s d g else peak_in shape peaks d f)
        else peak_in shape peaks d f)
    lowered-one peaks c c_in full = by (nat_eq c d) refl
      where
        read : (b : Bool) (t : ℕ) → peak_in shape (if b then with_peak shape c g t peaks else peaks) d f
            ≡ (if nat_eq c d && nat_eq g f
            then (if b then t else peak_in shape peaks d f)
            else peak_in shape peaks d f)
        read true t = get_or-set_cell (length shape.zones) shape.cpus peaks c g d f t 0 full c_in zone f_in
        read false t = none (nat_eq c d && nat_eq g f) (peak_in shape peaks d f)
          where
            none : (b : Bool) (n : ℕ) → n ≡ (if b then n else n)
            none true n = refl
            none false n = refl

        by : (b : Bool) → nat_eq c d ≡ b
            → peak_in shape (if is_acknowledged s c g then with_peak shape c g (threshold_at s c g) peaks else peaks)
            d f
            ≡ (if b && nat_eq g f
            then (if is_acknowledged s d g then threshold_at s d g else peak_in shape peaks d f)
            else peak_in shape peaks d f)
        by true same = read (is_acknowledged s c g) (threshold_at s c g)
            ∙ ap (λ b. if b && nat_eq g f
            then (if is_acknowledged s c g then threshold_at s c g else peak_in shape peaks d f)
            else peak_in shape peaks d f) same
            ∙ ap (λ n. if nat_eq g f
            then (if is_acknowledged s n g then threshold_at s n g else peak_in shape peaks d f)
            else peak_in shape peaks d f) (eqb-true c d same)
        by false other = read (is_acknowledged s c g) (threshold_at s c g)
            ∙ ap (λ b. if b && nat_eq g f
            then (if is_acknowledged s c g then threshold_at s c g else peak_in shape peaks d f)
            else peak_in shape peaks d f) other

    lowered-full : (b : Bool) (peaks : List ℕ) (c t : ℕ) → HasAllPeaks shape peaks
        → HasAllPeaks shape (if b then with_peak shape c g t peaks else peaks)
    lowered-full true peaks c t full = length-set peaks (cell (length shape.zones) c g) t ∙ full
    lowered-full false peaks c t full = full

    lowered-read : (peaks : List ℕ) → HasAllPeaks shape peaks
        → peak_in shape (peaks_lowered shape s g (online_in s) peaks) d f
        ≡ (if is_online (cpu_at s d) && nat_eq g f
        then (if is_acknowledged s d g then threshold_at s d g else peak_in shape peaks d f)
        else peak_in shape peaks d f)
    lowered-read peaks full = read-all (List ℕ)
        (λ now c. if is_acknowledged s c.number g
        then with_peak shape c.number g (threshold_at s c.number g) now
        else now)
        (HasAllPeaks shape) shape.cpus
        (λ a c c_in keeps. lowered-full (is_acknowledged s c.number g) a c.number (threshold_at s c.number g) keeps)
        (λ a. peak_in shape a d f) (λ old. if is_acknowledged s d g then threshold_at s d g else old) (nat_eq g f) d
        (λ a c c_in keeps. lowered-one a c.number c_in keeps) s.cpu peaks (omega (arith, one_each)) full

    raised-read : (t : ℕ) (peaks : List ℕ) → HasAllPeaks shape peaks
        → peak_in shape (peaks_raised shape g t (online_in s) peaks) d f
        ≡ (if is_online (cpu_at s d) && nat_eq g f
        then max t (peak_in shape peaks d f)
        else peak_in shape peaks d f)
    raised-read t peaks full = read-all (List ℕ)
        (λ now c. with_peak shape c.number g (max t (peak_in shape now c.number g)) now) (HasAllPeaks shape) shape.cpus
        (λ a c c_in keeps. length-set a (cell (length shape.zones) c.number g) (max t (peak_in shape a c.number g))
        ∙ keeps)
        (λ a. peak_in shape a d f) (max t) (nat_eq g f) d
        (λ a c c_in keeps. get_or-changed_cell (length shape.zones) shape.cpus (max t) a c.number g d f 0 keeps c_in
        zone f_in) s.cpu peaks (omega (arith, one_each)) full

  module _ (peaks : List ℕ) (full : HasAllPeaks shape peaks) (t : ℕ) where
    abbrev low : List ℕ
    low = peaks_lowered shape s g (online_in s) peaks

    pub low-full : HasAllPeaks shape low
    low-full = kept-all (List ℕ)
        (λ now c. if is_acknowledged s c.number g
        then with_peak shape c.number g (threshold_at s c.number g) now
        else now)
        (HasAllPeaks shape) shape.cpus
        (λ a c c_in keeps. lowered-full 0 g zone (is_acknowledged s c.number g) a c.number (threshold_at s c.number g)
        keeps) s.cpu peaks (omega (arith, one_each)) full

    pub found-here : (d : ℕ) → peak_in shape low d g ≡ peak_found shape s peaks d g
    found-here d = lowered-read d g zone peaks full
        ∙ if-both (is_online (cpu_at s d)) (nat_eq g g) (is_acknowledged s d g) (threshold_at s d g)
        (peak_in shape peaks d g) (eq-eqb g g refl)

    pub found-there : (d f : ℕ) → IsZone shape f → f ≢ g → peak_in shape low d f ≡ peak_in shape peaks d f
    found-there d f f_in other = lowered-read d f f_in peaks full
        ∙ if-there (is_online (cpu_at s d)) (nat_eq g f)
        (if is_acknowledged s d g then threshold_at s d g else peak_in shape peaks d f) (peak_in shape peaks d f)
        (other-place g f other)

    pub given-here : (d : ℕ)
        → peak_in shape (peaks_raised shape g t (online_in s) low) d g ≡ peak_given shape s peaks t d g
    given-here d = raised-read d g zone t low low-full
        ∙ if-here (is_online (cpu_at s d)) (nat_eq g g) (max t (peak_in shape low d g)) (peak_in shape low d g)
        (eq-eqb g g refl)
        ∙ ap (λ n. if is_online (cpu_at s d) then max t n else n) (found-here d)

    pub given-there : (d f : ℕ) → IsZone shape f → f ≢ g
        → peak_in shape (peaks_raised shape g t (online_in s) low) d f ≡ peak_in shape peaks d f
    given-there d f f_in other = raised-read d f f_in t low low-full
        ∙ if-there (is_online (cpu_at s d)) (nat_eq g f) (max t (peak_in shape low d f)) (peak_in shape low d f)
        (other-place g f other)
        ∙ found-there d f f_in other

-- a zone that is visited
module _ (header : Header) (layout : IsLayout header.layout) (g : ℕ) (zone : IsZone header.layout g) (s : State)
    (shaped : HasShape header.layout s) (peaks : List ℕ) (full : HasAllPeaks header.layout peaks) where
  abbrev shape : Shape
  shape = header.layout

  abbrev lowered : List ℕ
  lowered = peaks_lowered shape s g (online_in s) peaks

  pub SparesZone-lowered : SparesZone shape g s peaks s lowered
  SparesZone-lowered = record {
    thresholds = record { pages = λ c c_in. refl; numbers = λ c c_in. refl };
    mark = record { pages = refl; number = refl };
    peaks_found = λ c c_in. found-here shape g zone s shaped.cpu peaks full 0 c;
  }

  pub KeepsZone-lowered : (f : ℕ) → IsZone shape f → f ≢ g → KeepsZone shape f s peaks s lowered
  KeepsZone-lowered f f_in other = record {
    thresholds = record { pages = λ c c_in. refl; numbers = λ c c_in. refl };
    mark = record { pages = refl; number = refl };
    peaks_stay = λ c c_in. found-there shape g zone s shaped.cpu peaks full 0 c f f_in other;
  }

  module _ (usual t : ℕ) where
    abbrev high : List ℕ
    high = peaks_raised shape g t (online_in s) lowered

    abbrev by_peaks : ℕ
    by_peaks = mark_by header g usual s high

    mark-is : by_peaks ≡ mark_given header g usual t s peaks
    mark-is = ap (cover_mark_of (size_at header.sizes g)
        (linux_mark_of (size_at header.sizes g) (length (online_in s)) usual))
        (count_below-same (λ c. if_present (cpu_at s c) (peak_in shape high c g))
        (λ c. if_present (cpu_at s c) (peak_given shape s peaks t c g)) shape.cpus
        (λ c c_in. ap (if_present (cpu_at s c)) (given-here shape g zone s shaped.cpu peaks full t c)))

    pub RatesZone-rated : (Chooses : Choice) → Chooses (size_at header.sizes g) (length (online_in s)) t usual
        → RatesZone header Chooses g t s peaks (rated header g usual t s lowered) high
    RatesZone-rated Chooses chosen = record {
      usual = usual;
      chosen = chosen;
      thresholds = gives shape layout g by_peaks t zone s shaped;
      mark = subst (λ m. GetsMark g m s (rated header g usual t s lowered)) mark-is
          (gives-mark shape layout g by_peaks t zone s shaped);
      peaks_given = λ c c_in. given-here shape g zone s shaped.cpu peaks full t c;
    }

    pub KeepsZone-rated : (f : ℕ) → IsZone shape f → f ≢ g
        → KeepsZone shape f s peaks (rated header g usual t s lowered) high
    KeepsZone-rated f f_in other = record {
      thresholds = keeps shape layout g by_peaks t zone s shaped f (omega arith) other;
      mark = keeps-mark shape layout g by_peaks t zone s shaped f other;
      peaks_stay = λ c c_in. given-there shape g zone s shaped.cpu peaks full t c f f_in other;
    }

    pub KeepsThresholds-rated : (f : ℕ) → IsNode shape f
        → KeepsThresholds shape f s (rated header g usual t s lowered)
    KeepsThresholds-rated f node = keeps shape layout g by_peaks t zone s shaped f node.1
        (λ same. omega (arith, node.0, zone))
