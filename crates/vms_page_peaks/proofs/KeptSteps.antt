-- What each kind of step makes of the peaks is what the longer history has.
use Rattle.std.proofs.Common.{◌≡◌, ◌≢◌, ℕ, ◌+◌, ◌<◌, ◌≤◌, ◌&&◌, Bool, true, false, List, ◌∷◌, Option, Some, None, ℤ, ap}
use Rattle.std.proofs.Common.{arith, eq-eqb, eqb-true, get_or, if◌then◌else◌, length, max, nat_eq, ne_eqb, refl, sym}
use Rattle.std.proofs.Common.{◌∙◌, ⊎_elim, unsigned_abs, inl, inr}
use Rattle.std.proofs.lemmas.Bool.{cases_eq, cases_lt}
use Rattle.vms_history.specs.Common.{CounterId, CpuId, CpuState, Dead, Diffs, IsCounter, IsCpu, IsZone, Mode, Online}
use Rattle.vms_history.specs.Common.{PlaceId, counter_count, owner_in}
use Rattle.vms_history.proofs.Common.{count_below-same}
use Rattle.vms_cells.specs.Cells.{at, with_cell}
use Rattle.vms_cells.proofs.WrittenCells.{HasCells-with_cell, at-with_cell}
use Rattle.vms_core.specs.declared.steps.Facts.{Facts}
use Rattle.vms_core.specs.declared.steps.Step.{Step}
use Rattle.vms_core.specs.declared.steps.Step.TheVariants.{LoadA, Put, SetO, SetT}
use Rattle.vms_core.specs.Common.{History, cpu_after, cpu_in, if_present, is_number, peak, peak_after, peak_sum, role}
use Rattle.vms_core.specs.Common.{sets, spent, spent_by, threshold_in}
use Rattle.vms_page_peaks.specs.declared.peaks.Newest.{Newest}
use Rattle.vms_page_peaks.specs.declared.peaks.PagePeaks.{PagePeaks}
use Rattle.vms_page_peaks.specs.Keeps.{IsNewest, KeepsPeaks}
use Rattle.vms_page_peaks.specs.SetPeaks.{SetsPeak}
use Rattle.vms_page_peaks.proofs.PeakChanges.{ChangesPeak, LeavesPeaks, newest-changes, node-leaves, older-leaves}
use Rattle.vms_page_peaks.proofs.PeakChanges.{peak_sum-changed, peak_sum-left, peak_sum-other, threshold-changes}
use Rattle.vms_page_peaks.proofs.PeakSums.{hidden, peak_sum-moves}

-- a step that spends nothing, sets no threshold, finds no acknowledgement and makes no CPU absent
abbrev pub IsOther : Step → Type 0
IsOther (Put k w t delta how) = ⊥
IsOther (SetT c g t) = ⊥
IsOther (SetO c) = ⊥
IsOther (LoadA c g x) = ⊥
IsOther _ = Unit {0}

spent_by-other : (who : Option CpuId) (c k : ℕ) (step : Step) → IsOther step → spent_by who c k step ≡ 0
spent_by-other None c k step other = refl
spent_by-other (Some d) c k (Put l w t delta how) other = absurd other
spent_by-other (Some d) c k _ other = refl

peak_after-other : (number threshold c g : ℕ) (step : Step) (before : ℕ) → IsOther step
    → peak_after number threshold c g step before ≡ before
peak_after-other number threshold c g (SetT d f t) before other = absurd other
peak_after-other number threshold c g (LoadA d f x) before other = absurd other
peak_after-other number threshold c g _ before other = refl

cpu_after-other : (c : ℕ) (step : Step) (x : CpuState) → IsOther step → cpu_after c step x ≡ x
cpu_after-other c (SetO d) x other = absurd other
cpu_after-other c _ x other = refl

-- a step of no other kind
pub IsOther-left : (step : Step)
    → ((k : CounterId) (w : Diffs) (t : ℕ) (delta : ℤ) (how : Mode) → step ≢ Put k w t delta how)
    → ((c : CpuId) (g : PlaceId) (t : ℕ) → step ≢ SetT c g t)
    → ((c : CpuId) → step ≢ SetO c)
    → ((c : CpuId) (g : PlaceId) (x : Option ℕ) → step ≢ LoadA c g x) → IsOther step
IsOther-left (Put k w t delta how) put set absent load = put k w t delta how refl
IsOther-left (SetT c g t) put set absent load = set c g t refl
IsOther-left (SetO c) put set absent load = absent c refl
IsOther-left (LoadA c g x) put set absent load = load c g x refl
IsOther-left _ put set absent load = tt

-- a put alone spends
spent_by-set : (who : Option CpuId) (c k : ℕ) (d : CpuId) (f : PlaceId) (t : ℕ) → spent_by who c k (SetT d f t) ≡ 0
spent_by-set None c k d f t = refl
spent_by-set (Some o) c k d f t = refl

spent_by-load : (who : Option CpuId) (c k : ℕ) (d : CpuId) (f : PlaceId) (x : Option ℕ)
    → spent_by who c k (LoadA d f x) ≡ 0
spent_by-load None c k d f x = refl
spent_by-load (Some o) c k d f x = refl

spent_by-absent : (who : Option CpuId) (c k : ℕ) (d : CpuId) → spent_by who c k (SetO d) ≡ 0
spent_by-absent None c k d = refl
spent_by-absent (Some o) c k d = refl

-- what is spent on a counter grows by the size of the change
spent_more : (a b : Bool) (n x y : ℕ) → (a ≡ true → b ≡ true → y ≡ x)
    → (if a && b then y + n else x) ≡ (if a && b then n else 0) + x
spent_more true true n x y same = let is : y ≡ x = same refl refl in omega arith
spent_more true false n x y same = omega arith
spent_more false b n x y same = omega arith

module _ (facts : Facts) (h : History) (p : ℕ) (r : PagePeaks) (keeps : KeepsPeaks facts h r) where
  abbrev with_step : Step → History
  with_step step = record { caller = p; step = step } ∷ h

  -- a step that spends nothing leaves what was spent
  spends-stay : (step : Step) → ((c k : ℕ) → spent_by (owner_in role h p) c k step ≡ 0) → (c k : ℕ)
      → IsCpu facts.layout c → IsCounter facts.layout k
      → at r.spent c k 0 ≡ spent_by (owner_in role h p) c k step + spent h c k
  spends-stay step none c k c_in k_in = omega (arith, none c k, keeps.spends c k c_in k_in)

  pub KeepsPeaks-other : (step : Step) → IsOther step → KeepsPeaks facts (with_step step) r
  KeepsPeaks-other step other = record {
    spent_cells = keeps.spent_cells;
    spends = spends-stay step (λ c k. spent_by-other (owner_in role h p) c k step other);
    peak_cells = keeps.peak_cells;
    peaks = λ c g c_in zone. keeps.peaks c g c_in zone ∙ sym (left c g);
    one_sum_each = keeps.one_sum_each;
    sums = λ g zone.
        keeps.sums g zone
        ∙ count_below-same (hidden facts h g) (hidden facts (with_step step) g) facts.layout.cpus
        (λ c c_in. sym (rw (left c g, cpu_after-other c step (cpu_in facts c h) other) refl));
  }
    where
      left : (c g : ℕ) → peak facts c g (with_step step) ≡ peak facts c g h
      left c g = peak_after-other (sets c g h) (threshold_in facts c g h) c g step (peak facts c g h) other

  pub KeepsPeaks-put : (c : CpuId) (k : CounterId) (w : Diffs) (t : ℕ) (delta : ℤ) (how : Mode)
      → owner_in role h p ≡ Some c → IsCpu facts.layout c.number → IsCounter facts.layout k.number
      → KeepsPeaks facts (with_step (Put k w t delta how)) (record r {
        spent = with_cell r.spent c.number k.number (at r.spent c.number k.number 0 + unsigned_abs delta);
      })
  KeepsPeaks-put c k w t delta how owner c_in k_in = record {
    spent_cells = HasCells-with_cell facts.layout.cpus (counter_count facts.layout) r.spent keeps.spent_cells c.number
        k.number c_in k_in (at r.spent c.number k.number 0 + unsigned_abs delta);
    spends = λ d l d_in l_in.
        rw (
          owner,
          at-with_cell facts.layout.cpus (counter_count facts.layout) r.spent keeps.spent_cells c.number k.number c_in
              k_in (at r.spent c.number k.number 0 + unsigned_abs delta) d l 0 l_in,
          ← keeps.spends d l d_in l_in,
        )
        (spent_more (nat_eq c.number d) (nat_eq k.number l) (unsigned_abs delta) (at r.spent d l 0)
        (at r.spent c.number k.number 0)
        (λ rows columns.
        ap (λ n. at r.spent n k.number 0) (eqb-true c.number d rows)
        ∙ ap (λ n. at r.spent d n 0) (eqb-true k.number l columns)));
    peak_cells = keeps.peak_cells;
    peaks = keeps.peaks;
    one_sum_each = keeps.one_sum_each;
    sums = keeps.sums;
  }

  -- a step that sets one peak
  KeepsPeaks-set : (step : Step) (next : PagePeaks) (d f v : ℕ) → IsCpu facts.layout d → IsZone facts.layout f
      → ((c k : ℕ) → spent_by (owner_in role h p) c k step ≡ 0) → ChangesPeak facts h p step d f v
      → SetsPeak (cpu_in facts d h) d f v r next → KeepsPeaks facts (with_step step) next
  KeepsPeaks-set step next d f v d_in f_in none changes sets_it = record {
    spent_cells = rw sets_it.spent keeps.spent_cells;
    spends = rw sets_it.spent (spends-stay step none);
    peak_cells = rw sets_it.peaks
        (HasCells-with_cell facts.layout.cpus (length facts.layout.zones) r.peaks keeps.peak_cells d f d_in f_in v);
    peaks = λ c g c_in zone.
        rw (
          sets_it.peaks,
          at-with_cell facts.layout.cpus (length facts.layout.zones) r.peaks keeps.peak_cells d f d_in f_in v c g 0
              zone,
          changes.peak_is c g,
        )
        (ap (λ n. if nat_eq d c && nat_eq f g then v else n) (keeps.peaks c g c_in zone));
    one_sum_each = sets_it.zones ∙ keeps.one_sum_each;
    sums = λ g zone. ⊎_elim
        (λ (same : f ≡ g).
        ap (λ n. get_or next.sums n 0) (sym same) ∙ here ∙ ap (λ n. peak_sum facts n (with_step step)) same)
        (λ (other : f ≢ g).
        sets_it.other_sums g (λ same. other (sym same))
        ∙ keeps.sums g zone
        ∙ sym (peak_sum-other facts h p step d f v changes g other)) (cases_eq f g);
  }
    where
      here : get_or next.sums f 0 ≡ peak_sum facts f (with_step step)
      here =
          let changed = peak_sum-changed facts h p step d f v changes d_in in
          let stood : if_present (cpu_in facts d h) (at r.peaks d f 0) ≡ hidden facts h f d =
          ap (if_present (cpu_in facts d h)) (keeps.peaks d f d_in f_in) in
          omega (arith, changed, stood, sets_it.sum, keeps.sums f f_in)

  -- and one that sets none of a zone
  KeepsPeaks-left : (step : Step) → ((c k : ℕ) → spent_by (owner_in role h p) c k step ≡ 0)
      → LeavesPeaks facts h p step → KeepsPeaks facts (with_step step) r
  KeepsPeaks-left step none leaves = record {
    spent_cells = keeps.spent_cells;
    spends = spends-stay step none;
    peak_cells = keeps.peak_cells;
    peaks = λ c g c_in zone. keeps.peaks c g c_in zone ∙ sym (leaves.peak_is c g zone);
    one_sum_each = keeps.one_sum_each;
    sums = λ g zone. keeps.sums g zone ∙ sym (peak_sum-left facts h p step leaves g zone);
  }

  -- a threshold of a CPU that is online
  KeepsPeaks-threshold : (d : CpuId) (f : PlaceId) (t : ℕ) (next : PagePeaks) → IsCpu facts.layout d.number
      → IsZone facts.layout f.number → cpu_in facts d.number h ≡ Online
      → SetsPeak Online d.number f.number (max t (at r.peaks d.number f.number 0)) r next
      → KeepsPeaks facts (with_step (SetT d f t)) next
  KeepsPeaks-threshold d f t next d_in f_in online sets_it =
      KeepsPeaks-set (SetT d f t) next d.number f.number (max t (peak facts d.number f.number h)) d_in f_in
      (λ c k. spent_by-set (owner_in role h p) c k d f t) (threshold-changes facts h p d f t)
      (rw (online, ← keeps.peaks d.number f.number d_in f_in) sets_it)

  KeepsPeaks-node : (d : CpuId) (f : PlaceId) (t : ℕ) → length facts.layout.zones ≤ f.number
      → KeepsPeaks facts (with_step (SetT d f t)) r
  KeepsPeaks-node d f t past =
      KeepsPeaks-left (SetT d f t) (λ c k. spent_by-set (owner_in role h p) c k d f t)
      (node-leaves facts h p d f t past)

  -- a load of an acknowledgement: of the threshold that was set last, and of another
  KeepsPeaks-newest : (d : CpuId) (f : PlaceId) (x : Option ℕ) (newest : Newest) (next : PagePeaks)
      → IsCpu facts.layout d.number → IsZone facts.layout f.number → IsNewest facts h d.number f.number newest
      → is_number x newest.number ≡ true → SetsPeak newest.cpu d.number f.number newest.t r next
      → KeepsPeaks facts (with_step (LoadA d f x)) next
  KeepsPeaks-newest d f x newest next d_in f_in told named sets_it =
      KeepsPeaks-set (LoadA d f x) next d.number f.number (threshold_in facts d.number f.number h) d_in f_in
      (λ c k. spent_by-load (owner_in role h p) c k d f x)
      (newest-changes facts h p d f x (rw (← told.number) named))
      (rw (← told.cpu, ← told.threshold) sets_it)

  KeepsPeaks-older : (d : CpuId) (f : PlaceId) (x : Option ℕ) (newest : Newest)
      → IsNewest facts h d.number f.number newest → is_number x newest.number ≡ false
      → KeepsPeaks facts (with_step (LoadA d f x)) r
  KeepsPeaks-older d f x newest told other =
      KeepsPeaks-left (LoadA d f x) (λ c k. spent_by-load (owner_in role h p) c k d f x)
      (older-leaves facts h p d f x (rw (← told.number) other))

  -- a dead CPU becomes absent
  pub KeepsPeaks-absent : (d : CpuId) (next : List ℕ) → IsCpu facts.layout d.number
      → cpu_in facts d.number h ≡ Dead → length next ≡ length r.sums
      → ((g : ℕ) → g < length r.sums → get_or next g 0 + at r.peaks d.number g 0 ≡ get_or r.sums g 0)
      → KeepsPeaks facts (with_step (SetO d)) (record r { sums = next })
  KeepsPeaks-absent d next d_in dead one_each rest = record {
    spent_cells = keeps.spent_cells;
    spends = spends-stay (SetO d) (λ c k. spent_by-absent (owner_in role h p) c k d);
    peak_cells = keeps.peak_cells;
    peaks = keeps.peaks;
    one_sum_each = one_each ∙ keeps.one_sum_each;
    sums = λ g zone.
        let moves = peak_sum-moves facts h (with_step (SetO d)) g d.number d_in
        (λ c other. rw (ne_eqb d.number c (λ same. other (sym same))) refl) in
        let stood : hidden facts h g d.number ≡ peak facts d.number g h = rw dead refl in
        let gone : hidden facts (with_step (SetO d)) g d.number ≡ 0 = rw (eq-eqb d.number d.number refl) refl in
        omega (
          arith,
          moves,
          stood,
          gone,
          keeps.peaks d.number g d_in zone,
          keeps.sums g zone,
          rest g (omega (arith, keeps.one_sum_each)),
        );
  }

  -- a threshold of any place, and a load of any acknowledgement
  pub KeepsPeaks-raised : (d : CpuId) (f : PlaceId) (t : ℕ) (next : PagePeaks) → IsCpu facts.layout d.number
      → cpu_in facts d.number h ≡ Online → (length r.sums ≤ f.number → next ≡ r)
      → (f.number < length r.sums
      → SetsPeak Online d.number f.number (max t (at r.peaks d.number f.number 0)) r next)
      → KeepsPeaks facts (with_step (SetT d f t)) next
  KeepsPeaks-raised d f t next d_in online node zone = elim (cases_lt f.number (length r.sums)) [
    | inl within ↦ KeepsPeaks-threshold d f t next d_in (omega (arith, keeps.one_sum_each)) online (zone within)
    | inr past ↦ rw (node past) (KeepsPeaks-node d f t (omega (arith, keeps.one_sum_each)))
  ]

  pub KeepsPeaks-settled : (d : CpuId) (f : PlaceId) (x : Option ℕ) (newest : Newest) (next : PagePeaks)
      → IsCpu facts.layout d.number → IsZone facts.layout f.number → IsNewest facts h d.number f.number newest
      → (is_number x newest.number ≡ false → next ≡ r)
      → (is_number x newest.number ≡ true → SetsPeak newest.cpu d.number f.number newest.t r next)
      → KeepsPeaks facts (with_step (LoadA d f x)) next
  KeepsPeaks-settled d f x newest next d_in f_in told other named = by (is_number x newest.number) refl
    where
      by : (b : Bool) → is_number x newest.number ≡ b → KeepsPeaks facts (with_step (LoadA d f x)) next
      by true is = KeepsPeaks-newest d f x newest next d_in f_in told is (named is)
      by false is = rw (other is) (KeepsPeaks-older d f x newest told is)
