-- What the control pass keeps is what stands: while others act, after each of its own steps, and as a phase begins.
use Rattle.std.proofs.Common.{◌≡◌, ℕ, suc, ◌+◌, ◌*◌, ◌<◌, ◌≤◌, ◌&&◌, max, nat_eq, nat_lt, Bool, true, false, ◌∷◌}
use Rattle.std.proofs.Common.{length, get_or, set, refl, sym, ap, ◌∙◌, arith, if◌then◌else◌, length-set, add-one}
use Rattle.std.proofs.Common.{eqb-true}
use Rattle.std.proofs.lemmas.Bool.{and_parts, eq-eqb, ltb-true, ltb-false}
use Rattle.vms_calls.specs.Common.{Absent, state_at, Shape, IsCpu, IsPlace, IsZone, cell, place_count, Event}
use Rattle.vms_calls.specs.Common.{largest_below, State, Facts, Step, SetT, SetM, SetO, LoadA, threshold_sets_at}
use Rattle.vms_calls.specs.Common.{mark_sets_at, Meets, mark_sets_after, ControlKnows, History, state_after, is_number}
use Rattle.vms_calls.specs.Common.{sets, sets_after, threshold_in, threshold_after, peak_after, cpu_after}
use Rattle.vms_history.proofs.Common.{if-never, if-either, get_or-set, get_or-changed, get_or-set_cell}
use Rattle.vms_history.proofs.Common.{get_or-changed_cell, largest_below-least, largest_below-most}
use Rattle.vms_core.specs.Pages.{IsLegal}
use Rattle.vms_core.proofs.Common.{laws-kept, threshold_at-newest, sets-newest, cpu_at-newest, mark_sets_at-newest}
use Rattle.vms_words.specs.declared.kept.Settings.{Settings}
use Rattle.vms_words.proofs.SetSteps.{same-cell}
use Rattle.vms_words.specs.Common.{IsKept, KeepsSettings, kept_peak, kept_threshold, kept_sets, kept_after}
use Rattle.vms_words.specs.Common.{largest_sets}

-- a zone is a place
pub zone-place : (zones nodes g : ℕ) → g < zones → g < zones + nodes
zone-place zones nodes g zone = omega arith

-- the largest of the numbers of sets
module _ (shape : Shape) (s : State) where
  pub threshold-within : (c g : ℕ) → IsCpu shape c → IsPlace shape g → threshold_sets_at s c g ≤ largest_sets shape s
  threshold-within c g c_in g_in =
      let in_row = largest_below-least (λ f. threshold_sets_at s c f) (place_count shape) g g_in in
      let of_rows =
      largest_below-least (λ d. largest_below (λ f. threshold_sets_at s d f) (place_count shape)) shape.cpus c c_in in
      omega (arith, in_row, of_rows)

  pub mark-within : (g : ℕ) → IsZone shape g → mark_sets_at s g ≤ largest_sets shape s
  mark-within g g_in =
      let of_zones = largest_below-least (λ f. mark_sets_at s f) (length shape.zones) g g_in in omega (arith, of_zones)

  pub largest-most : (most : ℕ) → ((c g : ℕ) → IsCpu shape c → IsPlace shape g → threshold_sets_at s c g ≤ most)
      → ((g : ℕ) → IsZone shape g → mark_sets_at s g ≤ most) → largest_sets shape s ≤ most
  largest-most most thresholds marks =
      let rows =
      largest_below-most (λ c. largest_below (λ g. threshold_sets_at s c g) (place_count shape)) shape.cpus most
      (λ c c_in. largest_below-most (λ g. threshold_sets_at s c g) (place_count shape) most
      (λ g g_in. thresholds c g c_in g_in)) in
      let zones = largest_below-most (λ g. mark_sets_at s g) (length shape.zones) most marks in
      omega (arith, rows, zones)

-- it goes by the numbers
largest-same : (shape : Shape) (s later : State)
    → ((c g : ℕ) → IsCpu shape c → IsPlace shape g → threshold_sets_at later c g ≡ threshold_sets_at s c g)
    → ((g : ℕ) → IsZone shape g → mark_sets_at later g ≡ mark_sets_at s g)
    → largest_sets shape s ≡ largest_sets shape later
largest-same shape s later thresholds marks =
    let up = largest-most shape s (largest_sets shape later)
    (λ c g c_in g_in. omega (arith, threshold-within shape later c g c_in g_in, thresholds c g c_in g_in))
    (λ g g_in. omega (arith, mark-within shape later g g_in, marks g g_in)) in
    let down = largest-most shape later (largest_sets shape s)
    (λ c g c_in g_in. omega (arith, threshold-within shape s c g c_in g_in, thresholds c g c_in g_in))
    (λ g g_in. omega (arith, mark-within shape s g g_in, marks g g_in)) in
    omega (arith, up, down)

-- what is kept while others act
pub KeepsSettings-later : (facts : Facts) (later earlier : History) (kept : Settings) → ControlKnows facts later earlier
    → KeepsSettings facts earlier kept → KeepsSettings facts later kept
KeepsSettings-later facts later earlier kept stands knows = record {
  is_kept = knows.is_kept;
  peaks = λ c g c_in g_in. knows.peaks c g c_in g_in ∙ sym (stands.peaks c g);
  thresholds = λ c g c_in g_in. knows.thresholds c g c_in g_in ∙ sym (stands.thresholds c g);
  threshold_sets = λ c g c_in g_in. knows.threshold_sets c g c_in g_in ∙ sym (stands.threshold_sets c g);
  mark_sets = λ g g_in. knows.mark_sets g g_in ∙ sym (stands.mark_sets g);
  cpus = λ c c_in. knows.cpus c c_in ∙ sym (stands.cpus c);
  largest = knows.largest ∙ largest-same facts.layout (state_after facts earlier) (state_after facts later)
      (λ c g c_in g_in. stands.threshold_sets c g) (λ g g_in. stands.mark_sets g);
}

-- what is kept after a step that meets its condition
module _ (facts : Facts) (h : History) (p : ℕ) (kept : Settings) (is : IsKept facts.layout kept) where
  abbrev shape : Shape
  shape = facts.layout

  abbrev s : State
  s = state_after facts h

  thresholds-after : (step : Step) → Meets facts h s p step → (c g : ℕ) → IsPlace shape g
      → kept_threshold shape (kept_after shape step kept) c g ≡ threshold_after c g step (kept_threshold shape kept c g)
  thresholds-after (SetT d f t) meets c g g_in =
      get_or-set_cell (place_count shape) shape.cpus kept.thresholds d.number f.number c g t 0 is.thresholds meets.cpu
      meets.place g_in
  thresholds-after _ meets c g g_in = refl

  sets-after : (step : Step) → Meets facts h s p step → (c g : ℕ) → IsPlace shape g
      → kept_sets shape (kept_after shape step kept) c g ≡ sets_after c g step (kept_sets shape kept c g)
  sets-after (SetT d f t) meets c g g_in =
      get_or-changed_cell (place_count shape) shape.cpus (λ n. n + 1) kept.threshold_sets d.number f.number c g 0
      is.threshold_sets meets.cpu meets.place g_in
      ∙ ap (λ n. if nat_eq d.number c && nat_eq f.number g then n else kept_sets shape kept c g)
      (add-one (kept_sets shape kept c g))
  sets-after _ meets c g g_in = refl

  marks-after : (step : Step) → Meets facts h s p step → (g : ℕ)
      → get_or (kept_after shape step kept).mark_sets g 0 ≡ mark_sets_after g step (get_or kept.mark_sets g 0)
  marks-after (SetM f m) meets g =
      get_or-changed (λ n. n + 1) kept.mark_sets f.number g 0 (rw is.mark_sets meets.zone)
      ∙ ap (λ n. if nat_eq f.number g then n else get_or kept.mark_sets g 0) (add-one (get_or kept.mark_sets g 0))
  marks-after _ meets g = refl

  cpus-after : (step : Step) → Meets facts h s p step → (c : ℕ)
      → state_at (kept_after shape step kept).cpus c ≡ cpu_after c step (state_at kept.cpus c)
  cpus-after (SetO d) meets c = get_or-set kept.cpus d.number c Absent Absent (rw is.cpus meets.cpu)
  cpus-after _ meets c = refl

  peaks-after : (step : Step) → Meets facts h s p step → (c g : ℕ) → IsZone shape g
      → kept_peak shape (kept_after shape step kept) c g
      ≡ peak_after (kept_sets shape kept c g) (kept_threshold shape kept c g) c g step (kept_peak shape kept c g)
  peaks-after (SetT d f t) meets c g g_in = by (nat_lt f.number (length shape.zones)) refl
    where
      by : (b : Bool) → nat_lt f.number (length shape.zones) ≡ b
          → get_or (if b then set kept.peaks (cell (length shape.zones) d.number f.number)
          (max t (kept_peak shape kept d.number f.number)) else kept.peaks) (cell (length shape.zones) c g) 0
          ≡ (if nat_eq d.number c && nat_eq f.number g then max t (kept_peak shape kept c g)
          else kept_peak shape kept c g)
      by true zone = get_or-changed_cell (length shape.zones) shape.cpus (max t) kept.peaks d.number f.number c g 0
          is.peaks meets.cpu (ltb-true f.number (length shape.zones) zone) g_in
      by false node =
          sym (if-never (nat_eq d.number c && nat_eq f.number g) (max t (kept_peak shape kept c g))
          (kept_peak shape kept c g) (λ here.
          let past = ltb-false f.number (length shape.zones) node in
          let same = eqb-true f.number g (and_parts (nat_eq d.number c) (nat_eq f.number g) here).1 in
          omega (arith, past, same, g_in)))
  peaks-after (LoadA d f x) meets c g g_in =
      by (is_number x (kept_sets shape kept d.number f.number))
      ∙ found-cell (nat_eq d.number c) (nat_eq f.number g) refl refl
    where
      by : (b : Bool)
          → get_or (if b then set kept.peaks (cell (length shape.zones) d.number f.number)
          (kept_threshold shape kept d.number f.number) else kept.peaks) (cell (length shape.zones) c g) 0
          ≡ (if nat_eq d.number c && nat_eq f.number g
          then (if b then kept_threshold shape kept d.number f.number else kept_peak shape kept c g)
          else kept_peak shape kept c g)
      by true = get_or-set_cell (length shape.zones) shape.cpus kept.peaks d.number f.number c g
          (kept_threshold shape kept d.number f.number) 0 is.peaks meets.cpu meets.zone g_in
      by false = sym (if-either (nat_eq d.number c && nat_eq f.number g) (kept_peak shape kept c g))

      found-cell : (row column : Bool) → nat_eq d.number c ≡ row → nat_eq f.number g ≡ column
          → (if row && column then (if is_number x (kept_sets shape kept d.number f.number)
          then kept_threshold shape kept d.number f.number else kept_peak shape kept c g)
          else kept_peak shape kept c g)
          ≡ (if row && column && is_number x (kept_sets shape kept c g)
          then kept_threshold shape kept c g else kept_peak shape kept c g)
      found-cell true true rows columns = rw (eqb-true d.number c rows, eqb-true f.number g columns) refl
      found-cell true false rows columns = refl
      found-cell false column rows columns = refl
  peaks-after _ meets c g g_in = refl

  IsKept-after : (step : Step) → IsKept shape (kept_after shape step kept)
  IsKept-after (SetT d f t) = record {
    peaks = by (nat_lt f.number (length shape.zones));
    thresholds = length-set kept.thresholds (cell (place_count shape) d.number f.number) t ∙ is.thresholds;
    threshold_sets = length-set kept.threshold_sets (cell (place_count shape) d.number f.number)
        (kept_sets shape kept d.number f.number + 1) ∙ is.threshold_sets;
    mark_sets = is.mark_sets;
    cpus = is.cpus;
  }
    where
      by : (b : Bool) → length (if b then set kept.peaks (cell (length shape.zones) d.number f.number)
          (max t (kept_peak shape kept d.number f.number)) else kept.peaks) ≡ shape.cpus * length shape.zones
      by true = length-set kept.peaks (cell (length shape.zones) d.number f.number)
          (max t (kept_peak shape kept d.number f.number)) ∙ is.peaks
      by false = is.peaks
  IsKept-after (SetM f m) = record {
    peaks = is.peaks;
    thresholds = is.thresholds;
    threshold_sets = is.threshold_sets;
    mark_sets = length-set kept.mark_sets f.number (get_or kept.mark_sets f.number 0 + 1) ∙ is.mark_sets;
    cpus = is.cpus;
  }
  IsKept-after (SetO d) = record {
    peaks = is.peaks;
    thresholds = is.thresholds;
    threshold_sets = is.threshold_sets;
    mark_sets = is.mark_sets;
    cpus = length-set kept.cpus d.number Absent ∙ is.cpus;
  }
  IsKept-after (LoadA d f x) = record {
    peaks = by (is_number x (kept_sets shape kept d.number f.number));
    thresholds = is.thresholds;
    threshold_sets = is.threshold_sets;
    mark_sets = is.mark_sets;
    cpus = is.cpus;
  }
    where
      by : (b : Bool) → length (if b then set kept.peaks (cell (length shape.zones) d.number f.number)
          (kept_threshold shape kept d.number f.number) else kept.peaks) ≡ shape.cpus * length shape.zones
      by true = length-set kept.peaks (cell (length shape.zones) d.number f.number)
          (kept_threshold shape kept d.number f.number) ∙ is.peaks
      by false = is.peaks
  IsKept-after _ = is

  -- the largest number of sets, by those of the state before
  module _ (after : State) (step : Step) (meets : Meets facts h s p step)
      (thresholds : (c g : ℕ) → IsPlace shape g
      → threshold_sets_at after c g ≡ sets_after c g step (threshold_sets_at s c g))
      (marks : (g : ℕ) → mark_sets_at after g ≡ mark_sets_after g step (mark_sets_at s g)) where
    -- a number that stood is within those that stand
    grows : (t : Step) → (c g n : ℕ) → n ≤ sets_after c g t n
    grows (SetT d f u) c g n = by (nat_eq d.number c && nat_eq f.number g)
      where
        by : (b : Bool) → n ≤ (if b then suc n else n)
        by true = omega arith
        by false = omega arith
    grows _ c g n = omega arith

    mark-grows : (t : Step) → (g n : ℕ) → n ≤ mark_sets_after g t n
    mark-grows (SetM f m) g n = by (nat_eq f.number g)
      where
        by : (b : Bool) → n ≤ (if b then suc n else n)
        by true = omega arith
        by false = omega arith
    mark-grows _ g n = omega arith

    stood-within : largest_sets shape s ≤ largest_sets shape after
    stood-within = largest-most shape s (largest_sets shape after)
        (λ c g c_in g_in. omega (
          arith,
          grows step c g (threshold_sets_at s c g),
          thresholds c g g_in,
          threshold-within shape after c g c_in g_in,
        ))
        (λ g g_in. omega (arith, mark-grows step g (mark_sets_at s g), marks g, mark-within shape after g g_in))

  most-after : (after : State) (step : Step) → Meets facts h s p step
      → ((c g : ℕ) → IsPlace shape g → threshold_sets_at after c g ≡ sets_after c g step (threshold_sets_at s c g))
      → ((g : ℕ) → mark_sets_at after g ≡ mark_sets_after g step (mark_sets_at s g))
      → ((c g : ℕ) → IsCpu shape c → IsPlace shape g → kept_sets shape kept c g ≡ threshold_sets_at s c g)
      → ((g : ℕ) → IsZone shape g → get_or kept.mark_sets g 0 ≡ mark_sets_at s g)
      → kept.largest_sets ≡ largest_sets shape s
      → (kept_after shape step kept).largest_sets ≡ largest_sets shape after
  most-after after (SetT d f t) meets thresholds marks kept_thresholds kept_marks most =
      let stood = stood-within after (SetT d f t) meets thresholds marks in
      let number = kept_thresholds d.number f.number meets.cpu meets.place in
      let this : threshold_sets_at after d.number f.number ≡ suc (threshold_sets_at s d.number f.number) =
      thresholds d.number f.number meets.place
      ∙ ap (λ b. if b then suc (threshold_sets_at s d.number f.number) else threshold_sets_at s d.number f.number)
      (same-cell d.number f.number) in
      let here = threshold-within shape after d.number f.number meets.cpu meets.place in
      let down = largest-most shape after (max (kept_sets shape kept d.number f.number + 1) kept.largest_sets)
      (λ c g c_in g_in. each c g (nat_eq d.number c && nat_eq f.number g) refl (thresholds c g g_in)
      (omega (arith, threshold-within shape s c g c_in g_in, most)))
      (λ g g_in. omega (arith, marks g, mark-within shape s g g_in, most)) in
      omega (arith, stood, number, this, here, down, most)
    where
      each : (c g : ℕ) (b : Bool) → (nat_eq d.number c && nat_eq f.number g) ≡ b
          → threshold_sets_at after c g ≡ (if b then suc (threshold_sets_at s c g) else threshold_sets_at s c g)
          → threshold_sets_at s c g ≤ kept.largest_sets
          → threshold_sets_at after c g ≤ max (kept_sets shape kept d.number f.number + 1) kept.largest_sets
      each c g true here becomes within =
          let parts = and_parts (nat_eq d.number c) (nat_eq f.number g) here in
          let same : threshold_sets_at s d.number f.number ≡ threshold_sets_at s c g =
          rw (eqb-true d.number c parts.0, eqb-true f.number g parts.1) refl in
          omega (arith, becomes, same, kept_thresholds d.number f.number meets.cpu meets.place)
      each c g false other becomes within = omega (arith, becomes, within)
  most-after after (SetM f m) meets thresholds marks kept_thresholds kept_marks most =
      let stood = stood-within after (SetM f m) meets thresholds marks in
      let number = kept_marks f.number meets.zone in
      let this : mark_sets_at after f.number ≡ suc (mark_sets_at s f.number) =
      marks f.number
      ∙ ap (λ b. if b then suc (mark_sets_at s f.number) else mark_sets_at s f.number)
      (eq-eqb f.number f.number refl) in
      let here = mark-within shape after f.number meets.zone in
      let down = largest-most shape after (max kept.largest_sets (get_or kept.mark_sets f.number 0 + 1))
      (λ c g c_in g_in. omega (arith, thresholds c g g_in, threshold-within shape s c g c_in g_in, most))
      (λ g g_in. each g (nat_eq f.number g) refl (marks g) (omega (arith, mark-within shape s g g_in, most))) in
      omega (arith, stood, number, this, here, down, most)
    where
      each : (g : ℕ) (b : Bool) → nat_eq f.number g ≡ b
          → mark_sets_at after g ≡ (if b then suc (mark_sets_at s g) else mark_sets_at s g)
          → mark_sets_at s g ≤ kept.largest_sets
          → mark_sets_at after g ≤ max kept.largest_sets (get_or kept.mark_sets f.number 0 + 1)
      each g true here becomes within =
          let same : mark_sets_at s f.number ≡ mark_sets_at s g = rw (eqb-true f.number g here) refl in
          omega (arith, becomes, same, kept_marks f.number meets.zone)
      each g false other becomes within = omega (arith, becomes, within)
  most-after after _ meets thresholds marks kept_thresholds kept_marks most =
      most ∙ largest-same shape s after (λ c g c_in g_in. thresholds c g g_in) (λ g g_in. marks g)

-- what is kept after a step
pub KeepsSettings-step : (facts : Facts) (h : History) (p : ℕ) (step : Step) (kept : Settings)
    → IsLegal facts (record { caller = p; step = step } ∷ h) → KeepsSettings facts h kept
    → KeepsSettings facts (record { caller = p; step = step } ∷ h) (kept_after facts.layout step kept)
KeepsSettings-step facts h p step kept legal knows =
    let shape = facts.layout in
    let e : Event Step = record { caller = p; step = step } in
    let s = state_after facts h in
    let laws = laws-kept facts h legal.0 in
    record {
      is_kept = IsKept-after facts h p kept knows.is_kept step;
      peaks = λ c g c_in g_in.
          let place = zone-place (length shape.zones) (length shape.nodes) g g_in in
          peaks-after facts h p kept knows.is_kept step legal.2 c g g_in
          ∙ ap (λ n. peak_after n (kept_threshold shape kept c g) c g step (kept_peak shape kept c g))
          (knows.threshold_sets c g c_in place ∙ laws.told_numbers c g c_in place)
          ∙ ap (λ n. peak_after (sets c g h) n c g step (kept_peak shape kept c g))
          (knows.thresholds c g c_in place ∙ laws.told_thresholds c g c_in place)
          ∙ ap (peak_after (sets c g h) (threshold_in facts c g h) c g step) (knows.peaks c g c_in g_in);
      thresholds = λ c g c_in g_in.
          thresholds-after facts h p kept knows.is_kept step legal.2 c g g_in
          ∙ ap (threshold_after c g step) (knows.thresholds c g c_in g_in)
          ∙ sym (threshold_at-newest facts e h legal c g g_in);
      threshold_sets = λ c g c_in g_in.
          sets-after facts h p kept knows.is_kept step legal.2 c g g_in
          ∙ ap (sets_after c g step) (knows.threshold_sets c g c_in g_in) ∙ sym (sets-newest facts e h legal c g g_in);
      mark_sets = λ g g_in.
          marks-after facts h p kept knows.is_kept step legal.2 g ∙ ap (mark_sets_after g step) (knows.mark_sets g g_in)
          ∙ sym (mark_sets_at-newest facts e h legal g);
      cpus = λ c c_in.
          cpus-after facts h p kept knows.is_kept step legal.2 c ∙ ap (cpu_after c step) (knows.cpus c c_in)
          ∙ sym (cpu_at-newest facts e h legal c);
      largest = most-after facts h p kept knows.is_kept (state_after facts (e ∷ h)) step legal.2
          (sets-newest facts e h legal) (mark_sets_at-newest facts e h legal) knows.threshold_sets knows.mark_sets
          knows.largest;
    }
