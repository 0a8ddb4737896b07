-- For other crates too: every mark covers what the CPUs may hide of its zone.
use Rattle.std.proofs.Common.{◌≡◌, ◌≢◌, ℕ, ◌≤◌, max, ◌&&◌, Bool, true, false, [], ◌∷◌, refl, sym, subst, arith, ⊎_elim}
use Rattle.std.proofs.Common.{if◌then◌else◌, nat_eq, eqb-true, ne_eqb}
use Rattle.std.proofs.lemmas.Bool.{and_right, cases_eq}
use Rattle.vms_history.specs.Common.{CpuState, Online, Dead, Absent, ZoneSize, Covers, IsZone, size_at}
use Rattle.vms_core.specs.declared.steps.Facts.{Facts}
use Rattle.vms_core.specs.declared.steps.Step.{Step}
use Rattle.vms_core.specs.declared.steps.Step.TheVariants.{SetT, SetM, SetO, LoadA}
use Rattle.vms_core.specs.Common.{mark_at, Meets, History, IsLegal, state_after, KeepsCovers, is_number, peak_after}
use Rattle.vms_core.specs.Common.{peak, cpu_after, cpu_in, if_present, peak_sum, sets, threshold_in}
use Rattle.vms_history.proofs.Common.{count_below-least}
use Rattle.vms_core.proofs.PeakBounds.{threshold_in-within}
use Rattle.vms_core.proofs.Settings.{mark_after, mark_at-newest}

pub if_present-least : (x : CpuState) (n m : ℕ) → n ≤ m → if_present x n ≤ if_present x m
if_present-least Absent n m less = omega arith
if_present-least Online n m less = less
if_present-least Dead n m less = less

-- what covers more covers less
pub Covers-less : (size : ZoneSize) (mark more less : ℕ) → less ≤ more → Covers size mark more → Covers size mark less
Covers-less size mark more less fewer covers = record {
  unset = λ none. omega (arith, covers.unset none);
  set = λ some. omega (arith, covers.set some);
}

-- the step sets no threshold of this place
abbrev LeavesThresholds : ℕ → Step → Type 0
LeavesThresholds g (SetT d f t) = f.number ≢ g
LeavesThresholds g _ = Unit {0}

-- then what a CPU may hide there grows by no step
hidden-step : (c g : ℕ) (step : Step) (x : CpuState) (number threshold before : ℕ) → threshold ≤ before
    → LeavesThresholds g step
    → if_present (cpu_after c step x) (peak_after number threshold c g step before) ≤ if_present x before
hidden-step c g (SetT d f t) x number threshold before within other =
    if_present-least x _ before
    (subst (λ (b : Bool). (if b then max t before else before) ≤ before)
    (sym (and_right (nat_eq d.number c) (nat_eq f.number g) (ne_eqb f.number g other))) (omega arith))
hidden-step c g (SetO d) x number threshold before within other = by (nat_eq d.number c)
  where
    by : (b : Bool) → if_present (if b then Absent else x) before ≤ if_present x before
    by true = omega arith
    by false = omega arith
hidden-step c g (LoadA d f y) x number threshold before within other =
    if_present-least x _ before (by (nat_eq d.number c && nat_eq f.number g && is_number y number))
  where
    by : (b : Bool) → (if b then threshold else before) ≤ before
    by true = within
    by false = omega arith
hidden-step c g _ x number threshold before within other = omega arith

module _ (facts : Facts) (h : History) (legal : IsLegal facts h) (p g : ℕ) (zone : IsZone facts.layout g) where
  abbrev with_step : Step → History
  with_step step = record { caller = p; step = step } ∷ h

  peak_sum-step : (step : Step) → LeavesThresholds g step → peak_sum facts g (with_step step) ≤ peak_sum facts g h
  peak_sum-step step leaves = count_below-least
      (λ c. if_present (cpu_in facts c (with_step step)) (peak facts c g (with_step step)))
      (λ c. if_present (cpu_in facts c h) (peak facts c g h))
      facts.layout.cpus
      (λ c c_in. hidden-step c g step (cpu_in facts c h) (sets c g h) (threshold_in facts c g h) (peak facts c g h)
      (threshold_in-within facts h legal c g c_in (omega arith)) leaves)

  Covers-left : (step : Step) (mark : ℕ) → LeavesThresholds g step
      → Covers (size_at facts.sizes g) mark (peak_sum facts g h)
      → Covers (size_at facts.sizes g) mark (peak_sum facts g (with_step step))
  Covers-left step mark leaves covers =
      Covers-less (size_at facts.sizes g) mark (peak_sum facts g h) (peak_sum facts g (with_step step))
      (peak_sum-step step leaves) covers

  Covers-step : (step : Step) → Meets facts h (state_after facts h) p step
      → Covers (size_at facts.sizes g) (mark_at (state_after facts h) g) (peak_sum facts g h)
      → Covers (size_at facts.sizes g) (mark_after g step (mark_at (state_after facts h) g))
      (peak_sum facts g (with_step step))
  Covers-step (SetM f m) meets before = by (nat_eq f.number g) refl
    where
      by : (b : Bool) → nat_eq f.number g ≡ b
          → Covers (size_at facts.sizes g) (if b then m else mark_at (state_after facts h) g)
          (peak_sum facts g (with_step (SetM f m)))
      by false other = Covers-left (SetM f m) (mark_at (state_after facts h) g) tt before
      by true here = Covers-left (SetM f m) m tt
          (subst (λ n. Covers (size_at facts.sizes n) m (peak_sum facts n h)) (eqb-true f.number g here) meets.covers)
  Covers-step (SetT d f t) meets before = ⊎_elim
      (λ (here : f.number ≡ g).
      subst (λ n.
      Covers (size_at facts.sizes n) (mark_at (state_after facts h) n) (peak_sum facts n (with_step (SetT d f t))))
      here (meets.covers (subst (IsZone facts.layout) (sym here) zone)))
      (λ (other : f.number ≡ g → ⊥). Covers-left (SetT d f t) (mark_at (state_after facts h) g) other before)
      (cases_eq f.number g)
  Covers-step step meets before = Covers-left step (mark_at (state_after facts h) g) tt before

pub covers-kept : (facts : Facts) (h : History) → IsLegal facts h → KeepsCovers facts h
covers-kept facts [] legal g zone = legal.covered g zone
covers-kept facts (e ∷ h) legal g zone =
    rw (mark_at-newest facts e h legal g)
    (Covers-step facts h legal.0 e.caller g zone e.step legal.2 (covers-kept facts h legal.0 g zone))
