-- Thresholds and marks stay in their ranges.
use Rattle.std.proofs.Common.{◌≡◌, ℕ, ◌^◌, ◌<◌, ◌≤◌, ◌&&◌, Bool, true, false, [], ◌∷◌, sym, ◌∙◌, arith, if◌then◌else◌}
use Rattle.std.proofs.Common.{nat_eq}
use Rattle.vms_history.specs.Common.{CpuState, Online, Absent, IsCpu, IsPlace}
use Rattle.vms_core.specs.declared.states.State.{State}
use Rattle.vms_core.specs.declared.steps.Facts.{Facts}
use Rattle.vms_core.specs.declared.steps.Step.{Step}
use Rattle.vms_core.specs.declared.steps.Step.TheVariants.{SetT, SetM, SetO}
use Rattle.vms_core.specs.Common.{mark_at, Meets, History, IsLegal, state_after, KeepsThresholdsInRange}
use Rattle.vms_core.specs.Common.{KeepsMarksInRange, threshold_after, threshold_in, cpu_after, cpu_in}
use Rattle.vms_core.proofs.PeakBounds.{thresholds-within, peaks-in_range}
use Rattle.vms_core.proofs.Settings.{mark_after, mark_at-newest, threshold_at-state_after, cpu_at-state_after}

module _ (facts : Facts) (h : History) (s : State) (p : ℕ) where
  -- a CPU that is online after a step was online before, and no threshold of one is set to 0
  least-step : (c g : ℕ) (step : Step) (x : CpuState) (before : ℕ) → Meets facts h s p step → (x ≡ Online → 1 ≤ before)
      → cpu_after c step x ≡ Online → 1 ≤ threshold_after c g step before
  least-step c g (SetT d f t) x before meets least online = by (nat_eq d.number c && nat_eq f.number g)
    where
      by : (b : Bool) → 1 ≤ (if b then t else before)
      by true = meets.least
      by false = least online
  least-step c g (SetO d) x before meets least online = by (nat_eq d.number c) online
    where
      by : (b : Bool) → (if b then Absent else x) ≡ Online → 1 ≤ before
      by true is = absurd cc
      by false is = least is
  least-step c g _ x before meets least online = least online

  mark-step : (g : ℕ) (step : Step) (before : ℕ) → Meets facts h s p step → before < 2 ^ 43
      → mark_after g step before < 2 ^ 43
  mark-step g (SetM f m) before meets below = by (nat_eq f.number g)
    where
      by : (b : Bool) → (if b then m else before) < 2 ^ 43
      by true = meets.below
      by false = below
  mark-step g _ before meets below = below

threshold_in-least : (facts : Facts) (h : History) → IsLegal facts h → (c g : ℕ) → IsCpu facts.layout c
    → IsPlace facts.layout g → cpu_in facts c h ≡ Online → 1 ≤ threshold_in facts c g h
threshold_in-least facts [] legal c g c_in g_in online = legal.opening.online c g c_in online g_in
threshold_in-least facts (e ∷ h) legal c g c_in g_in online =
    least-step facts h (state_after facts h) e.caller c g e.step (cpu_in facts c h) (threshold_in facts c g h) legal.2
    (threshold_in-least facts h legal.0 c g c_in g_in) online

pub thresholds-in_range : (facts : Facts) (h : History) → IsLegal facts h → KeepsThresholdsInRange facts h
thresholds-in_range facts h legal c g c_in g_in = record {
  most = omega (arith, thresholds-within facts h legal c g c_in g_in, peaks-in_range facts h legal c g c_in g_in);
  least = λ online.
      rw (threshold_at-state_after facts h legal c g c_in g_in)
      (threshold_in-least facts h legal c g c_in g_in (sym (cpu_at-state_after facts h legal c c_in) ∙ online));
}

pub marks-in_range : (facts : Facts) (h : History) → IsLegal facts h → KeepsMarksInRange facts h
marks-in_range facts [] legal g zone = legal.opening.marks g zone
marks-in_range facts (e ∷ h) legal g zone =
    rw (mark_at-newest facts e h legal g)
    (mark-step facts h (state_after facts h) e.caller g e.step (mark_at (state_after facts h) g) legal.2
    (marks-in_range facts h legal.0 g zone))
