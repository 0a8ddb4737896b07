-- What the newest event of a history makes of each number of the state.
use Rattle.std.specs.Prelude.{◌≡◌, ℕ, ◌∷◌}
use Rattle.vms_history.specs.Common.{IsPlace, IsZone, IsCounter, owner_in}
use Rattle.vms_history.specs.declared.events.Event.{Event}
use Rattle.vms_core.specs.declared.steps.Facts.{Facts}
use Rattle.vms_core.specs.declared.steps.Step.{Step}
use Rattle.vms_core.specs.Cells.{value_at, system_at, diff_at, threshold_at, threshold_sets_at, mark_at, mark_sets_at}
use Rattle.vms_core.specs.Cells.{cpu_at, acknowledged_at}
use Rattle.vms_core.specs.Effects.{value_after, system_after, diff_after, mark_after, mark_sets_after}
use Rattle.vms_core.specs.Effects.{acknowledged_after}
use Rattle.vms_core.specs.Pages.{History, state_after}
use Rattle.vms_core.specs.Peaks.{sets_after, threshold_after, cpu_after}
use Rattle.vms_core.specs.Steps.{role}

-- each number after the event is what the step makes of it
pub record ChangesNumbers (facts : Facts) (e : Event Step) (h : History) : Type 0 where
  pub values : (k : ℕ) →
      value_at (state_after facts (e ∷ h)) k ≡ value_after k e.step (value_at (state_after facts h) k)
  pub systems : (i : ℕ) →
      system_at (state_after facts (e ∷ h)) i ≡ system_after i e.step (system_at (state_after facts h) i)
  pub diffs : (c k : ℕ) → IsCounter facts.layout k → diff_at (state_after facts (e ∷ h)) c k
      ≡ diff_after (owner_in role h e.caller) c k e.step (diff_at (state_after facts h) c k)
  pub thresholds : (c g : ℕ) → IsPlace facts.layout g → threshold_at (state_after facts (e ∷ h)) c g
      ≡ threshold_after c g e.step (threshold_at (state_after facts h) c g)
  pub threshold_sets : (c g : ℕ) → IsPlace facts.layout g → threshold_sets_at (state_after facts (e ∷ h)) c g
      ≡ sets_after c g e.step (threshold_sets_at (state_after facts h) c g)
  pub marks : (g : ℕ) →
      mark_at (state_after facts (e ∷ h)) g ≡ mark_after g e.step (mark_at (state_after facts h) g)
  pub mark_sets : (g : ℕ) →
      mark_sets_at (state_after facts (e ∷ h)) g ≡ mark_sets_after g e.step (mark_sets_at (state_after facts h) g)
  pub cpus : (c : ℕ) →
      cpu_at (state_after facts (e ∷ h)) c ≡ cpu_after c e.step (cpu_at (state_after facts h) c)
  pub acknowledged : (c g : ℕ) → IsZone facts.layout g → acknowledged_at (state_after facts (e ∷ h)) c g
      ≡ acknowledged_after (owner_in role h e.caller) c g e.step (acknowledged_at (state_after facts h) c g)
