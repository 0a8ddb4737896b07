-- For other crates too: what the newest event of a legal history makes of each number of the state.
use Rattle.std.proofs.Common.{◌∷◌, refl}
use Rattle.vms_history.specs.declared.events.Event.{Event}
use Rattle.vms_history.specs.Common.{owner_in}
use Rattle.vms_core.specs.declared.steps.Facts.{Facts}
use Rattle.vms_core.specs.declared.steps.Step.{Step}
use Rattle.vms_core.specs.Common.{ChangesNumbers, History, IsLegal, state_after, role}
use Rattle.vms_core.proofs.Effects.{value_at-effect, system_at-effect, diff_at-effect}
use Rattle.vms_core.proofs.Settings.{threshold_at-newest, sets-newest, cpu_at-newest, mark_at-newest}
use Rattle.vms_core.proofs.Settings.{mark_sets_at-newest, acknowledged_at-newest}
use Rattle.vms_core.proofs.Shapes.{HasShape-state_after}

pub numbers-change : (facts : Facts) (e : Event Step) (h : History) → IsLegal facts (e ∷ h) → ChangesNumbers facts e h
numbers-change facts e h legal =
    let s = state_after facts h in
    let shaped = HasShape-state_after facts h legal.0 in
    let who = owner_in role h e.caller in
    record {
      values = λ k. value_at-effect facts h s e.caller shaped who e.step k legal.2;
      systems = λ i. system_at-effect facts h s e.caller shaped who e.step i legal.2;
      diffs = λ c k k_in. diff_at-effect facts h s e.caller shaped who e.step c k refl legal.2 k_in;
      thresholds = threshold_at-newest facts e h legal;
      threshold_sets = sets-newest facts e h legal;
      marks = mark_at-newest facts e h legal;
      mark_sets = mark_sets_at-newest facts e h legal;
      cpus = cpu_at-newest facts e h legal;
      acknowledged = acknowledged_at-newest facts e h legal;
    }
