-- The step that the walk names, in the words of the check.
use Rattle.std.proofs.Common.{◌∷◌, refl}
use Rattle.std.specs.Prelude.{◌↔◌, IfSome, IsNone, MatchOption, None, Option, Some}
use Rattle.vms_plans.specs.declared.due_steps.DueStep.{DueStep}
use Rattle.vms_phase_checks.specs.Common.{IsDueIn}
use Rattle.vms_own_acts.specs.Common.{IsExactly}
use Rattle.vms_world.specs.Common.{MakesActs, PageSteps, normal_threshold_of, pressure_threshold_of}
use Rattle.vms_line_walks.specs.ExactRules.{for-alone}
use Rattle.vms_line_walks.proofs.line_walks.LineWalkLaneWalk.due.Goals as goal

told : (Made : Type 0) (Names IsDue : DueStep → Type 0) (x : Option DueStep) → ((due : DueStep) → Names due → IsDue due)
    → IfSome x Names → (IsNone x ↔ Made) → MatchOption x Made (λ due. (¬ Made) × IsDue due)
told Made Names IsDue None so names done = done.0 refl
told Made Names IsDue (Some due) so names done = ((λ made. absurd (false-some (done.1 made))), so due names)
  where
    false-some : IsNone (Some due) → ⊥
    false-some none = cc

pub returns : goal.returns
returns c base p h alone shows stands =
    let header = c.args.header.now in
    let lane = c.args.lane in
    let is = for-alone header base lane p h alone in
    told (MakesActs (PageSteps header base (IsExactly pressure_threshold_of) (IsExactly normal_threshold_of) lane p) p
    c.args.acts.now h) _
    (IsDueIn (IsExactly pressure_threshold_of) (IsExactly normal_threshold_of) header base lane p c.args.acts.now h)
    c.due.result
    (λ due fits step later along. fits step (for-alone header base lane p (record { caller = p; step = step } ∷ h) later)
    along)
    (c.due.ensures.due base p h is shows stands.0) (c.due.ensures.done base p h is shows stands.0)
