-- A phase more.
use Rattle.std.proofs.Common.{◌≡◌, ◌++◌, ◌∷◌, [], List, ap, sym, ◌∙◌}
use Rattle.vms_world.specs.Common.{Item}
use Rattle.vms_history_judge.proofs.GivenSegments.{bounds-phase, scripts-phase}
use Rattle.vms_history_judge.proofs.judges.JudgeHistoryJudge.add_phase.Goals as goal

pub returns : goal.returns
returns g c = λ header segments gathers. record {
  bounds = gathers.bounds ∙ sym (bounds-phase 0 segments c.args.script);
  scripts = c.in_ok-push.ensures.items
      ∙ ap (λ (scripts : List (List Item)). scripts ++ c.args.script ∷ []) gathers.scripts
      ∙ sym (scripts-phase segments c.args.script);
}
