-- The check of the history begins.
use Rattle.std.proofs.Common.{◌≡◌, [], refl, rules, ◌∙◌}
use Rattle.vms_world.specs.Common.{first_start}
use Rattle.vms_history_judge.proofs.GivenSegments.{in-turn}
use Rattle.vms_history_judge.proofs.judges.JudgeHistoryJudge.begin.Goals as goal

pub returns : goal.returns
returns g c = λ segments gathers are.
    let self = c.args.self.now in
    let bounds : c.replace-bounds.result.items ≡ self.bounds.items = search rules in
    let phases : c.replace-phases.result.items ≡ self.phases.items = search rules in
    record {
      check = c.make.result;
      here = refl;
      lists = [];
      says = refl;
      accepts = c.make.ensures.accepts segments (in-turn c.args.header.now first_start segments are)
          (bounds ∙ gathers.bounds) (phases ∙ gathers.scripts);
      counted = c.make.ensures.fresh;
    }
