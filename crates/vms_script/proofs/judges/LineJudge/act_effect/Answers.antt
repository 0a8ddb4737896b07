use Rattle.std.proofs.Common.{sym, ◌∙◌}
use Rattle.vms_script.proofs.Spendings.{FindsEffect-not_online}
use Rattle.vms_script.proofs.judges.LineJudge.act_effect.Goals as goal

pub returns-else-is_online : goal.returns-else-is_online
returns-else-is_online c = FindsEffect-not_online c.args.self.now c.args.cpu c.args.act
    (sym c.is_online.ensures ∙ c.if-is_online.false)
