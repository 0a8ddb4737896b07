use Rattle.vms_script.proofs.Decisions.{Decides-control, FindsEffect-nothing}
use Rattle.vms_script.proofs.judges.LineJudge.control_effect.Goals as goal

pub returns-in_default : goal.returns-in_default
returns-in_default c =
    FindsEffect-nothing _ c.args.self.now (Decides-control c.args.act c.args.self.now c.in_default.not-Dead)
