use Rattle.vms_script.proofs.Decisions.{Decides-boundary, FindsEffect-nothing}
use Rattle.vms_script.proofs.judges.LineJudge.boundary_effect.Goals as goal

pub returns-in_default : goal.returns-in_default
returns-in_default c =
    FindsEffect-nothing _ c.args.self.now
    (Decides-boundary c.args.boundary c.args.self.now c.in_default.not-Offline c.in_default.not-Online)
