use Rattle.std.proofs.Common.{◌∙◌}
use Rattle.vms_script.proofs.Decisions.{Decides-up, Decides-up_refused, Decides-up_unfolded, FindsEffect-refused}
use Rattle.vms_script.proofs.Decisions.{FindsEffect-state}
use Rattle.vms_base.specs.declared.kinds.CpuState.TheVariants.{Online as IsOnline}
use Rattle.vms_script.proofs.JudgeStateLaws.{CanApply-state}
use Rattle.vms_script.proofs.judges.LineJudge.online_effect.Goals as goal

pub returns-in-Online : goal.returns-in-Online
returns-in-Online c =
    FindsEffect-refused _ c.args.self.now _
    (Decides-up_refused c.args.cpu c.args.self.now (c.get.ensures ∙ c.in-Online.is))

pub returns-in-Dead : goal.returns-in-Dead
returns-in-Dead c =
    FindsEffect-refused _ c.args.self.now _
    (Decides-up_unfolded c.args.cpu c.args.self.now (c.get.ensures ∙ c.in-Dead.is))

pub returns-in-Absent : goal.returns-in-Absent
returns-in-Absent c =
    FindsEffect-state _ c.args.self.now c.args.cpu IsOnline
    (CanApply-state c.requires.header c.requires.lines c.args.self.now c.args.cpu IsOnline c.requires.is_header
    c.requires.stands c.requires.is_line)
    (λ states. Decides-up c.args.cpu c.args.self.now states (c.get.ensures ∙ c.in-Absent.is))
