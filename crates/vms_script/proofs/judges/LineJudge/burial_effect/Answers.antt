use Rattle.std.proofs.Common.{◌∙◌, inl, inr}
use Rattle.vms_script.proofs.Decisions.{Decides-buried, Decides-burial_refused, FindsEffect-refused, FindsEffect-state}
use Rattle.vms_base.specs.declared.kinds.CpuState.TheVariants.{Absent}
use Rattle.vms_script.proofs.JudgeStateLaws.{CanApply-state}
use Rattle.vms_script.proofs.judges.LineJudge.burial_effect.Goals as goal

pub returns-in-Dead : goal.returns-in-Dead
returns-in-Dead c =
    FindsEffect-state _ c.args.self.now c.args.cpu Absent
    (CanApply-state c.requires.header c.requires.lines c.args.self.now c.args.cpu Absent c.requires.is_header
    c.requires.stands c.requires.is_line.1.1)
    (λ states. Decides-buried c.args.cpu c.args.self.now states (c.get.ensures ∙ c.in-Dead.is))

pub returns-in-Online : goal.returns-in-Online
returns-in-Online c =
    FindsEffect-refused _ c.args.self.now _ (Decides-burial_refused c.args.cpu c.args.self.now c.get.result
    c.get.ensures
    (λ dead. elim c.in-Online.is [ inl is ↦ absurd (cc (is, dead)) | inr is ↦ absurd (cc (is, dead)) ]))
