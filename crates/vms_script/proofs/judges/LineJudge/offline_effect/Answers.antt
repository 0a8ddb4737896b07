use Rattle.std.proofs.Common.{sym, ◌∙◌}
use Rattle.vms_script.proofs.Decisions.{Decides-down, Decides-down_refused, Decides-last_refused, FindsEffect-refused}
use Rattle.vms_script.proofs.Decisions.{FindsEffect-state}
use Rattle.vms_base.specs.declared.kinds.CpuState.TheVariants.{Dead as IsDead}
use Rattle.vms_script.proofs.JudgeStateLaws.{CanApply-state}
use Rattle.vms_script.proofs.judges.LineJudge.offline_effect.Goals as goal

pub returns-then-not-is_online : goal.returns-then-not-is_online
returns-then-not-is_online c =
    FindsEffect-refused _ c.args.self.now _ (Decides-down_refused c.args.cpu c.args.self.now
    (sym c.is_online.ensures ∙ c.if-not-is_online.true))

pub returns-then-self-eq1 : goal.returns-then-self-eq1
returns-then-self-eq1 c =
    FindsEffect-refused _ c.args.self.now _ (Decides-last_refused c.args.cpu c.args.self.now
    (sym c.is_online.ensures ∙ c.if-not-is_online.false) c.if-self-eq1.true)

pub returns : goal.returns
returns c =
    FindsEffect-state _ c.args.self.now c.args.cpu IsDead
    (CanApply-state c.requires.header c.requires.lines c.args.self.now c.args.cpu IsDead c.requires.is_header
    c.requires.stands c.requires.is_line)
    (λ states. Decides-down c.args.cpu c.args.self.now states (sym c.is_online.ensures ∙ c.if-not-is_online.false)
    c.if-self-eq1.false)
