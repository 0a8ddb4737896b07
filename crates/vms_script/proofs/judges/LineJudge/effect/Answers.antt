use Rattle.std.proofs.Common.{sym, subst, Ok}
use Rattle.vms_text.specs.declared.acts.Line.{Line}
use Rattle.vms_script.specs.declared.effects.Effect.TheVariants.{Nothing}
use Rattle.vms_script.specs.Common.{FindsEffect}
use Rattle.vms_script.proofs.Decisions.{Decides-blank, FindsEffect-nothing}
use Rattle.vms_script.proofs.judges.LineJudge.effect.Goals as goal

pub returns-in-Blank : goal.returns-in-Blank
returns-in-Blank c =
    subst (λ (line : Line). FindsEffect line c.args.self.now (Ok Nothing)) (sym c.in-Blank.is)
    (FindsEffect-nothing _ c.args.self.now (Decides-blank c.args.self.now))
