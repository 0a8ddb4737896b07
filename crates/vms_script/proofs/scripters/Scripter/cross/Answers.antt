-- where a boundary line counts
use Rattle.std.proofs.Common.{◌≡◌, Ok, arith, subst}
use Rattle.vms_text.specs.declared.acts.Line.{Line}
use Rattle.vms_text.specs.declared.acts.Line.TheVariants.{Boundary}
use Rattle.vms_script.specs.Common.{JudgeStands, allowed, with_counted}
use Rattle.vms_script.proofs.Feeding.{FeedsLine-kept}
use Rattle.vms_script.proofs.scripters.Scripter.cross.Goals as goal

pub returns-in-Ok : goal.returns-in-Ok
returns-in-Ok c = λ script fed.
    FeedsLine-kept c.args.number (Boundary c.args.boundary) script c.args.self.now
    (record c.args.self.now { judge = c.decide.new.self }) fed c.requires.number (omega (arith, c.requires.few))
    fed.holds.items
    (subst (λ (said : Line). (Ok said ≡ allowed script.header script.lines (Boundary c.args.boundary))
    × JudgeStands script.header (with_counted (Ok said) script.lines) c.decide.new.self) c.in-Ok.ensures.same
    (c.in-Ok.ensures.answers.by script.header script.lines fed.is_header fed.is_line fed.holds.stands))
