-- A legal history with one more event is one with an event of a caller that may act, whose condition holds.
use Rattle.std.proofs.Common.{◌≡◌, ap, sym, ◌∙◌, subst}
use Rattle.vms_history.specs.Common.{Acts, Works, Begins, Ends}
use Rattle.vms_judge.specs.Roles.{role_of}
use Rattle.vms_registers.proofs.QuietRoles.{begins-differs, ends-differs}
use Rattle.vms_registers.proofs.registers.Registers.judges.Goals as goal

pub returns-in-Works : goal.returns-in-Works
returns-in-Works g c = λ h shows.
    let m = g.T.Table.machine in
    let facts = c.args.facts.now in
    let is : m.role c.args.step.now ≡ Works = sym c.role.ensures ∙ ap role_of c.in-Works.is in
    let judged = c.may_work.ensures h shows in (
      λ yes.
          let may = judged.0 yes in
          (shows.legal, subst (Acts m facts h c.args.caller) (sym is) (may.0, may.1), may.2),
      λ legal.
          let acts = subst (Acts m facts h c.args.caller) is legal.1 in
          judged.1 (acts.0, acts.1, legal.2),
    )

pub returns-in-Begins : goal.returns-in-Begins
returns-in-Begins g c = λ h shows.
    let m = g.T.Table.machine in
    let facts = c.args.facts.now in
    let is : m.role c.args.step.now ≡ Begins c.in-Begins.pass c.in-Begins.who =
    sym c.role.ensures ∙ ap role_of c.in-Begins.is in
    let judged = c.may_begin.ensures h shows in (
      λ yes. (
        shows.legal,
        subst (Acts m facts h c.args.caller) (sym is) (judged.0 yes),
        g.T.Table.quiet.asks_nothing facts h _ c.args.caller c.args.step.now
            (begins-differs (m.role c.args.step.now) c.in-Begins.pass c.in-Begins.who is),
      ),
      λ legal. judged.1 (subst (Acts m facts h c.args.caller) is legal.1),
    )

pub returns-in-Ends : goal.returns-in-Ends
returns-in-Ends g c = λ h shows.
    let m = g.T.Table.machine in
    let facts = c.args.facts.now in
    let is : m.role c.args.step.now ≡ Ends c.in-Ends.pass = sym c.role.ensures ∙ ap role_of c.in-Ends.is in
    let judged = c.may_end.ensures h shows in (
      λ yes. (
        shows.legal,
        subst (Acts m facts h c.args.caller) (sym is) (judged.0 yes),
        g.T.Table.quiet.asks_nothing facts h _ c.args.caller c.args.step.now
            (ends-differs (m.role c.args.step.now) c.in-Ends.pass is),
      ),
      λ legal. judged.1 (subst (Acts m facts h c.args.caller) is legal.1),
    )
