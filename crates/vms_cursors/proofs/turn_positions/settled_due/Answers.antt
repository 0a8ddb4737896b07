-- What is due in the part that stands.
use Rattle.std.proofs.Common.{subst, sym}
use Rattle.std.specs.Prelude.{IfSome}
use Rattle.vms_cursors.specs.TurnClauses.{IsTurnSettled, TurnDue, TurnEnded}
use Rattle.vms_cursors.proofs.TurnGoes.{failed-ended, presses-some_due, settles-ended, settles-some_due, tests-some_due}
use Rattle.vms_cursors.proofs.turn_positions.settled_due.Goals as goal

pub returns-in-Presses-clause-due : goal.returns-in-Presses-clause-due
returns-in-Presses-clause-due g c =
    let header = c.args.header.now in
    let P = g.R.ThresholdRules.pressure in
    let N = g.R.ThresholdRules.normal in
    subst (λ s. IfSome c.due.result (λ due. TurnDue header P N c.args.turn s due)) (sym c.in-Presses.is)
    (presses-some_due header P N c.args.turn c.in-Presses.at c.due.result c.due.ensures.due)

pub returns-in-Tests-clause-due : goal.returns-in-Tests-clause-due
returns-in-Tests-clause-due g c =
    let header = c.args.header.now in
    let P = g.R.ThresholdRules.pressure in
    let N = g.R.ThresholdRules.normal in
    subst (λ s. IfSome c.due-in-Tests.result (λ due. TurnDue header P N c.args.turn s due)) (sym c.in-Tests.is)
    (tests-some_due header P N c.args.turn c.in-Tests.at c.due-in-Tests.result c.due-in-Tests.ensures.due)

pub returns-in-Tests-clause-ended : goal.returns-in-Tests-clause-ended
returns-in-Tests-clause-ended g c = λ none.
    let header = c.args.header.now in
    let P = g.R.ThresholdRules.pressure in
    let N = g.R.ThresholdRules.normal in
    let settled = subst (IsTurnSettled header P N c.args.turn) c.in-Tests.is c.requires.settled in
    subst (TurnEnded header P N c.args.turn) (sym c.in-Tests.is)
    (λ base p h. failed-ended header base p P N c.args.turn h c.in-Tests.at (c.due-in-Tests.ensures.ended none)
    settled.1)

pub returns-in-Settles-clause-due : goal.returns-in-Settles-clause-due
returns-in-Settles-clause-due g c =
    let header = c.args.header.now in
    let P = g.R.ThresholdRules.pressure in
    let N = g.R.ThresholdRules.normal in
    subst (λ s. IfSome c.due-in-Settles.result (λ due. TurnDue header P N c.args.turn s due)) (sym c.in-Settles.is)
    (settles-some_due header P N c.args.turn c.in-Settles.field-0 c.in-Settles.field-1 c.in-Settles.at
    c.due-in-Settles.result c.due-in-Settles.ensures.due)

pub returns-in-Settles-clause-ended : goal.returns-in-Settles-clause-ended
returns-in-Settles-clause-ended g c = λ none.
    let header = c.args.header.now in
    let P = g.R.ThresholdRules.pressure in
    let N = g.R.ThresholdRules.normal in
    subst (TurnEnded header P N c.args.turn) (sym c.in-Settles.is)
    (λ base p h. settles-ended header base p P N c.args.turn h c.in-Settles.field-0 c.in-Settles.field-1
    c.in-Settles.at (c.due-in-Settles.ensures.ended none header.sizes base p h))
