-- A cursor goes on as the position does, with the answer told as that of a call.
use Rattle.std.proofs.Common.{[], ◌∷◌, refl}
use Rattle.vms_calls.specs.Common.{Header, after, facts_of}
use Rattle.vms_calls.specs.declared.page_calls.PageAnswer.TheVariants as answer
use Rattle.vms_cursors.specs.Changes.{change_at}
use Rattle.vms_cursors.specs.Loads.{system_at, value_at}
use Rattle.vms_cursors.specs.Ratings.{rating_at}
use Rattle.vms_cursors.specs.Snapshots.{snapshot_at}
use Rattle.vms_cursors.specs.Tests.{test_at}
use Rattle.vms_cursors.specs.Turns.{turn_at}
use Rattle.vms_cursors.specs.declared.cursors.Cursor.TheVariants.{Change, Rates, Snapshot, System, Test, Turn, Value}
use Rattle.vms_cursors.proofs.CursorGoes.{goes-as}
use Rattle.vms_cursors.proofs.Goes.{answering-goes}
use Rattle.vms_cursor_steps.proofs.cursor_steps.go_on.Goals as goal

pub returns-in-Change-clause-goes : goal.returns-in-Change-clause-goes
returns-in-Change-clause-goes g c = λ yes base p h.
    let header : Header = c.args.header.now in
    goes-as header base p g.R.ThresholdRules.pressure g.R.ThresholdRules.normal h c.args.cursor.now
    (Change c.in-Change.change c.in-Change.at) c.in-Change.is c.args.step.now
    (Change c.in-Change.change c.change_on.new.at)
    (answering-goes (λ made. answer.Done) (change_at header.layout c.in-Change.change c.in-Change.at)
    (change_at header.layout c.in-Change.change c.change_on.new.at) c.args.step.now (c.change_on.ensures.goes yes))

pub returns-in-Value-clause-goes : goal.returns-in-Value-clause-goes
returns-in-Value-clause-goes g c = λ yes base p h.
    let header : Header = c.args.header.now in
    goes-as header base p g.R.ThresholdRules.pressure g.R.ThresholdRules.normal h c.args.cursor.now
    (Value c.in-Value.counter c.in-Value.at) c.in-Value.is c.args.step.now (Value c.in-Value.counter c.value_on.new.at)
    (answering-goes (λ pages. answer.Value pages) (value_at c.in-Value.counter c.in-Value.at)
    (value_at c.in-Value.counter c.value_on.new.at) c.args.step.now (c.value_on.ensures.goes yes))

pub returns-in-System-clause-goes : goal.returns-in-System-clause-goes
returns-in-System-clause-goes g c = λ yes base p h.
    let header : Header = c.args.header.now in
    goes-as header base p g.R.ThresholdRules.pressure g.R.ThresholdRules.normal h c.args.cursor.now
    (System c.in-System.item c.in-System.at) c.in-System.is c.args.step.now (System c.in-System.item c.system_on.new.at)
    (answering-goes (λ pages. answer.System pages) (system_at c.in-System.item c.in-System.at)
    (system_at c.in-System.item c.system_on.new.at) c.args.step.now (c.system_on.ensures.goes yes))

pub returns-in-Snapshot-clause-goes : goal.returns-in-Snapshot-clause-goes
returns-in-Snapshot-clause-goes g c = λ yes base p h.
    let header : Header = c.args.header.now in
    goes-as header base p g.R.ThresholdRules.pressure g.R.ThresholdRules.normal h c.args.cursor.now
    (Snapshot c.in-Snapshot.counter c.in-Snapshot.at) c.in-Snapshot.is c.args.step.now
    (Snapshot c.in-Snapshot.counter c.snapshot_on.new.at)
    (answering-goes (λ pages. answer.Snapshot pages) (snapshot_at header.layout c.in-Snapshot.counter c.in-Snapshot.at)
    (snapshot_at header.layout c.in-Snapshot.counter c.snapshot_on.new.at) c.args.step.now
    (c.snapshot_on.ensures.goes yes))

pub returns-in-Test-clause-goes : goal.returns-in-Test-clause-goes
returns-in-Test-clause-goes g c = λ yes base p h.
    let header : Header = c.args.header.now in
    goes-as header base p g.R.ThresholdRules.pressure g.R.ThresholdRules.normal h c.args.cursor.now
    (Test c.in-Test.zone c.in-Test.field-1 c.in-Test.field-2 c.in-Test.at) c.in-Test.is c.args.step.now
    (Test c.in-Test.zone c.in-Test.field-1 c.in-Test.field-2 c.test_on.new.at)
    (answering-goes (λ verdict. answer.Tested verdict)
    (test_at header c.in-Test.zone c.in-Test.field-1 c.in-Test.field-2 c.in-Test.at)
    (test_at header c.in-Test.zone c.in-Test.field-1 c.in-Test.field-2 c.test_on.new.at) c.args.step.now
    (c.test_on.ensures.goes yes header c.in-Test.field-1 c.in-Test.field-2 refl))

pub returns-in-Rates-clause-goes : goal.returns-in-Rates-clause-goes
returns-in-Rates-clause-goes g c = λ yes base p h.
    let header : Header = c.args.header.now in
    let P = g.R.ThresholdRules.pressure in
    let N = g.R.ThresholdRules.normal in
    goes-as header base p P N h c.args.cursor.now (Rates c.in-Rates.call c.in-Rates.at) c.in-Rates.is c.args.step.now
    (Rates c.in-Rates.call c.rate_on.new.at)
    (answering-goes (λ made. answer.Done) (rating_at (facts_of header base) p P N c.in-Rates.call h c.in-Rates.at)
    (rating_at (facts_of header base) p P N c.in-Rates.call (after p (c.args.step.now ∷ []) h) c.rate_on.new.at)
    c.args.step.now (c.rate_on.ensures.goes yes header.sizes base p h))

pub returns-in-Turn-clause-goes : goal.returns-in-Turn-clause-goes
returns-in-Turn-clause-goes g c = λ yes base p h.
    let header : Header = c.args.header.now in
    let P = g.R.ThresholdRules.pressure in
    let N = g.R.ThresholdRules.normal in
    goes-as header base p P N h c.args.cursor.now (Turn c.in-Turn.turn c.in-Turn.at) c.in-Turn.is c.args.step.now
    (Turn c.in-Turn.turn c.turn_on.new.at)
    (answering-goes (λ balance. answer.Balanced balance) (turn_at header base p P N c.in-Turn.turn h c.in-Turn.at)
    (turn_at header base p P N c.in-Turn.turn (after p (c.args.step.now ∷ []) h) c.turn_on.new.at)
    c.args.step.now (c.turn_on.ensures.goes yes base p h))
