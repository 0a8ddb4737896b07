-- Where no step is due at a position its call has ended.
use Rattle.std.proofs.Common.{not, refl, ap, ◌∙◌}
use Rattle.vms_calls.specs.declared.page_calls.PageAnswer.TheVariants as answer
use Rattle.vms_cursors.specs.Changes.{change_at}
use Rattle.vms_cursors.specs.Folds.{fold_at}
use Rattle.vms_cursors.specs.Loads.{load_answer, system_at, value_at}
use Rattle.vms_cursors.specs.Snapshots.{snapshot_answer, snapshot_at}
use Rattle.vms_cursors.specs.Tests.{test_answer, test_at}
use Rattle.vms_cursors.specs.declared.cursors.Cursor.TheVariants.{Change, Fold, Snapshot, System, Test, Value}
use Rattle.vms_cursors.proofs.CursorGoes.{ended-as}
use Rattle.vms_cursors.proofs.Goes.{answering-ended}
use Rattle.vms_world.specs.Common.{Header}
use Rattle.vms_walks.proofs.ended_calls.has_ended.Goals as goal

pub returns-in-Change-clause-ended : goal.returns-in-Change-clause-ended
returns-in-Change-clause-ended g c = λ yes base p h.
    let header : Header = c.args.header.now in
    let change = c.in-Change.change in
    let at = c.in-Change.at in
    ended-as header base p g.R.ThresholdRules.pressure g.R.ThresholdRules.normal h c.args.cursor.now
    (Change change at) c.in-Change.is
    (answering-ended (λ made. answer.Done) (change_at header.layout change at) (tt {0})
    (c.due.ensures.ended (c.is_none.ensures ∙ ap not yes)))

pub returns-in-Value-clause-ended : goal.returns-in-Value-clause-ended
returns-in-Value-clause-ended g c = λ yes base p h.
    let header : Header = c.args.header.now in
    let counter = c.in-Value.counter in
    let at = c.in-Value.at in
    ended-as header base p g.R.ThresholdRules.pressure g.R.ThresholdRules.normal h c.args.cursor.now
    (Value counter at) c.in-Value.is
    (answering-ended (λ pages. answer.Value pages) (value_at counter at) (load_answer at)
    (c.due_value.ensures.ended (c.is_none-in-Value.ensures ∙ ap not yes)))

pub returns-in-System-clause-ended : goal.returns-in-System-clause-ended
returns-in-System-clause-ended g c = λ yes base p h.
    let header : Header = c.args.header.now in
    let item = c.in-System.item in
    let at = c.in-System.at in
    ended-as header base p g.R.ThresholdRules.pressure g.R.ThresholdRules.normal h c.args.cursor.now
    (System item at) c.in-System.is
    (answering-ended (λ pages. answer.System pages) (system_at item at) (load_answer at)
    (c.due_system.ensures.ended (c.is_none-in-System.ensures ∙ ap not yes)))

pub returns-in-Snapshot-clause-ended : goal.returns-in-Snapshot-clause-ended
returns-in-Snapshot-clause-ended g c = λ yes base p h.
    let header : Header = c.args.header.now in
    let counter = c.in-Snapshot.counter in
    let at = c.in-Snapshot.at in
    ended-as header base p g.R.ThresholdRules.pressure g.R.ThresholdRules.normal h c.args.cursor.now
    (Snapshot counter at) c.in-Snapshot.is
    (answering-ended (λ pages. answer.Snapshot pages) (snapshot_at header.layout counter at) (snapshot_answer at)
    (c.due-in-Snapshot.ensures.ended (c.is_none-in-Snapshot.ensures ∙ ap not yes)))

pub returns-in-Test-clause-ended : goal.returns-in-Test-clause-ended
returns-in-Test-clause-ended g c = λ yes base p h.
    let header : Header = c.args.header.now in
    let zone = c.in-Test.zone in
    let mark = c.in-Test.field-1 in
    let most = c.in-Test.field-2 in
    let at = c.in-Test.at in
    ended-as header base p g.R.ThresholdRules.pressure g.R.ThresholdRules.normal h c.args.cursor.now
    (Test zone mark most at) c.in-Test.is
    (answering-ended (λ verdict. answer.Tested verdict) (test_at header zone mark most at)
    (test_answer header zone mark most at)
    (c.due-in-Test.ensures.ended header mark most refl (c.is_none-in-Test.ensures ∙ ap not yes)))

pub returns-in-Fold-clause-ended : goal.returns-in-Fold-clause-ended
returns-in-Fold-clause-ended g c = λ yes base p h.
    let header : Header = c.args.header.now in
    let fold = c.in-Fold.fold in
    let at = c.in-Fold.at in
    ended-as header base p g.R.ThresholdRules.pressure g.R.ThresholdRules.normal h c.args.cursor.now
    (Fold fold at) c.in-Fold.is
    (answering-ended (λ made. answer.Done) (fold_at header.layout fold at) (tt {0})
    (c.due-in-Fold.ensures.ended (c.is_none-in-Fold.ensures ∙ ap not yes)))
