-- The watermark test is under way, or it has ended.
use Rattle.std.proofs.Common.{◌∙◌, refl, sym, ap}
use Rattle.vms_calls.specs.Common.{High}
use Rattle.vms_plans.specs.Common.{and_then, further_plan}
use Rattle.vms_cursors.specs.Orders.{order_at}
use Rattle.vms_cursors.specs.Tests.{test_answer, test_at}
use Rattle.vms_cursors.proofs.Asking.{test-asks}
use Rattle.vms_cursors.proofs.Followed.{followed-is}
use Rattle.vms_cursors.proofs.Goes.{same-runs}
use Rattle.vms_cursors.proofs.PlanEquations.{same-both}
use Rattle.vms_cursors.proofs.order_positions.settled_test.Goals as goal

pub returns-in-Some-clause-settled : goal.returns-in-Some-clause-settled
returns-in-Some-clause-settled c = (c.in-Some.ensures.due c.args.header.now High c.args.turn.most refl).1

pub returns-in-None-clause-same : goal.returns-in-None-clause-same
returns-in-None-clause-same c =
    let header = c.args.header.now in
    let zone = c.args.zone in
    let turn = c.args.turn in
    let at = c.args.at in
    let plan = test_at header zone High turn.most at in
    let more = further_plan header zone High turn.most turn.order in
    let verdict = c.verdict-verdict.result in
    same-both (and_then plan more) (more verdict) (order_at header zone turn c.after_test.result)
    (same-runs (and_then plan more) (more verdict)
    (followed-is plan more (test_answer header zone High turn.most at) (test-asks header zone High turn.most at)
    (c.in-None.ensures.ended header High turn.most refl refl) ∙ ap more (sym c.verdict-verdict.ensures)))
    c.after_test.ensures.same
