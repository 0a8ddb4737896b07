-- A zone that passes ends the test, and one that fails leads to the next.
use Rattle.vms_calls.specs.declared.answers.Balance.TheVariants.{Yes}
use Rattle.std.proofs.Common.{◌+◌}
use Rattle.vms_cursors.specs.Balances.{balance_at, judged_plan, tests_from}
use Rattle.vms_cursors.specs.declared.balance_positions.BalancePosition.TheVariants.{Ended}
use Rattle.vms_cursors.proofs.BalanceGoes.{zone-fails, zone-passes}
use Rattle.vms_cursors.proofs.Goes.{same-runs}
use Rattle.vms_cursors.proofs.PlanEquations.{same-both}
use Rattle.vms_cursors.proofs.balance_positions.after_zone.Goals as goal

pub returns-then-verdict-clause-same : goal.returns-then-verdict-clause-same
returns-then-verdict-clause-same c =
    let header = c.args.header.now in
    let turn = c.args.turn in
    same-runs (judged_plan header turn c.args.zone c.args.verdict)
    (balance_at header turn (Ended (Yes c.args.zone c.args.verdict)))
    (zone-passes header turn c.args.zone c.args.verdict c.if-verdict.true)

pub returns-clause-same : goal.returns-clause-same
returns-clause-same c =
    let header = c.args.header.now in
    let turn = c.args.turn in
    let judged = judged_plan header turn c.args.zone c.args.verdict in
    let more = tests_from header turn (c.args.zone.number + 1) in
    same-both judged more (balance_at header turn c.from.result)
    (same-runs judged more (zone-fails header turn c.args.zone c.args.verdict c.if-verdict.false))
    c.from.ensures.same
