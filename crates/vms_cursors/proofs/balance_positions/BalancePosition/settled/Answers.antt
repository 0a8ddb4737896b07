-- Each position settles as its own function says.
use Rattle.std.proofs.Common.{subst, sym}
use Rattle.vms_cursors.specs.Balances.{balance_at}
use Rattle.vms_cursors.specs.Cursors.{IsSame}
use Rattle.vms_cursors.proofs.balance_positions.BalancePosition.settled.Goals as goal

pub returns-in-Zone-clause-same : goal.returns-in-Zone-clause-same
returns-in-Zone-clause-same c =
    let header = c.args.header.now in
    subst (λ s. IsSame (balance_at header c.args.turn s) (balance_at header c.args.turn c.settled_zone.result))
    (sym c.in-Zone.is) c.settled_zone.ensures.same

pub returns-in-Ended-clause-same : goal.returns-in-Ended-clause-same
returns-in-Ended-clause-same c = λ steps answer. ((λ run. run), (λ run. run))
