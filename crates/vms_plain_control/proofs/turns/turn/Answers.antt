-- The pressure thresholds, the test and what follows it make the call.
use Rattle.vms_plain_control.proofs.TurnCalls.{turn-makes}
use Rattle.vms_plain_control.proofs.turns.turn.Goals as goal

pub returns-clause-makes : goal.returns-clause-makes
returns-clause-makes g c =
    turn-makes c.args.header.now c.requires.header (g.P.Rule.answers c.args.rules.now.pressure)
    (g.N.Rule.answers c.args.rules.now.normal) c.args.node c.args.order c.args.most
    c.balance_test-balance.result c.args.pages.now c.set_pressure.new.pages c.settle.new.pages
    c.args.peaks.now c.set_pressure.new.peaks c.settle.new.peaks c.looks_may_be_made.ensures.balance
    c.set_pressure.ensures.makes (c.balance_test-balance.ensures.made _) c.settle.ensures.makes

pub returns-clause-places : goal.returns-clause-places
returns-clause-places g c = (
  c.set_pressure.new.pages,
  c.set_pressure.new.peaks,
  c.set_pressure.ensures.rest,
  c.set_pressure.ensures.places,
  c.balance_test-balance.ensures.answer,
  c.settle.ensures.places,
)
