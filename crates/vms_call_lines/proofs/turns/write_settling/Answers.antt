-- Normal thresholds after yes, and nothing after no.
use Rattle.vms_text.proofs.Common.{OnErr-true}
use Rattle.vms_call_lines.proofs.ControlLines.{nothing-written}
use Rattle.vms_call_lines.proofs.turns.write_settling.Goals as goal

pub returns-in-Yes-clause-writes : goal.returns-in-Yes-clause-writes
returns-in-Yes-clause-writes g c = rw c.in-Yes.is c.write_node_rating.ensures.writes

pub returns-in-No-clause-writes : goal.returns-in-No-clause-writes
returns-in-No-clause-writes g c =
    rw c.in-No.is (nothing-written c.args.header.now c.args.caller c.args.pages.now c.args.peaks.now c.args.out.now.items)

pub returns-in-Yes-clause-err : goal.returns-in-Yes-clause-err
returns-in-Yes-clause-err g c =
    OnErr-true c.write_node_rating.result _
    c.write_node_rating.ensures.begins
