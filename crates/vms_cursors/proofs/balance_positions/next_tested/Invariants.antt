use Rattle.std.proofs.Common.{◌≡◌}
use Rattle.vms_cursors.specs.Balances.{tested_from}
use Rattle.vms_cursors.proofs.balance_positions.next_tested.Given as goal

-- the zones so far are not tested
abbrev pub invariant-loop-zone : goal.invariant-loop-zone
invariant-loop-zone l =
    tested_from l.header.layout l.turn l.from ≡ tested_from l.header.layout l.turn l.zone
