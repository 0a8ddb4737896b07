use Rattle.std.proofs.Common.{◌≡◌}
use Rattle.vms_kswapd.proofs.ZoneTests.{FailedSoFar}
use Rattle.vms_kswapd.proofs.balances.first_balanced.Given as goal

-- the zones so far were tested and none passed, and the volumes are as they were
abbrev pub invariant-loop-place : goal.invariant-loop-place
invariant-loop-place g l =
    FailedSoFar l.header l.most l.order l.number (g.P.Caller.pass l.pass) (g.P.Caller.pass l.fn.pass) l.place
    × (g.P.Caller.volume l.pass ≡ g.P.Caller.volume l.fn.pass)
