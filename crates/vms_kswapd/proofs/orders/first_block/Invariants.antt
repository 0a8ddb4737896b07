use Rattle.std.proofs.Common.{◌≡◌}
use Rattle.vms_kswapd.proofs.BlockSearches.{SoughtSoFar}
use Rattle.vms_kswapd.proofs.orders.first_block.Given as goal

-- the areas so far were looked at and have no block, and the volumes are as they were
abbrev pub invariant-loop-number : goal.invariant-loop-number
invariant-loop-number g l =
    SoughtSoFar l.header l.zone l.order (g.P.Caller.pass l.pass) (g.P.Caller.pass l.fn.pass) l.number
    × (g.P.Caller.volume l.pass ≡ g.P.Caller.volume l.fn.pass)
