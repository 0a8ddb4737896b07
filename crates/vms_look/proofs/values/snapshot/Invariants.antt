use Rattle.std.proofs.Common.{◌≡◌}
use Rattle.vms_look.proofs.LookSteps.{SoFar}
use Rattle.vms_look.proofs.values.snapshot.Given as goal

-- the CPUs so far were looked at, and the volumes are as they were
abbrev pub invariant-loop-number : goal.invariant-loop-number
invariant-loop-number g l =
    SoFar l.counter (g.P.Caller.pass l.pass) (g.P.Caller.pass l.fn.pass) l.number l.sum
    × (g.P.Caller.volume l.pass ≡ g.P.Caller.volume l.fn.pass)
