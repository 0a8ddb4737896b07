use Rattle.std.proofs.Common.{◌≤◌}
use Rattle.vms_phase_checks.proofs.checks.PhaseCheck.begun.Given as goal

-- at most one of each lane so far
abbrev pub invariant-loop-slot : goal.invariant-loop-slot
invariant-loop-slot g l = l.count ≤ l.slot
