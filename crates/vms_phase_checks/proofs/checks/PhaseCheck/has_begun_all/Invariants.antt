use Rattle.std.proofs.Common.{ℕ, ◌≢◌, ◌<◌, [], get_or, None}
use Rattle.std.specs.Prelude.{IsSome}
use Rattle.vms_phase_checks.proofs.checks.PhaseCheck.has_begun_all.Given as goal

-- a pass of each lane so far that has lines has begun
abbrev pub invariant-loop-slot : goal.invariant-loop-slot
invariant-loop-slot g l =
    (n : ℕ) → n < l.slot → get_or l.self.lanes n [] ≢ [] → IsSome (get_or l.self.walks n None)
