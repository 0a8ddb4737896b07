use Rattle.std.proofs.Common.{map}
use Rattle.vms_phase_checks.specs.Common.{AreEmpty}
use Rattle.vms_phase_checks.proofs.lane_acts.no_acts.Given as goal

-- the lists so far are empty
abbrev pub invariant-loop-done : goal.invariant-loop-done
invariant-loop-done l = AreEmpty l.done (map (λ lane. lane.items) l.lanes.items)
