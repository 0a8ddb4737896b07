-- The plan of what is left of a snapshot at each position.
use Rattle.std.specs.Prelude.{ℕ, suc, ◌-◌, ◌+ℤ◌}
use Rattle.vms_calls.specs.Common.{CounterId, Shape, at_least_zero, group_of}
use Rattle.vms_calls.specs.LookReadings.{differential_told}
use Rattle.vms_plans.specs.declared.due_steps.DueStep.TheVariants.{LoadsGroup}
use Rattle.vms_plans.specs.Common.{Plan, looks_plan, snapshot_plan, waits}
use Rattle.vms_cursors.specs.declared.snapshot_positions.SnapshotPosition.{SnapshotPosition}
use Rattle.vms_cursors.specs.declared.snapshot_positions.SnapshotPosition.TheVariants.{Begun, Looks, Online}

abbrev pub snapshot_at : Shape → CounterId → SnapshotPosition → Plan ℕ
snapshot_at shape k Begun = snapshot_plan shape k
snapshot_at shape k (Looks looked) = looks_plan k looked.cpus (shape.cpus - looked.cpus) looked.sum
snapshot_at shape k (Online found) =
    waits (LoadsGroup (record { number = found.looked.cpus }) (record { number = group_of k.number }))
    (λ load. looks_plan k (suc found.looked.cpus) (shape.cpus - suc found.looked.cpus)
    (found.looked.sum +ℤ differential_told k.number load))

-- the answer where the snapshot has ended
abbrev pub snapshot_answer : SnapshotPosition → ℕ
snapshot_answer Begun = 0
snapshot_answer (Looks looked) = at_least_zero looked.sum
snapshot_answer (Online found) = 0
