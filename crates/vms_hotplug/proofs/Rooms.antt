-- Room for less is room for more.
use Rattle.std.proofs.Common.{ℕ, ◌≤◌, arith}
use Rattle.vms_world.specs.Common.{Shape, State}
use Rattle.vms_hotplug.specs.Common.{IsSmallState}

pub IsSmallState-more : (shape : Shape) (less more : ℕ) (s : State) → less ≤ more → IsSmallState shape less s
    → IsSmallState shape more s
IsSmallState-more shape less more s within room = record {
  shaped = room.shaped;
  diffs = room.diffs;
  values = λ k k_in. let small = room.values k k_in in omega arith;
  systems = λ i i_in. let small = room.systems i i_in in omega arith;
}
