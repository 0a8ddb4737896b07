use Rattle.std.proofs.Common.{◌≡◌, ℕ, ◌≤◌, take}
use Rattle.std.specs.Prelude.{reverse}
use Rattle.vms_group_registers.specs.Bounded.{HadRoom, rising_in}
use Rattle.vms_group_registers.proofs.rooms.most_rising.Given as goal

abbrev pub invariant-loop-event : goal.invariant-loop-event
invariant-loop-event l = record {
  count : l.count ≡ rising_in l.tree (reverse (take l.event-index l.events));
  below : l.count ≤ l.event-index;
  within : l.count ≤ l.most;
  enough : HadRoom l.tree l.most (reverse (take l.event-index l.events));
  least : (room : ℕ) → HadRoom l.tree room (reverse (take l.event-index l.events)) → l.most ≤ room;
}
