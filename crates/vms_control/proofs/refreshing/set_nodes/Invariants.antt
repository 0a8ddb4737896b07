use Rattle.std.proofs.Common.{◌-◌, ◌≤◌, length, take}
use Rattle.vms_calls.specs.Common.{in_turn, pages}
use Rattle.vms_control.specs.Common.{SetsAtMost, never, once}
use Rattle.vms_control.proofs.NodeThresholds.{node_steps}
use Rattle.vms_control.proofs.refreshing.set_nodes.Given as goal
use Rattle.vms_seats.specs.Common.{Made}

-- the nodes so far have their thresholds
abbrev pub invariant-loop-number : goal.invariant-loop-number
invariant-loop-number l = record {
  made : Made pages l.pass l.fn.pass (in_turn (node_steps l.table.facts.layout l.thresholds l.online) 0
      (take (l.number - l.zones) l.table.facts.layout.nodes));
  sets : SetsAtMost l.table.facts (once (length l.table.facts.layout.zones) l.number) never l.pass.seen l.fn.pass.seen;
  least : l.zones ≤ l.number;
}
