use Rattle.std.proofs.Common.{◌≡◌, ℕ, ◌<◌, nat_eq, true, List}
use Rattle.vms_calls.specs.Common.{node_of_zone, IsControl}
use Rattle.vms_calls.proofs.Common.{zones_so_far}
use Rattle.vms_control.proofs.VisitedZones.{Visited}
use Rattle.vms_control.proofs.nodes.visit_node.Given as goal

-- the node's zones so far were visited, and the first visit told that the pass is the control pass
abbrev pub invariant-loop-zone : goal.invariant-loop-zone
invariant-loop-zone g l = record {
  visited : (ts : List ℕ) × Visited l.table l.fn.pass (g.P.Rule.answers l.rules.pressure)
      (g.N.Rule.answers l.rules.normal) l.rating l.online (zones_so_far l.table.facts.layout l.number l.zone) ts l.zone
      l.pass;
  control : (z : ℕ) → z < l.zone → nat_eq (node_of_zone l.table.facts.layout z) l.number ≡ true →
      IsControl l.fn.pass.seen l.fn.pass.number;
}
