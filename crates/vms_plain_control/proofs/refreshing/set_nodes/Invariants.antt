use Rattle.std.proofs.Common.{◌<◌, ◌≤◌, ℕ, ◌-◌, List, length, take}
use Rattle.vms_calls.specs.Common.{HasShape, IsNode, IsZone, largest_on, node_number}
use Rattle.vms_plain_control.specs.Common.{GetsThreshold, KeepsMark, KeepsThresholds, MakesPart, SetsOnce, SetsOnly}
use Rattle.vms_plain_control.proofs.NodeThresholds.{SetsNodes}
use Rattle.vms_plain_control.proofs.refreshing.set_nodes.Given as goal

-- the nodes so far have their thresholds
abbrev pub invariant-loop-number : goal.invariant-loop-number
invariant-loop-number l = record {
  makes : (peaks : List ℕ) → MakesPart l.header
      (SetsNodes l.header.layout l.thresholds l.initial.pages.cpu (take (l.number - l.zones) l.header.layout.nodes))
      l.initial.pages peaks l.pages peaks;
  zones : (g : ℕ) → IsZone l.header.layout g → KeepsThresholds l.header.layout g l.initial.pages l.pages;
  marks : (g : ℕ) → KeepsMark g l.initial.pages l.pages;
  nodes : (f : ℕ) → IsNode l.header.layout f → f < l.number → GetsThreshold l.header.layout f
      (largest_on l.header.layout l.thresholds (node_number l.header.layout (record { number = f })))
      l.initial.pages l.pages;
  left : (f : ℕ) → IsNode l.header.layout f → l.number ≤ f →
      KeepsThresholds l.header.layout f l.initial.pages l.pages;
  rest : SetsOnly l.initial.pages l.pages;
  least : l.zones ≤ l.number;
  once : SetsOnce l.header.layout (length l.header.layout.zones) l.number l.initial.pages l.pages;
  shaped : HasShape l.header.layout l.pages;
}
