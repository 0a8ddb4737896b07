use Rattle.std.proofs.Common.{◌≡◌, ◌++◌, flat_map, take}
use Rattle.std.specs.List.{enumerate_from}
use Rattle.vms_report.specs.Common.{node_text}
use Rattle.vms_report.proofs.zoneinfo.write_nodes.Given as goal

-- what stands of the nodes so far
abbrev pub invariant-loop-index : goal.invariant-loop-index
invariant-loop-index l =
    l.out.items ≡ l.initial.out.items
    ++ flat_map (node_text l.header l.world) (enumerate_from 0 (take l.index l.header.layout.nodes))
