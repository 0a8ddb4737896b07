use Rattle.std.proofs.Common.{◌≡◌, ◌++◌, flat_map, take}
use Rattle.std.specs.List.{enumerate_from}
use Rattle.vms_report.specs.Common.{zone_text}
use Rattle.vms_report.proofs.zoneinfo.write_zones.Given as goal

-- what stands of the zones so far
abbrev pub invariant-loop-place : goal.invariant-loop-place
invariant-loop-place l =
    l.out.items ≡ l.initial.out.items
    ++ flat_map (zone_text l.header l.world) (enumerate_from 0 (take l.place l.header.layout.zones))
