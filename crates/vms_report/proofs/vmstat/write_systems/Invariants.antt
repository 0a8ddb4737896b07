use Rattle.std.proofs.Common.{◌≡◌, ◌++◌, flat_map, map, take}
use Rattle.std.specs.List.{enumerate_from}
use Rattle.vms_world.specs.Common.{sentence}
use Rattle.vms_report.specs.Common.{system_lines}
use Rattle.vms_report.proofs.vmstat.write_systems.Given as goal

-- the lines of the items so far
abbrev pub invariant-loop-position : goal.invariant-loop-position
invariant-loop-position l =
    l.out.items ≡ l.initial.out.items ++ flat_map sentence (system_lines l.world l.first
    (enumerate_from 0 (take l.position (map (λ name. name.now) l.names))))
