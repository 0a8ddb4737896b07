use Rattle.std.proofs.Common.{◌≡◌, ◌++◌, flat_map, map, take}
use Rattle.vms_world.specs.Common.{present_from}
use Rattle.vms_report.specs.Common.{indented, cpu_words}
use Rattle.vms_report.proofs.zoneinfo.write_cpus.Given as goal

-- the lines of the CPUs so far
abbrev pub invariant-loop-number : goal.invariant-loop-number
invariant-loop-number l =
    l.out.items ≡ l.initial.out.items ++ flat_map indented
    (map (λ cpu. cpu_words l.header l.world l.place.number cpu.number)
    (present_from 0 (take l.number l.world.pages.cpu)))
