use Rattle.std.proofs.Common.{◌≡◌, ◌++◌, flat_map, map, take}
use Rattle.std.specs.List.{enumerate_from}
use Rattle.vms_world.specs.Common.{sentence}
use Rattle.vms_report.specs.Common.{percpu_counter_words}
use Rattle.vms_report.proofs.counters.write_counters.Given as goal

-- the lines of the counters so far
abbrev pub invariant-loop-counter : goal.invariant-loop-counter
invariant-loop-counter l =
    l.out.items ≡ l.initial.out.items
    ++ flat_map sentence (map (percpu_counter_words l.world) (enumerate_from 0 (take l.counter l.header.counters)))
