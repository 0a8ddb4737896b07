use Rattle.std.proofs.Common.{◌≡◌, ◌++◌, map, take}
use Rattle.std.specs.Fmt.{signed_decimal}
use Rattle.vms_world.specs.Common.{present_from, local_at, spaced}
use Rattle.vms_report.proofs.counters.push_locals.Given as goal

-- the local parts of the CPUs so far
abbrev pub invariant-loop-number : goal.invariant-loop-number
invariant-loop-number l =
    l.out.items ≡ l.initial.out.items ++ spaced
    (map (λ cpu. signed_decimal (local_at l.world.counters cpu.number l.counter))
    (present_from 0 (take l.number l.world.pages.cpu)))
