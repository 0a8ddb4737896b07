use Rattle.std.proofs.Common.{◌≡◌, ◌++◌, map}
use Rattle.std.specs.Fmt.{signed_decimal}
use Rattle.std.specs.List.{range_with_len}
use Rattle.vms_world.specs.Common.{counter_at, diff_at, spaced}
use Rattle.vms_report.proofs.zoneinfo.push_differentials.Given as goal

-- the differentials of the items so far
abbrev pub invariant-loop-position : goal.invariant-loop-position
invariant-loop-position l =
    l.out.items ≡ l.initial.out.items ++ spaced
    (map (λ p. signed_decimal (diff_at l.world.pages l.cpu.number (counter_at l.header.layout l.place.number p)))
    (range_with_len 0 l.position))
