use Rattle.std.proofs.Common.{◌≡◌, ◌++◌, flat_map}
use Rattle.std.specs.List.{range_with_len}
use Rattle.vms_world.specs.Common.{sentence}
use Rattle.vms_report.specs.Common.{page_total, place_totals}
use Rattle.vms_report.proofs.totals.write_places.Given as goal

-- the lines of the places so far
abbrev pub invariant-loop-number : goal.invariant-loop-number
invariant-loop-number l =
    l.out.items ≡ l.initial.out.items
    ++ flat_map sentence (flat_map (place_totals l.header (page_total l.header l.world)) (range_with_len 0 l.number))
