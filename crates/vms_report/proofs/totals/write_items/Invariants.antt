use Rattle.std.proofs.Common.{◌≡◌, ◌∷◌, [], ◌++◌, flat_map, map, take}
use Rattle.std.specs.Fmt.{signed_decimal}
use Rattle.std.specs.List.{enumerate_from}
use Rattle.vms_world.specs.Common.{counter_at, place_words, sentence}
use Rattle.vms_report.specs.Common.{page_total}
use Rattle.vms_report.proofs.totals.write_items.Given as goal

-- the lines of the items so far
abbrev pub invariant-loop-position : goal.invariant-loop-position
invariant-loop-position l =
    l.out.items ≡ l.initial.out.items ++ flat_map sentence
    (map (λ (p, name). place_words l.header l.place.number ++ name
    ∷ signed_decimal (page_total l.header l.world (counter_at l.header.layout l.place.number p)) ∷ [])
    (enumerate_from 0 (take l.position (map (λ name. name.now) l.names))))
