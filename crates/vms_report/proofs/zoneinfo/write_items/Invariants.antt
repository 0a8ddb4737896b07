use Rattle.std.proofs.Common.{◌≡◌, ◌∷◌, [], ◌++◌, flat_map, map, take}
use Rattle.std.specs.Prelude.{decimal}
use Rattle.std.specs.List.{enumerate_from}
use Rattle.vms_report.specs.Common.{indented, told_value}
use Rattle.vms_report.proofs.zoneinfo.write_items.Given as goal

-- the lines of the items so far
abbrev pub invariant-loop-position : goal.invariant-loop-position
invariant-loop-position l =
    l.out.items ≡ l.initial.out.items ++ flat_map indented
    (map (λ (p, name). name ∷ decimal (told_value l.header l.world l.place.number p) ∷ [])
    (enumerate_from 0 (take l.position (map (λ name. name.now) l.names))))
