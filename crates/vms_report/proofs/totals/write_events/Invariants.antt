use Rattle.std.proofs.Common.{◌≡◌, ◌∷◌, [], ◌++◌, codes, flat_map, map, take}
use Rattle.std.specs.Fmt.{signed_decimal}
use Rattle.std.specs.List.{enumerate_from}
use Rattle.vms_world.specs.Common.{event_names, sentence}
use Rattle.vms_report.specs.Common.{event_total}
use Rattle.vms_report.proofs.totals.write_events.Given as goal

-- the lines of the events so far
abbrev pub invariant-loop-number : goal.invariant-loop-number
invariant-loop-number l =
    l.out.items ≡ l.initial.out.items ++ flat_map sentence
    (map (λ (k, name). codes "event" ∷ name ∷ signed_decimal (event_total l.header l.world k) ∷ [])
    (enumerate_from 0 (take l.number event_names)))
