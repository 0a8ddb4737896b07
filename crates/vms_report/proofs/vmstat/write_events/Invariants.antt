use Rattle.std.proofs.Common.{◌≡◌, ◌∷◌, [], ◌++◌, flat_map, map, take}
use Rattle.std.specs.Prelude.{decimal}
use Rattle.std.specs.List.{enumerate_from}
use Rattle.vms_world.specs.Common.{online_from, event_names, sum_over, sentence}
use Rattle.vms_report.specs.Common.{told_events}
use Rattle.vms_report.proofs.vmstat.write_events.Given as goal

-- the lines of the events so far
abbrev pub invariant-loop-number : goal.invariant-loop-number
invariant-loop-number l =
    l.out.items ≡ l.initial.out.items ++ flat_map sentence
    (map (λ (k, name). name
    ∷ decimal (told_events name (sum_over l.world.events k (online_from 0 l.world.pages.cpu))) ∷ [])
    (enumerate_from 0 (take l.number event_names)))
