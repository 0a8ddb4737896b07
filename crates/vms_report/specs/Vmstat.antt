-- What `/proc/vmstat` tells of a world: the system-wide values, and the events of the CPUs that are online.
use Rattle.std.specs.Prelude.{ℕ, ◌+◌, ◌/◌, ◌||◌, true, false, if◌then◌else◌, List, [], ◌∷◌, ◌++◌, codes, decimal, map}
use Rattle.std.specs.Prelude.{bytes_eq}
use Rattle.std.specs.List.{enumerate_from}
use Rattle.vms_world.specs.Common.{Header, online_from, event_names, at_least_zero, system_at, sum_over}
use Rattle.vms_world.specs.declared.worlds.World.{World}
use Rattle.vms_report.specs.Items.{items_of}

-- `pgpgin` and `pgpgout` count sectors of 512 bytes, and are told in KiB (`vmstat_start` of mm/vmstat.c)
abbrev pub told_events : List ℕ → ℕ → ℕ
told_events name count =
    if bytes_eq name (codes "pgpgin") || bytes_eq name (codes "pgpgout") then count / 2 else count

-- `NAME VALUE` for each of these items, whose system-wide values begin at `first`: in pages, and 0 where the value is
-- negative
abbrev pub system_lines : World → ℕ → List (ℕ × List ℕ) → List (List (List ℕ))
system_lines w first items =
    map (λ (p, name). name ∷ decimal (at_least_zero (system_at w.pages (first + p))) ∷ []) items

-- `NAME VALUE` for each event, as the CPUs that are online have counted it
abbrev pub event_lines : World → List (List (List ℕ))
event_lines w =
    map (λ (k, name). name ∷ decimal (told_events name (sum_over w.events k (online_from 0 w.pages.cpu))) ∷ [])
    (enumerate_from 0 event_names)

-- the zone items, the node items, and the events
abbrev pub vmstat_lines : Header → World → List (List (List ℕ))
vmstat_lines header w = system_lines w 0 (items_of header false)
    ++ system_lines w header.layout.positions (items_of header true) ++ event_lines w
