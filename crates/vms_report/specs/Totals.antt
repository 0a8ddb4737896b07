-- What the counters of a world add up to over all CPUs, and the lines that tell it.
use Rattle.std.specs.Prelude.{ℕ, ℤ, ◌+ℤ◌, List, [], ◌∷◌, ◌++◌, codes, flat_map, map}
use Rattle.std.specs.Fmt.{signed_decimal}
use Rattle.std.specs.List.{enumerate_from, range_with_len}
use Rattle.vms_world.specs.Common.{Header, event_names, counter_at, place_count, value_at, differentials, sum_of_words}
use Rattle.vms_world.specs.Common.{count_at, locals, place_words}
use Rattle.vms_world.specs.declared.worlds.World.{World}
use Rattle.vms_report.specs.Items.{items_at}

-- a page counter: its global value and the differentials of all CPUs
abbrev pub page_total : Header → World → ℕ → ℤ
page_total header w k = value_at w.pages k +ℤ differentials header.layout w.pages k

-- an event: the words of all CPUs
abbrev pub event_total : Header → World → ℕ → ℤ
event_total header w k = sum_of_words header.layout w.events k

-- a percpu counter: its shared part and the local parts of all CPUs
abbrev pub pcpu_total : Header → World → ℕ → ℤ
pcpu_total header w j = count_at w.counters j +ℤ locals header.layout w.counters j

-- `NODE KIND ITEM VALUE` for each item of place g, in pages
abbrev pub place_totals : Header → (ℕ → ℤ) → ℕ → List (List (List ℕ))
place_totals header total g =
    map (λ (p, name). place_words header g ++ name ∷ signed_decimal (total (counter_at header.layout g p)) ∷ [])
    (items_at header g)

-- `event NAME VALUE` for each event
abbrev pub event_totals : (ℕ → ℤ) → List (List (List ℕ))
event_totals total =
    map (λ (k, name). codes "event" ∷ name ∷ signed_decimal (total k) ∷ []) (enumerate_from 0 event_names)

-- `counter NAME VALUE` for each percpu counter
abbrev pub pcpu_totals : Header → (ℕ → ℤ) → List (List (List ℕ))
pcpu_totals header total =
    map (λ (j, decl). codes "counter" ∷ decl.name ∷ signed_decimal (total j) ∷ [])
    (enumerate_from 0 header.counters)

-- the lines of these totals: of each place in turn, then of the events, then of the percpu counters
abbrev pub totals_lines : Header → (page event counter : ℕ → ℤ) → List (List (List ℕ))
totals_lines header page event counter =
    flat_map (place_totals header page) (range_with_len 0 (place_count header.layout))
    ++ event_totals event ++ pcpu_totals header counter
