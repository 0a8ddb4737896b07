-- The numbers of places, counters and items, by the words that a trace has for them.
use Rattle.std.specs.Prelude.{◌≡◌, ℕ, ◌+◌, nat_lt, ℤ, Bool, if◌then◌else◌, List, Option, Some, None, Result, Ok, Err}
use Rattle.std.specs.Prelude.{bytes_eq, position}
use Rattle.vms_world.specs.Common.{class_names, counter_at, place_count, is_node_place, Header}
use Rattle.vms_text.specs.PlaceNames.{place_named}
use Rattle.vms_counters.specs.Opened.{Opened}
use Rattle.vozhkell_c.specs.Calls.{shown}
use Rattle.vozhkell_c.specs.Statuses.{no_name, no_place, null, status_of}

-- what was found, or else this status
abbrev pub or_status : ℤ → Option ℕ → Result ℕ ℤ
or_status status (Some number) = Ok number
or_status status None = Err status

-- the place that a node's number and a word name
abbrev pub find_place : ℕ → List ℕ → Header → Result ℕ ℤ
find_place node word header = or_status no_place (place_named header.layout node word)

-- the position of an item of the nodes, or else of the zones
abbrev pub find_position : Bool → List ℕ → Header → Option ℕ
find_position node word header = position (bytes_eq word) (class_names node header.items)

-- a position that the layout has, as a number
abbrev pub at_position : ℕ → (ℕ → ℕ) → Option ℕ → Result ℕ ℤ
at_position positions number (Some position) = if nat_lt position positions then Ok (number position) else Err no_name
at_position positions number None = Err no_name

-- the counter of a place's item
abbrev pub find_counter : ℕ → List ℕ → Header → Result ℕ ℤ
find_counter place word header =
    if nat_lt place (place_count header.layout)
    then at_position header.layout.positions (counter_at header.layout place)
    (find_position (is_node_place header.layout place) word header)
    else Err no_place

-- the system-wide value of an item of the nodes, or else of the zones
abbrev pub find_item : Bool → List ℕ → Header → Result ℕ ℤ
find_item node word header = at_position header.layout.positions
    (λ position. if node then header.layout.positions + position else position) (find_position node word header)

-- what is found by the header of the counters that a variable holds
abbrev pub Finds : (Header → Result ℕ ℤ) → Option Opened → Option Opened → ℕ → ℕ → ℤ → Type 0
Finds find new None after before status = (status ≡ null) × (new ≡ None) × (after ≡ before)
Finds find new (Some old) after before status = (new ≡ Some old)
    × (status ≡ status_of (λ cause. cause) (find old.header)) × (after ≡ shown (λ number. number)
    (find old.header) before)
