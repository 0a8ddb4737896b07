-- Where each number of the page counters' table stands among its words.
use Rattle.std.specs.Prelude.{ℕ, ◌+◌, ◌-◌, ◌*◌, ◌/◌, ◌%◌, nat_lt, length, if◌then◌else◌, Option, Some, None}
use Rattle.vms_calls.specs.Common.{Shape, IsCpu, IsPlace, IsZone, IsCounter, IsGroup, IsItem, cell, place_count}
use Rattle.vms_calls.specs.Common.{counter_count, group_count, item_count}
use Rattle.vms_rows.specs.Common.{row_width}
use Rattle.vms_words.specs.declared.spots.Blocks.{Blocks}
use Rattle.vms_words.specs.declared.spots.Spot.{Spot}
use Rattle.vms_words.specs.declared.spots.Spot.TheVariants.{Value, System, Group, Threshold, Mark, Cpu, Acknowledgement}

-- a word of this layout's table
abbrev pub IsSpot : Shape → Spot → Type 0
IsSpot shape (Value k) = IsCounter shape k.number
IsSpot shape (System i) = IsItem shape i.number
IsSpot shape (Group c j) = IsCpu shape c.number × IsGroup shape j.number
IsSpot shape (Threshold c g) = IsCpu shape c.number × IsPlace shape g.number
IsSpot shape (Mark g) = IsZone shape g.number
IsSpot shape (Cpu c) = IsCpu shape c.number
IsSpot shape (Acknowledgement c g) = IsCpu shape c.number × IsZone shape g.number

-- the CPU whose number a word holds, if it is of one
abbrev pub cpu_of_spot : Spot → Option ℕ
cpu_of_spot (Value k) = None
cpu_of_spot (System i) = None
cpu_of_spot (Mark g) = None
cpu_of_spot (Group c j) = Some c.number
cpu_of_spot (Threshold c g) = Some c.number
cpu_of_spot (Acknowledgement c g) = Some c.number
cpu_of_spot (Cpu c) = Some c.number

-- where each kind begins: first what is of no CPU, the global values, the system-wide ones and the marks. A row for
-- each CPU stands apart from these and from the other rows: its groups, its thresholds, what it acknowledged, and its
-- state
unfoldable pub blocks_of : Shape → Blocks
blocks_of shape =
    let marks = counter_count shape + item_count shape in
    let shared = marks + length shape.zones in
    let acknowledgements = group_count shape + place_count shape in
    let state = acknowledgements + length shape.zones in
    record {
      systems = counter_count shape;
      marks = marks;
      shared = shared;
      rows = row_width shared;
      thresholds = group_count shape;
      acknowledgements = acknowledgements;
      state = state;
      width = row_width (state + 1);
      end = row_width shared + shape.cpus * row_width (state + 1);
    }

-- the place of a word
abbrev pub place_in : Blocks → Spot → ℕ
place_in b (Value k) = k.number
place_in b (System i) = b.systems + i.number
place_in b (Mark g) = b.marks + g.number
place_in b (Group c j) = b.rows + cell b.width c.number j.number
place_in b (Threshold c g) = b.rows + cell b.width c.number (b.thresholds + g.number)
place_in b (Acknowledgement c g) = b.rows + cell b.width c.number (b.acknowledgements + g.number)
place_in b (Cpu c) = b.rows + cell b.width c.number b.state

-- the place of a CPU's first group
abbrev pub groups_start : Shape → ℕ → ℕ
groups_start shape c = (blocks_of shape).rows + cell (blocks_of shape).width c 0

-- what the word at a place before the rows holds, unless it stays 0
abbrev pub spot_before : Blocks → ℕ → Option Spot
spot_before b n =
    if nat_lt n b.systems then Some (Value (record { number = n }))
    else if nat_lt n b.marks then Some (System (record { number = n - b.systems }))
    else if nat_lt n b.shared then Some (Mark (record { number = n - b.marks }))
    else None

-- what word k of a CPU's row holds, unless it stays 0
abbrev pub spot_in_row : Blocks → ℕ → ℕ → Option Spot
spot_in_row b c k =
    if nat_lt k b.thresholds then Some (Group (record { number = c }) (record { number = k }))
    else if nat_lt k b.acknowledgements
    then Some (Threshold (record { number = c }) (record { number = k - b.thresholds }))
    else if nat_lt k b.state
    then Some (Acknowledgement (record { number = c }) (record { number = k - b.acknowledgements }))
    else if nat_lt k (b.state + 1) then Some (Cpu (record { number = c }))
    else None

-- what the word at a place holds, unless it stays 0
abbrev pub spot_in : Blocks → ℕ → Option Spot
spot_in b n =
    if nat_lt n b.rows then spot_before b n else spot_in_row b ((n - b.rows) / b.width) ((n - b.rows) % b.width)
