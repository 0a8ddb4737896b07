-- The fields of a line of the body: each gives what its words say, or the first cause why it doesn't count.
use Rattle.std.specs.Prelude.{ℕ, ◌+◌, ◌^◌, nat_lt, nat_le, ◌==◌, true, false, if◌then◌else◌, ℤ, pos, unsigned_abs}
use Rattle.std.specs.Prelude.{int_div, List, map, codes, bytes_eq, position, Option, Some, None, option_map, ok_or}
use Rattle.std.specs.Prelude.{Result, Ok, Err, ◌%◌}
use Rattle.vms_base.specs.declared.headers.Header.{Header}
use Rattle.vms_base.specs.declared.ids.CounterId.{CounterId}
use Rattle.vms_base.specs.declared.ids.CpuId.{CpuId}
use Rattle.vms_base.specs.declared.ids.EventId.{EventId}
use Rattle.vms_base.specs.declared.ids.ItemId.{ItemId}
use Rattle.vms_base.specs.declared.ids.PcpuId.{PcpuId}
use Rattle.vms_base.specs.declared.ids.PlaceId.{PlaceId}
use Rattle.vms_base.specs.declared.kinds.WaterMark.{WaterMark}
use Rattle.vms_base.specs.declared.kinds.WaterMark.TheVariants.{Min, Low, High}
use Rattle.vms_base.specs.Common.{class_names, event_names, counter_at, node_place}
use Rattle.vms_text.specs.Common.{number_within, unsigned_of, signed_of, and_then, zone_named, place_named, item_named}
use Rattle.vms_text.specs.Common.{is_in_bytes}
use Rattle.vms_line.specs.declared.causes.LineCause.{LineCause}
use Rattle.vms_line.specs.declared.causes.LineCause.TheVariants.{BadNumber, UnknownLane, UnknownPlace, UnknownItem}
use Rattle.vms_line.specs.declared.causes.LineCause.TheVariants.{UnknownCounter, NotPages}

-- a number of 64 bits
abbrev pub number_field : List ℕ → Result ℕ LineCause
number_field word = ok_or (unsigned_of word) BadNumber

-- a number from 0 to this
abbrev pub number_up_to : ℕ → List ℕ → Result ℕ LineCause
number_up_to most word = ok_or (number_within 0 most word) BadNumber

-- a signed number of 64 bits
abbrev pub amount_field : List ℕ → Result ℤ LineCause
amount_field word = ok_or (signed_of word) BadNumber

-- a signed number of at most 2^60 in absolute size
abbrev pub within_limit : ℤ → Result ℤ LineCause
within_limit limit = if nat_le (unsigned_abs limit) (2 ^ 60) then Ok limit else Err BadNumber

abbrev pub limit_field : List ℕ → Result ℤ LineCause
limit_field word = and_then (amount_field word) within_limit

-- the number of a CPU of the layout
abbrev pub known_cpu : Header → ℕ → Result CpuId LineCause
known_cpu header n = if nat_lt n header.layout.cpus then Ok (record { number = n }) else Err UnknownLane

abbrev pub cpu_field : Header → List ℕ → Result CpuId LineCause
cpu_field header word = and_then (number_field word) (known_cpu header)

-- a place by its number, if it is known
abbrev pub known_place : Option ℕ → Result PlaceId LineCause
known_place place = ok_or (option_map (λ n. record { number = n }) place) UnknownPlace

-- the place that two words name: a node's number, and one of its zones or `node`
abbrev pub place_field : Header → List ℕ → List ℕ → Result PlaceId LineCause
place_field header node kind = and_then (number_field node) (λ n. known_place (place_named header.layout n kind))

-- the zone that two words name
abbrev pub zone_field : Header → List ℕ → List ℕ → Result PlaceId LineCause
zone_field header node kind = and_then (number_field node) (λ n. known_place (zone_named header.layout n kind))

-- the node that a number names
abbrev pub node_field : Header → List ℕ → Result PlaceId LineCause
node_field header node = and_then (number_field node) (λ n. known_place (node_place header.layout n))

-- the counter of a place that a word names
abbrev pub item_field : Header → PlaceId → List ℕ → Result CounterId LineCause
item_field header place word =
    ok_or (option_map (λ position. record { number = counter_at header.layout place.number position })
    (item_named header.layout header.items place.number word)) UnknownItem

-- the counter that three words name
abbrev pub counter_field : Header → List ℕ → List ℕ → List ℕ → Result CounterId LineCause
counter_field header node kind item = and_then (place_field header node kind) (λ place. item_field header place item)

-- the event that a word names
abbrev pub event_field : List ℕ → Result EventId LineCause
event_field word = ok_or (option_map (λ n. record { number = n }) (position (bytes_eq word) event_names)) UnknownItem

-- the percpu counter that a word names
abbrev pub pcpu_field : Header → List ℕ → Result PcpuId LineCause
pcpu_field header word =
    ok_or (option_map (λ n. record { number = n }) (position (bytes_eq word) (map (λ decl. decl.name) header.counters)))
    UnknownCounter

-- the system-wide value of the node item at a position, or of a zone item
abbrev pub node_value : Header → Option ℕ → Result ItemId LineCause
node_value header (Some position) = Ok (record { number = header.layout.positions + position })
node_value header None = Err UnknownItem

abbrev pub system_value : Header → Option ℕ → List ℕ → Result ItemId LineCause
system_value header (Some position) word = Ok (record { number = position })
system_value header None word = node_value header (position (bytes_eq word) (class_names true header.items))

-- the system-wide value that a word names
abbrev pub system_field : Header → List ℕ → Result ItemId LineCause
system_field header word = system_value header (position (bytes_eq word) (class_names false header.items)) word

-- the watermark that a word names
abbrev pub mark_named : List ℕ → Option WaterMark
mark_named word =
    if bytes_eq word (codes "min") then Some Min
    else if bytes_eq word (codes "low") then Some Low
    else if bytes_eq word (codes "high") then Some High
    else None

-- an amount in pages: of an item in bytes 4096 bytes are a page, and there is no part of one
abbrev pub in_pages : Header → CounterId → ℤ → Result ℤ LineCause
in_pages header counter amount =
    if is_in_bytes header counter.number
    then (if unsigned_abs amount % 4096 == 0 then Ok (int_div amount (pos 4096)) else Err NotPages)
    else Ok amount

-- the counter, if its item is in pages
abbrev pub page_counter : Header → CounterId → Result CounterId LineCause
page_counter header counter = if is_in_bytes header counter.number then Err NotPages else Ok counter
