-- The lines of a header after `cpus`, one kind each. A line gives the draft with what it says, or the first cause why
-- it is at fault.
use Rattle.std.specs.Prelude.{ℕ, ◌*◌, ◌^◌, nat_lt, nat_le, nat_eq, max, ◌&&◌, ◌||◌, Bool, true, false, if◌then◌else◌, ℤ}
use Rattle.std.specs.Prelude.{unsigned_abs, List, [], ◌∷◌, ◌++◌, length, map, codes, bytes_eq, Option, Some, None}
use Rattle.std.specs.Prelude.{ok_or, Result, Ok, Err}
use Rattle.std.specs.List.{list_any}
use Rattle.vms_base.specs.declared.headers.ItemDecl.{ItemDecl}
use Rattle.vms_base.specs.declared.kinds.ZoneKind.{ZoneKind}
use Rattle.vms_base.specs.Common.{is_name, zone_items, node_items, rank_of, counter_at}
use Rattle.vms_text.specs.Common.{number_within, unsigned_of, signed_of, kind_named, place_named, item_named}
use Rattle.vms_text.specs.Common.{declared_items, and_then}
use Rattle.vms_header.specs.declared.causes.HeaderCause.{HeaderCause}
use Rattle.vms_header.specs.declared.causes.HeaderCause.TheVariants.{BadNumber, NoZone, DoubledZone, TooManyZones}
use Rattle.vms_header.specs.declared.causes.HeaderCause.TheVariants.{BadMarks, UnknownName, DoubledCounter, BadBatch}
use Rattle.vms_header.specs.declared.causes.HeaderCause.TheVariants.{Malformed, TooManyCounters, DoubledItem}
use Rattle.vms_header.specs.declared.causes.HeaderCause.TheVariants.{TooManyItems}
use Rattle.vms_header.specs.Drafts.{Zone, Share, Draft, with_zone, shape_of}
use Rattle.vms_header.specs.Drafts.Section.{AtWatermarks, AtItems, AtZones, AtBases, AtCounters}

-- a number from this to that
abbrev pub header_number : ℕ → ℕ → List ℕ → Result ℕ HeaderCause
header_number least most word = ok_or (number_within least most word) BadNumber

-- a number of 64 bits
abbrev pub any_number : List ℕ → Result ℕ HeaderCause
any_number word = ok_or (unsigned_of word) BadNumber

-- a name of the form
abbrev pub name_field : List ℕ → Result (List ℕ) HeaderCause
name_field word = if is_name word then Ok word else Err UnknownName

-- `watermarks KBYTES SCALE`, where SCALE is 10 if it is left out
abbrev pub watermarks_row : Draft → List (List ℕ) → Result Draft HeaderCause
watermarks_row draft (kbytes ∷ []) =
    and_then (header_number 0 (2 ^ 40) kbytes) (λ kbytes.
    Ok (record draft { section = AtWatermarks; share = Some (record { kbytes = kbytes; scale = 10 }) }))
watermarks_row draft (kbytes ∷ scale ∷ []) =
    and_then (header_number 0 (2 ^ 40) kbytes) (λ kbytes. and_then (header_number 1 3000 scale) (λ scale.
    Ok (record draft { section = AtWatermarks; share = Some (record { kbytes = kbytes; scale = scale }) })))
watermarks_row draft _ = Err Malformed

-- whether a class word names the nodes' items
abbrev pub class_field : List ℕ → Result Bool HeaderCause
class_field word =
    if bytes_eq word (codes "zone") then Ok false
    else if bytes_eq word (codes "node") then Ok true
    else Err UnknownName

-- the word after an item's name
abbrev pub unit_field : List ℕ → Result Bool HeaderCause
unit_field word = if bytes_eq word (codes "bytes") then Ok true else Err UnknownName

-- whether some item has this name: a fixed one of either class, or a declared one
abbrev pub is_item_name : List ItemDecl → List ℕ → Bool
is_item_name items name = list_any (bytes_eq name) (zone_items ++ node_items ++ map (λ item. item.name) items)

-- the draft with one item more
abbrev pub draft_with_item : Draft → ItemDecl → Result Draft HeaderCause
draft_with_item draft item =
    if is_item_name draft.items item.name then Err DoubledItem
    else if nat_le 8 (length (declared_items item.node draft.items)) then Err TooManyItems
    else Ok (record draft { section = AtItems; items = draft.items ++ item ∷ [] })

-- `item CLASS NAME` or `item CLASS NAME bytes`
abbrev pub item_row : Draft → List (List ℕ) → Result Draft HeaderCause
item_row draft (class ∷ name ∷ []) =
    and_then (class_field class) (λ node. and_then (name_field name) (λ name.
    draft_with_item draft (record { name = name; node = node; bytes = false })))
item_row draft (class ∷ name ∷ unit ∷ []) =
    and_then (class_field class) (λ node. and_then (name_field name) (λ name. and_then (unit_field unit) (λ bytes.
    draft_with_item draft (record { name = name; node = node; bytes = bytes }))))
item_row draft _ = Err Malformed

-- the kind of zones that a word names
abbrev pub kind_field : List ℕ → Result ZoneKind HeaderCause
kind_field word = ok_or (kind_named word) UnknownName

-- the draft with one zone more
abbrev pub with_new_zone : Draft → Zone → Result Draft HeaderCause
with_new_zone draft zone =
    if list_any (λ other. nat_eq (rank_of other.name) (rank_of zone.name)) draft.zones then Err DoubledZone
    else if nat_le 16 (length draft.zones) then Err TooManyZones
    else Ok (record draft { section = AtZones; zones = with_zone zone draft.zones })

-- marks that rise
abbrev pub rising : Draft → Zone → Result Draft HeaderCause
rising draft zone =
    if nat_le zone.size.min zone.size.low && nat_le zone.size.low zone.size.high
    then with_new_zone draft zone else Err BadMarks

-- `zone NODE KIND MANAGED MIN LOW HIGH`
abbrev pub zone_row : Draft → List (List ℕ) → Result Draft HeaderCause
zone_row draft (node ∷ kind ∷ managed ∷ least ∷ middle ∷ most ∷ []) =
    and_then (header_number 0 15 node) (λ node. and_then (kind_field kind) (λ kind.
    and_then (header_number 1 (2 ^ 40) managed) (λ managed.
    and_then (header_number 0 (2 ^ 40) least) (λ least. and_then (header_number 0 (2 ^ 40) middle) (λ middle.
    and_then (header_number 0 (2 ^ 40) most) (λ most.
    rising draft (record {
      name = record { node = node; kind = kind };
      size = record { managed = managed; min = least; low = middle; high = most };
    })))))))
zone_row draft _ = Err Malformed

-- `zone NODE KIND MANAGED`, where a `watermarks` line gives the marks
abbrev pub unmarked_zone_row : Draft → List (List ℕ) → Result Draft HeaderCause
unmarked_zone_row draft (node ∷ kind ∷ managed ∷ []) =
    and_then (header_number 0 15 node) (λ node. and_then (kind_field kind) (λ kind.
    and_then (header_number 1 (2 ^ 40) managed) (λ managed.
    with_new_zone draft (record {
      name = record { node = node; kind = kind };
      size = record { managed = managed; min = 0; low = 0; high = 0 };
    }))))
unmarked_zone_row draft _ = Err Malformed

abbrev pub any_zone_row : Draft → Option Share → List (List ℕ) → Result Draft HeaderCause
any_zone_row draft None fields = zone_row draft fields
any_zone_row draft (Some share) fields = unmarked_zone_row draft fields

-- a line that is due only after a zone line
abbrev pub after_zones : Draft → Result Draft HeaderCause → Result Draft HeaderCause
after_zones draft result = if nat_eq (length draft.zones) 0 then Err NoZone else result

-- a base value of at most 2^48 in absolute size
abbrev pub value_in_range : ℤ → Result ℤ HeaderCause
value_in_range value = if nat_le (unsigned_abs value) (2 ^ 48) then Ok value else Err BadNumber

abbrev pub value_field : List ℕ → Result ℤ HeaderCause
value_field word = and_then (ok_or (signed_of word) BadNumber) value_in_range

-- the draft with the base of one counter more
abbrev pub with_base : Draft → ℕ → ℤ → Result Draft HeaderCause
with_base draft counter value =
    if list_any (λ base. nat_eq base.counter counter) draft.bases then Err DoubledCounter
    else Ok (record draft { section = AtBases; bases = record { counter = counter; value = value } ∷ draft.bases })

-- the counter of a place that a word names
abbrev pub base_counter : Draft → ℕ → List ℕ → Result ℕ HeaderCause
base_counter draft place item =
    and_then (ok_or (item_named (shape_of draft) draft.items place item) UnknownName) (λ position.
    Ok (counter_at (shape_of draft) place position))

-- `base PLACE ITEM VALUE`
abbrev pub base_row : Draft → List (List ℕ) → Result Draft HeaderCause
base_row draft (node ∷ kind ∷ item ∷ value ∷ []) =
    after_zones draft (and_then (any_number node) (λ node.
    and_then (ok_or (place_named (shape_of draft) node kind) UnknownName) (λ place.
    and_then (base_counter draft place item) (λ counter. and_then (value_field value) (λ value.
    with_base draft counter value)))))
base_row draft _ = Err Malformed

-- the draft with one percpu counter more
abbrev pub with_counter : Draft → List ℕ → ℕ → Result Draft HeaderCause
with_counter draft name batch =
    if list_any (λ decl. bytes_eq name decl.name) draft.counters then Err DoubledCounter
    else if nat_lt batch 1 || nat_lt 65536 batch then Err BadBatch
    else if nat_le 16 (length draft.counters) then Err TooManyCounters
    else Ok (record draft {
      section = AtCounters;
      counters = draft.counters ++ record { name = name; batch = batch } ∷ [];
    })

-- `counter NAME BATCH`, where BATCH is twice the CPUs and at least 32 if it is left out
abbrev pub counter_row : Draft → List (List ℕ) → Result Draft HeaderCause
counter_row draft (name ∷ []) =
    after_zones draft (and_then (name_field name) (λ name. with_counter draft name (max 32 (2 * draft.cpus))))
counter_row draft (name ∷ batch ∷ []) =
    after_zones draft (and_then (name_field name) (λ name. and_then (any_number batch) (λ batch.
    with_counter draft name batch)))
counter_row draft _ = Err Malformed
