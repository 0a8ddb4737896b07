-- The values that the words of a line after `cpus` give by themselves, before they are judged beside the lines above.
use Rattle.std.specs.Prelude.{ℕ, ◌^◌, List, [], ◌∷◌, Bool, false, ok_or, Result, Ok, Err}
use Rattle.vms_base.specs.declared.headers.ItemDecl.{ItemDecl}
use Rattle.vms_base.specs.declared.kinds.ZoneName.{ZoneName}
use Rattle.vms_base.specs.declared.kinds.ZoneSize.{ZoneSize}
use Rattle.vms_header.specs.declared.causes.HeaderCause.{HeaderCause}
use Rattle.vms_header.specs.declared.causes.HeaderCause.TheVariants.{UnknownName, Malformed}
use Rattle.vms_header.specs.Drafts.{Zone, Share, Base, Draft, shape_of}
use Rattle.vms_header.specs.Sections.{header_number, any_number, name_field, class_field, unit_field, kind_field}
use Rattle.vms_header.specs.Sections.{value_field, base_counter}
use Rattle.vms_text.specs.Common.{place_named, and_then}

-- `KBYTES SCALE`
abbrev pub share_words : List (List ℕ) → Result Share HeaderCause
share_words (kbytes ∷ []) =
    and_then (header_number 0 (2 ^ 40) kbytes) (λ kbytes. Ok (record { kbytes = kbytes; scale = 10 }))
share_words (kbytes ∷ scale ∷ []) =
    and_then (header_number 0 (2 ^ 40) kbytes) (λ kbytes. and_then (header_number 1 3000 scale) (λ scale.
    Ok (record { kbytes = kbytes; scale = scale })))
share_words _ = Err Malformed

-- `NODE KIND`
abbrev pub zone_name : List ℕ → List ℕ → Result ZoneName HeaderCause
zone_name node kind =
    and_then (header_number 0 15 node) (λ node. and_then (kind_field kind) (λ kind.
    Ok (record { node = node; kind = kind })))

-- `MANAGED MIN LOW HIGH`
abbrev pub zone_size : List ℕ → List ℕ → List ℕ → List ℕ → Result ZoneSize HeaderCause
zone_size managed least middle most =
    and_then (header_number 1 (2 ^ 40) managed) (λ managed. and_then (header_number 0 (2 ^ 40) least) (λ least.
    and_then (header_number 0 (2 ^ 40) middle) (λ middle. and_then (header_number 0 (2 ^ 40) most) (λ most.
    Ok (record { managed = managed; min = least; low = middle; high = most })))))

-- `NODE KIND MANAGED MIN LOW HIGH`
abbrev pub read_zone : List (List ℕ) → Result Zone HeaderCause
read_zone (node ∷ kind ∷ managed ∷ least ∷ middle ∷ most ∷ []) =
    and_then (zone_name node kind) (λ name. and_then (zone_size managed least middle most) (λ size.
    Ok (record { name = name; size = size })))
read_zone _ = Err Malformed

-- `NODE KIND MANAGED`
abbrev pub unmarked_zone_words : List (List ℕ) → Result Zone HeaderCause
unmarked_zone_words (node ∷ kind ∷ managed ∷ []) =
    and_then (zone_name node kind) (λ name. and_then (header_number 1 (2 ^ 40) managed) (λ managed.
    Ok (record { name = name; size = record { managed = managed; min = 0; low = 0; high = 0 } })))
unmarked_zone_words _ = Err Malformed

-- `CLASS NAME` and whether the item is in bytes, unless that word is at fault
abbrev pub item_from_words : List ℕ → List ℕ → Result Bool HeaderCause → Result ItemDecl HeaderCause
item_from_words class name unit =
    and_then (class_field class) (λ node. and_then (name_field name) (λ name. and_then unit (λ bytes.
    Ok (record { name = name; node = node; bytes = bytes }))))

-- `CLASS NAME` or `CLASS NAME bytes`
abbrev pub read_item : List (List ℕ) → Result ItemDecl HeaderCause
read_item (class ∷ name ∷ []) = item_from_words class name (Ok false)
read_item (class ∷ name ∷ unit ∷ []) = item_from_words class name (unit_field unit)
read_item _ = Err Malformed

-- `PLACE ITEM VALUE`, of the places and items of a draft
abbrev pub base_words : Draft → List ℕ → List ℕ → List ℕ → List ℕ → Result Base HeaderCause
base_words draft node kind item value =
    and_then (any_number node) (λ node. and_then (ok_or (place_named (shape_of draft) node kind) UnknownName) (λ place.
    and_then (base_counter draft place item) (λ counter. and_then (value_field value) (λ value.
    Ok (record { counter = counter; value = value })))))

-- BATCH, if it stands there
abbrev pub batch_words : List (List ℕ) → ℕ → Result ℕ HeaderCause
batch_words [] usual = Ok usual
batch_words (batch ∷ words) usual = any_number batch
