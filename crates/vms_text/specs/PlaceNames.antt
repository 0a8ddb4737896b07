-- The names of kinds, places and items, as the words of a line give them.
use Rattle.std.specs.Prelude.{ℕ, ◌-◌, nat_lt, Bool, false, not, cond, if◌then◌else◌, List, length, filter, codes}
use Rattle.std.specs.Prelude.{bytes_eq, position, slice_get, Option, Some, None, option_and_then}
use Rattle.vms_base.specs.declared.headers.Header.{Header}
use Rattle.vms_base.specs.declared.headers.ItemDecl.{ItemDecl}
use Rattle.vms_base.specs.declared.kinds.ZoneKind.{ZoneKind}
use Rattle.vms_base.specs.declared.kinds.ZoneKind.TheVariants.{Dma, Dma32, Normal, Movable}
use Rattle.vms_base.specs.Common.{IsNamed, class_names, is_of_node, IsCounter, Shape, zone_place, node_place}
use Rattle.vms_base.specs.Common.{position_of}

-- the kind of zones that a word names
abbrev pub kind_named : List ℕ → Option ZoneKind
kind_named word =
    if bytes_eq word (codes "DMA") then Some Dma
    else if bytes_eq word (codes "DMA32") then Some Dma32
    else if bytes_eq word (codes "Normal") then Some Normal
    else if bytes_eq word (codes "Movable") then Some Movable
    else None

-- the zone of a node that a word names
abbrev pub zone_named : Shape → ℕ → List ℕ → Option ℕ
zone_named shape node word =
    option_and_then (λ kind. zone_place shape (record { node = node; kind = kind })) (kind_named word)

-- the place of a node that a word names: one of its zones, or `node` for the node itself
abbrev pub place_named : Shape → ℕ → List ℕ → Option ℕ
place_named shape node word =
    if bytes_eq word (codes "node") then node_place shape node else zone_named shape node word

-- whether a node stands at a place
abbrev pub is_node_place : Shape → ℕ → Bool
is_node_place shape place = not (nat_lt place (length shape.zones))

-- the position of the item of a place that a word names
abbrev pub item_named : Shape → List ItemDecl → ℕ → List ℕ → Option ℕ
item_named shape items place word = position (bytes_eq word) (class_names (is_node_place shape place) items)

-- the declared items of the nodes, or else of the zones
abbrev pub declared_items : Bool → List ItemDecl → List ItemDecl
declared_items node items = filter (λ item. cond node item.node (not item.node)) items

-- whether an item, if there is one, is in bytes
abbrev pub is_item_in_bytes : Option ItemDecl → Bool
is_item_in_bytes (Some item) = item.bytes
is_item_in_bytes None = false

-- whether a trace gives the amounts of a counter in bytes: its item was declared so; the fixed items are in pages
abbrev pub is_in_bytes : Header → ℕ → Bool
is_in_bytes header counter =
    if nat_lt (position_of header.layout counter) 8 then false
    else is_item_in_bytes (slice_get (declared_items (is_of_node header.layout counter) header.items)
    (position_of header.layout counter - 8))

-- a counter of the layout that has a name
abbrev pub IsKnown : Header → ℕ → Type 0
IsKnown header counter = IsCounter header.layout counter × IsNamed header counter
