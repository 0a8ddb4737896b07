-- The zone items of a header that count free blocks, by the size of a block (`struct free_area` of the kernel).
use Rattle.std.specs.Prelude.{ℕ, suc, ◌+◌, ◌&&◌, not, List, [], ◌∷◌, ◌++◌, length, filter, position, codes, nat_le}
use Rattle.std.specs.Prelude.{Option, Some, None}
use Rattle.std.specs.Str.{bytes_eq}
use Rattle.vms_base.specs.declared.headers.ItemDecl.{ItemDecl}
use Rattle.vms_base.specs.Names.{zone_items}

-- the zone item that counts the free blocks of 2^order pages: its position in a zone
pub record Area : Type 0 where
  pub order : ℕ
  pub position : ℕ

-- the names of the items for the orders from 1 on
abbrev pub area_names : List (List ℕ)
area_names =
    codes "area1" ∷ codes "area2" ∷ codes "area3" ∷ codes "area4" ∷ codes "area5"
    ∷ codes "area6" ∷ codes "area7" ∷ codes "area8" ∷ codes "area9" ∷ codes "area10" ∷ []

-- the area of an order, from where its item stands among the declared items of the zones
abbrev pub area_at : ℕ → Option ℕ → List Area
area_at order None = []
area_at order (Some index) = record { order = order; position = length zone_items + index } ∷ []

-- the areas of these names, the first of which is for this order: a zone item counts blocks where it isn't in bytes
abbrev pub areas_named : List ItemDecl → ℕ → List (List ℕ) → List Area
areas_named items order [] = []
areas_named items order (name ∷ names) =
    area_at order (position (λ item. bytes_eq item.name name && not item.bytes) (filter (λ item. not item.node) items))
    ++ areas_named items (suc order) names

-- the areas of a header's items, by ascending order, whatever the order in which the items are declared
abbrev pub areas_of : List ItemDecl → List Area
areas_of items = areas_named items 1 area_names

-- those for blocks that are at least as large
abbrev pub areas_from : ℕ → List Area → List Area
areas_from order areas = filter (λ area. nat_le order area.order) areas
