-- What is true of every header.
use Rattle.std.specs.Prelude.{◌≡◌, ◌≢◌, ℕ, ◌≤◌, ◌<◌, ◌^◌, pos, unsigned_abs, Bool, true, false, not, cond, nat_lt}
use Rattle.std.specs.Prelude.{if◌then◌else◌, IsTrue, List, [], ◌++◌, length, map, filter, All, AllPairs, Contains}
use Rattle.std.specs.Prelude.{slice_index_or}
use Rattle.vms_base.specs.declared.headers.Decl.{Decl}
use Rattle.vms_base.specs.declared.headers.ItemDecl.{ItemDecl}
use Rattle.vms_base.specs.declared.headers.Header.{Header}
use Rattle.vms_base.specs.Names.{zone_items, node_items, is_name}
use Rattle.vms_base.specs.Places.{Shape, IsLayout, counter_count, place_of, position_of}
use Rattle.vms_base.specs.Sizes.{IsValidSize}

-- the names of declared items of one class: of the nodes where `node` is true, and else of the zones
abbrev pub declared_names : Bool → List ItemDecl → List (List ℕ)
declared_names node items = map (λ item. item.name) (filter (λ item. cond node item.node (not item.node)) items)

-- the names of the items of one class, by position
abbrev pub class_names : Bool → List ItemDecl → List (List ℕ)
class_names node items = (if node then node_items else zone_items) ++ declared_names node items

-- whether a counter's place is a node
abbrev pub is_of_node : Shape → ℕ → Bool
is_of_node shape counter = not (nat_lt (place_of shape counter) (length shape.zones))

-- an item has the counter's position, so that the counter has a name
abbrev pub IsNamed : Header → ℕ → Type 0
IsNamed header counter =
    position_of header.layout counter < length (class_names (is_of_node header.layout counter) header.items)

-- a declared percpu counter has a name of the form, and a batch of 1 to 65,536
pub record IsValidDecl (decl : Decl) : Type 0 where
  pub form : IsTrue (is_name decl.name)
  pub batch_least : 1 ≤ decl.batch
  pub batch_most : decl.batch ≤ 65536

-- a declared item has a name of the form that no fixed item has
pub record IsValidItem (item : ItemDecl) : Type 0 where
  pub form : IsTrue (is_name item.name)
  pub new : ¬ Contains (zone_items ++ node_items) item.name

-- what is true of every header
pub record IsHeader (header : Header) : Type 0 where
  pub is_layout : IsLayout header.layout
  -- a valid size for each zone
  pub sizes_length : length header.sizes ≡ length header.layout.zones
  pub sizes_valid : All IsValidSize header.sizes
  -- a base for each counter, which is 0 where no item has the counter's position
  pub bases_length : length header.bases ≡ counter_count header.layout
  pub bases_most : All (λ base. unsigned_abs base ≤ 2 ^ 48) header.bases
  pub bases_unnamed : (counter : ℕ) → ¬ IsNamed header counter → slice_index_or header.bases counter (pos 0) ≡ pos 0
  -- at most 16 percpu counters, each with a name of its own
  pub counters_most : length header.counters ≤ 16
  pub counters_valid : All IsValidDecl header.counters
  pub counters_differ : AllPairs ◌≢◌ (map (λ decl. decl.name) header.counters)
  -- at most eight items a class, each with a name of its own, and none where a place has eight positions
  pub items_wide : header.layout.positions ≡ 8 → header.items ≡ []
  pub zone_items_most : length (declared_names false header.items) ≤ 8
  pub node_items_most : length (declared_names true header.items) ≤ 8
  pub items_valid : All IsValidItem header.items
  pub items_differ : AllPairs ◌≢◌ (map (λ item. item.name) header.items)
