-- Where zones, nodes, counters, items and groups stand in a layout.
use Rattle.std.specs.Prelude.{◌≡◌, ℕ, ◌+◌, ◌-◌, ◌*◌, ◌/◌, ◌%◌, ◌<◌, ◌≤◌, ◌==◌, nat_lt, if◌then◌else◌, ◌⊎◌, ◌↔◌, List}
use Rattle.std.specs.Prelude.{[], length, map, All, Contains, Option, None, slice_get, slice_index_or, option_map}
use Rattle.std.specs.Prelude.{position, IsPermutation}
use Rattle.std.specs.List.Sorted.{IsStrictlyIncreasing}
use Rattle.vms_base.specs.declared.kinds.ZoneKind.{ZoneKind}
use Rattle.vms_base.specs.declared.kinds.ZoneKind.TheVariants.{Dma, Dma32, Normal, Movable}
use Rattle.vms_base.specs.declared.kinds.ZoneName.{ZoneName}
use Rattle.vms_base.specs.declared.places.LayoutError.{LayoutError}
use Rattle.vms_base.specs.declared.places.LayoutError.TheVariants.{NoZone, TooManyZones, DoubledZone, BadCpus}

-- the zones and the nodes of a machine in the order of places, its number of CPUs, and the items of a place
pub record Shape : Type 0 where
  pub zones : List ZoneName
  pub nodes : List ℕ
  pub cpus : ℕ
  pub positions : ℕ

-- the kernel's zone index of a kind
abbrev pub zone_index : ZoneKind → ℕ
zone_index Dma = 0
zone_index Dma32 = 1
zone_index Normal = 2
zone_index Movable = 3

-- zones are ordered as these numbers are: by node, and then by kind
abbrev pub rank_of : ZoneName → ℕ
rank_of name = 4 * name.node + zone_index name.kind

-- the places: first the zones, then the nodes
abbrev pub place_count : Shape → ℕ
place_count shape = length shape.zones + length shape.nodes

-- a counter for each place and position
abbrev pub counter_count : Shape → ℕ
counter_count shape = shape.positions * place_count shape

-- eight counters share a word of differentials
abbrev pub group_count : Shape → ℕ
group_count shape = counter_count shape / 8

-- a system-wide value for each position of the zones, and one for each position of the nodes
abbrev pub item_count : Shape → ℕ
item_count shape = 2 * shape.positions

-- the number of the counter of a place at a position
abbrev pub counter_at : Shape → ℕ → ℕ → ℕ
counter_at shape place position = shape.positions * place + position

-- the place of a counter
abbrev pub place_of : Shape → ℕ → ℕ
place_of shape counter = counter / shape.positions

-- the position of a counter in its place
abbrev pub position_of : Shape → ℕ → ℕ
position_of shape counter = counter % shape.positions

-- the group of a counter
abbrev pub group_of : ℕ → ℕ
group_of counter = counter / 8

-- the first counter of a group
abbrev pub first_of_group : ℕ → ℕ
first_of_group group = 8 * group

-- the system-wide value of a counter's item: the values of the zone items come first
abbrev pub item_of : Shape → ℕ → ℕ
item_of shape counter =
    if nat_lt (place_of shape counter) (length shape.zones)
    then position_of shape counter
    else (shape.positions + position_of shape counter)

-- the number of a CPU of the layout
abbrev pub IsCpu : Shape → ℕ → Type 0
IsCpu shape cpu = cpu < shape.cpus

-- the number of a place of the layout
abbrev pub IsPlace : Shape → ℕ → Type 0
IsPlace shape place = place < place_count shape

-- the number of a place of the layout where a zone stands
abbrev pub IsZone : Shape → ℕ → Type 0
IsZone shape place = place < length shape.zones

-- the number of a place of the layout where a node stands
abbrev pub IsNode : Shape → ℕ → Type 0
IsNode shape place = (length shape.zones ≤ place) × (place < place_count shape)

-- the number of a counter of the layout
abbrev pub IsCounter : Shape → ℕ → Type 0
IsCounter shape counter = counter < counter_count shape

-- the number of a group of the layout
abbrev pub IsGroup : Shape → ℕ → Type 0
IsGroup shape group = group < group_count shape

-- the number of a system-wide value of the layout
abbrev pub IsItem : Shape → ℕ → Type 0
IsItem shape item = item < item_count shape

-- the zone at a place, if a zone stands there
abbrev pub zone_at : Shape → ℕ → Option ZoneName
zone_at shape place = slice_get shape.zones place

-- the node number at a place, if a node stands there
abbrev pub node_at : Shape → ℕ → Option ℕ
node_at shape place =
    if nat_lt place (length shape.zones) then None else slice_get shape.nodes (place - length shape.zones)

-- the number of the node of zone g
abbrev pub node_of_zone : Shape → ℕ → ℕ
node_of_zone shape g = slice_index_or (map (λ zone. zone.node) shape.zones) g 0

-- the place of a zone, if the layout has that zone
abbrev pub zone_place : Shape → ZoneName → Option ℕ
zone_place shape name = position (λ zone. rank_of zone == rank_of name) shape.zones

-- the place of a node, if the layout has that node
abbrev pub node_place : Shape → ℕ → Option ℕ
node_place shape number =
    option_map (λ index. length shape.zones + index) (position (λ node. node == number) shape.nodes)

-- a number for each CPU and each of `width` things stands in one list: those of CPU 0 first
abbrev pub cell : ℕ → ℕ → ℕ → ℕ
cell width cpu thing = cpu * width + thing

-- what is true of every layout
pub record IsLayout (shape : Shape) : Type 0 where
  pub some_zone : 0 < length shape.zones
  pub zones_most : length shape.zones ≤ 16
  pub zones_ascend : IsStrictlyIncreasing (map rank_of shape.zones)
  pub nodes_ascend : IsStrictlyIncreasing shape.nodes
  pub nodes_named : (node : ℕ) → Contains shape.nodes node ↔ Contains (map (λ zone. zone.node) shape.zones) node
  pub nodes_most : All (λ node. node ≤ 15) shape.nodes
  pub cpus_least : 1 ≤ shape.cpus
  pub cpus_most : shape.cpus ≤ 128
  pub positions : (shape.positions ≡ 8) ⊎ (shape.positions ≡ 16)
  pub narrow_cpus : shape.positions ≡ 8 → shape.cpus ≤ 64

-- the layout of these zones in any order, and of so many CPUs and positions
pub record LaysOut (zones : List ZoneName) (cpus positions : ℕ) (shape : Shape) : Type 0 where
  pub is_layout : IsLayout shape
  pub same_zones : IsPermutation zones shape.zones
  pub same_cpus : shape.cpus ≡ cpus
  pub same_positions : shape.positions ≡ positions

-- a place has 8 items where there may be 64 CPUs, and 16 where there may be 128
abbrev pub IsWidth : ℕ → ℕ → Type 0
IsWidth positions most = ((positions ≡ 8) × (most ≡ 64)) ⊎ ((positions ≡ 16) × (most ≡ 128))

-- one zone stands at two places of the list
pub record HasDoubled (zones : List ZoneName) : Type 0 where
  pub first : ℕ
  pub second : ℕ
  pub first_before : first < second
  pub second_within : second < length zones
  pub same : slice_get zones first ≡ slice_get zones second

-- why zones and a number of CPUs make no layout: each cause holds where the ones before it do not
abbrev pub IsRefused : ℕ → List ZoneName → ℕ → LayoutError → Type 0
IsRefused most zones cpus NoZone = zones ≡ []
IsRefused most zones cpus TooManyZones = 16 < length zones
IsRefused most zones cpus DoubledZone = (length zones ≤ 16) × HasDoubled zones
IsRefused most zones cpus BadCpus =
    (0 < length zones) × (length zones ≤ 16) × ¬ HasDoubled zones × ((cpus ≡ 0) ⊎ (most < cpus))
