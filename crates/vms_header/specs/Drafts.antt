-- A draft is what the lines of a header say, up to some line after `cpus`. The last draft makes the header.
use Rattle.std.specs.Prelude.{ℕ, nat_lt, nat_eq, Bool, not, if◌then◌else◌, ℤ, pos, List, [], ◌∷◌, map, filter}
use Rattle.std.specs.Prelude.{replicate, slice_set, sum_by, Option, Some, None}
use Rattle.vms_base.specs.declared.headers.Decl.{Decl}
use Rattle.vms_base.specs.declared.headers.Header.{Header}
use Rattle.vms_base.specs.declared.headers.ItemDecl.{ItemDecl}
use Rattle.vms_base.specs.declared.kinds.ZoneName.{ZoneName}
use Rattle.vms_base.specs.declared.kinds.ZoneSize.{ZoneSize}
pub use Rattle.vms_header.specs.declared.drafts.Base.{Base}
pub use Rattle.vms_header.specs.declared.drafts.Share.{Share}
pub use Rattle.vms_header.specs.declared.drafts.Zone.{Zone}
use Rattle.vms_base.specs.Common.{Shape, rank_of, counter_count, zone_marks_of}

-- the kinds of lines after `cpus`, in their order
pub data Section : Type 0 where
  AtCpus : Section
  AtWatermarks : Section
  AtItems : Section
  AtZones : Section
  AtBases : Section
  AtCounters : Section

-- the number of a section in that order
abbrev pub section_index : Section → ℕ
section_index AtCpus = 0
section_index AtWatermarks = 1
section_index AtItems = 2
section_index AtZones = 3
section_index AtBases = 4
section_index AtCounters = 5

-- a draft: whether the version is 2 (`wide`), and the section of the last line that isn't blank. The zones stand by
-- node and then by kind, and their marks are 0 under a `watermarks` line. The bases stand newest first, the declared
-- items and percpu counters in the order of their lines.
pub record Draft : Type 0 where
  pub wide : Bool
  pub cpus : ℕ
  pub section : Section
  pub share : Option Share
  pub items : List ItemDecl
  pub zones : List Zone
  pub bases : List Base
  pub counters : List Decl

-- the draft after the line `cpus`
abbrev pub first_draft : Bool → ℕ → Draft
first_draft wide cpus = record {
  wide = wide;
  cpus = cpus;
  section = AtCpus;
  share = None;
  items = [];
  zones = [];
  bases = [];
  counters = [];
}

-- the most CPUs, and the items of a place, of a version
abbrev pub most_cpus : Bool → ℕ
most_cpus wide = if wide then 128 else 64

abbrev pub positions_of : Bool → ℕ
positions_of wide = if wide then 16 else 8

-- the zones with one more, by node and then by kind
abbrev pub with_zone : Zone → List Zone → List Zone
with_zone zone [] = zone ∷ []
with_zone zone (other ∷ zones) =
    if nat_lt (rank_of zone.name) (rank_of other.name) then zone ∷ other ∷ zones else (other ∷ with_zone zone zones)

-- the numbers of the zones' nodes, each once, in the order of the zones
abbrev pub nodes_of : List ZoneName → List ℕ
nodes_of [] = []
nodes_of (zone ∷ zones) = zone.node ∷ filter (λ node. not (nat_eq node zone.node)) (nodes_of zones)

-- the names of the zones, in the order of places
abbrev pub names_of : List Zone → List ZoneName
names_of zones = map (λ zone. zone.name) zones

-- the layout of a draft
abbrev pub shape_of : Draft → Shape
shape_of draft = record {
  zones = names_of draft.zones;
  nodes = nodes_of (names_of draft.zones);
  cpus = draft.cpus;
  positions = positions_of draft.wide;
}

-- all managed pages
abbrev pub managed_pages : List Zone → ℕ
managed_pages zones = sum_by (λ zone. zone.size.managed) zones

-- a zone's size, of so many pages in all zones: as its line says it, or with the marks of a `watermarks` line
abbrev pub size_under : Option Share → ZoneSize → ℕ → ZoneSize
size_under None size total = size
size_under (Some share) size total = zone_marks_of share.kbytes share.scale size.managed total

-- the sizes of the zones: as their lines say them, or with the marks of a `watermarks` line
abbrev pub sizes_under : Option Share → List Zone → List ZoneSize
sizes_under None zones = map (λ zone. zone.size) zones
sizes_under (Some share) zones =
    map (λ zone. zone_marks_of share.kbytes share.scale zone.size.managed (managed_pages zones)) zones

-- so many base values, 0 where no line says one
abbrev pub bases_of : ℕ → List Base → List ℤ
bases_of count [] = replicate count (pos 0)
bases_of count (base ∷ bases) = slice_set (bases_of count bases) base.counter base.value

-- the header of a draft
abbrev pub header_of : Draft → Header
header_of draft = record {
  layout = shape_of draft;
  sizes = sizes_under draft.share draft.zones;
  bases = bases_of (counter_count (shape_of draft)) draft.bases;
  counters = draft.counters;
  items = draft.items;
}
