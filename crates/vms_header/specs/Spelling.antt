-- The one spelling of a header.
use Rattle.std.specs.Prelude.{ℕ, zero, suc, ◌==◌, if◌then◌else◌, ℤ, pos, List, [], ◌∷◌, ◌++◌, map, zip, flat_map, codes}
use Rattle.std.specs.Prelude.{decimal}
use Rattle.std.specs.Fmt.{signed_decimal}
use Rattle.vms_base.specs.declared.headers.Decl.{Decl}
use Rattle.vms_base.specs.declared.headers.Header.{Header}
use Rattle.vms_base.specs.declared.headers.ItemDecl.{ItemDecl}
use Rattle.vms_base.specs.declared.kinds.ZoneName.{ZoneName}
use Rattle.vms_base.specs.declared.kinds.ZoneSize.{ZoneSize}
use Rattle.vms_text.specs.Common.{counter_words, sentence, zone_words}

-- the lines of a header, as lists of words
abbrev pub version_words : Header → List (List ℕ)
version_words header = codes "vmtrace" ∷ (if header.layout.positions == 16 then codes "2" else codes "1") ∷ []

abbrev pub cpus_words : Header → List (List ℕ)
cpus_words header = codes "cpus" ∷ decimal header.layout.cpus ∷ []

abbrev pub item_words : ItemDecl → List (List ℕ)
item_words item = codes "item" ∷ (if item.node then codes "node" else codes "zone") ∷ item.name
    ∷ (if item.bytes then codes "bytes" ∷ [] else [])

abbrev pub zone_line_words : ZoneName × ZoneSize → List (List ℕ)
zone_line_words (zone, size) = codes "zone" ∷ zone_words zone
    ++ decimal size.managed ∷ decimal size.min ∷ decimal size.low ∷ decimal size.high ∷ []

-- the base line of a counter, unless its base is 0
abbrev pub base_line_words : Header → ℕ → ℤ → List (List (List ℕ))
base_line_words header counter (pos zero) = []
base_line_words header counter value = (codes "base" ∷ counter_words header counter ++ signed_decimal value ∷ []) ∷ []

-- the base lines of the counters from this one on
abbrev pub base_lines_from : Header → ℕ → List ℤ → List (List (List ℕ))
base_lines_from header counter [] = []
base_lines_from header counter (value ∷ values) =
    base_line_words header counter value ++ base_lines_from header (suc counter) values

abbrev pub counter_line_words : Decl → List (List ℕ)
counter_line_words decl = codes "counter" ∷ decl.name ∷ decimal decl.batch ∷ []

-- the lines of a header: the zones in the order of places, then a base line for each counter whose base isn't 0, then
-- the percpu counters, always with their batch
abbrev pub header_words : Header → List (List (List ℕ))
header_words header = version_words header ∷ cpus_words header ∷ map item_words header.items
    ++ map zone_line_words (zip header.layout.zones header.sizes) ++ base_lines_from header 0 header.bases
    ++ map counter_line_words header.counters ++ (codes "go" ∷ []) ∷ []

-- a header in its one spelling
abbrev pub spelled_header : Header → List ℕ
spelled_header header = flat_map sentence (header_words header)
