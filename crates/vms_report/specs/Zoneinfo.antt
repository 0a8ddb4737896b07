-- What `/proc/zoneinfo` tells of a world: each zone and then each node, with what each CPU holds of it.
use Rattle.std.specs.Prelude.{ℕ, ◌+◌, List, [], ◌∷◌, ◌++◌, codes, decimal, flat_map, length, map}
use Rattle.std.specs.Fmt.{signed_decimal}
use Rattle.std.specs.List.{enumerate_from}
use Rattle.vms_world.specs.Common.{Header, CpuState, ZoneName, ZoneSize, present_from, kind_names, counter_at}
use Rattle.vms_world.specs.Common.{zone_index, size_at, reserve_of, at_least_zero, cpu_at, diff_at, mark_at}
use Rattle.vms_world.specs.Common.{threshold_at, value_at, entry_if_any, sentence}
use Rattle.vms_base.specs.declared.kinds.CpuState.TheVariants.{Dead}
use Rattle.vms_world.specs.declared.worlds.World.{World}
use Rattle.vms_report.specs.Items.{indented, items_at}

-- the value at a position of place g, in pages, and 0 where it is negative
abbrev pub told_value : Header → World → ℕ → ℕ → ℕ
told_value header w g p = at_least_zero (value_at w.pages (counter_at header.layout g p))

-- the watermarks and the managed pages of a zone
abbrev pub mark_lines : ZoneSize → List (List (List ℕ))
mark_lines size =
    (codes "min" ∷ decimal size.min ∷ []) ∷ (codes "low" ∷ decimal size.low ∷ [])
    ∷ (codes "high" ∷ decimal size.high ∷ []) ∷ (codes "managed" ∷ decimal size.managed ∷ []) ∷ []

-- what zone g keeps back from requests that may use the zones up to each index
abbrev pub protection_words : Header → ℕ → List (List ℕ)
protection_words header g =
    codes "protection" ∷ map (λ most. decimal (reserve_of header.layout header.sizes g most)) (0 ∷ 1 ∷ 2 ∷ 3 ∷ [])

-- the lines that only zones have, all in pages
abbrev pub size_lines : Header → World → ℕ → List (List (List ℕ))
size_lines header w g =
    (codes "pages" ∷ codes "free" ∷ decimal (told_value header w g 0) ∷ [])
    ∷ mark_lines (size_at header.sizes g)
    ++ (codes "drift" ∷ codes "mark" ∷ decimal (mark_at w.pages g) ∷ []) ∷ protection_words header g ∷ []

-- `NAME VALUE` for each item of place g
abbrev pub item_lines : Header → World → ℕ → List (List (List ℕ))
item_lines header w g = map (λ (p, name). name ∷ decimal (told_value header w g p) ∷ []) (items_at header g)

abbrev pub dead_words : CpuState → List (List ℕ)
dead_words Dead = codes "dead" ∷ []
dead_words _ = []

-- the threshold of CPU c in place g, and its differential for each item
abbrev pub cpu_words : Header → World → ℕ → ℕ → List (List ℕ)
cpu_words header w g c =
    codes "cpu" ∷ decimal c ∷ dead_words (cpu_at w.pages c)
    ++ codes "threshold" ∷ decimal (threshold_at w.pages c g)
    ∷ codes "differentials"
    ∷ map (λ (p, name). signed_decimal (diff_at w.pages c (counter_at header.layout g p))) (items_at header g)

-- a line for each CPU that is present
abbrev pub cpu_lines : Header → World → ℕ → List (List (List ℕ))
cpu_lines header w g = map (λ cpu. cpu_words header w g cpu.number) (present_from 0 w.pages.cpu)

-- the first line of a zone, and of a node
abbrev pub zone_heading : ZoneName → List (List ℕ)
zone_heading zone =
    codes "Node" ∷ (decimal zone.node ++ codes ",") ∷ codes "zone" ∷ entry_if_any kind_names (zone_index zone.kind)

abbrev pub node_heading : ℕ → List (List ℕ)
node_heading node = codes "Node" ∷ (decimal node ++ codes ",") ∷ codes "all" ∷ codes "zones" ∷ []

-- what stands of a zone, and of a node
abbrev pub zone_text : Header → World → ℕ × ZoneName → List ℕ
zone_text header w (g, zone) = sentence (zone_heading zone)
    ++ flat_map indented (size_lines header w g ++ item_lines header w g ++ cpu_lines header w g)

abbrev pub node_text : Header → World → ℕ × ℕ → List ℕ
node_text header w (n, node) = sentence (node_heading node)
    ++ flat_map indented (item_lines header w (length header.layout.zones + n)
    ++ cpu_lines header w (length header.layout.zones + n))

-- all zones, then all nodes
abbrev pub zoneinfo_text : Header → World → List ℕ
zoneinfo_text header w = flat_map (zone_text header w) (enumerate_from 0 header.layout.zones)
    ++ flat_map (node_text header w) (enumerate_from 0 header.layout.nodes)
