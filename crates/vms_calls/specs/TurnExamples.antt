-- Steps of turns of kswapd on a machine of one CPU, one zone and one node, where the zone has no mark.
use Rattle.std.specs.Prelude.{ℕ, pos, false, List, [], ◌∷◌, codes, replicate, None}
use Rattle.vms_history.specs.Common.{Header, ItemDecl, PlaceId, Online, Absent, Normal}
use Rattle.vms_core.specs.declared.steps.Step.{Step}
use Rattle.vms_core.specs.declared.steps.Step.TheVariants.{LoadG, LoadM, LoadO, LoadA}
use Rattle.vms_core.specs.Common.{cpu, zone}

-- an item of the zones that counts pages
abbrev pub zone_item : List ℕ → ItemDecl
zone_item name = record { name = name; node = false; bytes = false }

-- a header of the machine with these items
abbrev pub header_with : List ItemDecl → Header
header_with items = record {
  layout = record { zones = record { node = 0; kind = Normal } ∷ []; nodes = 0 ∷ []; cpus = 1; positions = 16 };
  sizes = record { managed = 1000; min = 100; low = 130; high = 160 } ∷ [];
  bases = replicate 32 (pos 0);
  counters = [];
  items = items;
}

-- its zones count blocks of 16 pages
abbrev pub with_area : Header
with_area = header_with (zone_item (codes "area4") ∷ [])

-- the node's place
abbrev pub node : PlaceId
node = record { number = 1 }

-- a call on thresholds that finds the CPU online, nothing acknowledged and no mark
abbrev pub one_visit : List Step
one_visit = LoadO cpu Online ∷ LoadA cpu zone None ∷ LoadM zone 0 0 ∷ []

-- a watermark test that finds 190 free pages
abbrev pub one_look : List Step
one_look = LoadM zone 0 0 ∷ LoadG (record { number = 0 }) (pos 190) ∷ LoadM zone 0 0 ∷ []

-- a snapshot of the blocks of 16 pages that finds one and no CPU online
abbrev pub one_block : List Step
one_block = LoadG (record { number = 8 }) (pos 1) ∷ LoadO cpu Absent ∷ []
