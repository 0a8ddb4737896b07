-- Machines of four CPUs on which the stories are told.
use Rattle.std.specs.Prelude.{ℕ, ◌+◌, ◌*◌, ℤ, pos, List, [], ◌∷◌, ◌++◌, length, replicate, None}
use Rattle.vms_base.specs.declared.kinds.ZoneKind.TheVariants.{Movable, Normal}
use Rattle.vms_calls.specs.Common.{CpuState, Dead, Facts, Online, ZoneName, ZoneSize}

abbrev pub normal : ZoneName
normal = record { node = 0; kind = Normal }

abbrev pub movable : ZoneName
movable = record { node = 0; kind = Movable }

-- a zone of 1 GiB
abbrev pub sized : (low : ℕ) → ZoneSize
sized low = record { managed = 262144; min = 100; low = low; high = 150 }

-- 24 pages are between `min` and `low`
abbrev pub size : ZoneSize
size = sized 124

-- what one CPU hides: so many free pages, of each zone
abbrev pub of_one_zone : ℤ → List ℤ
of_one_zone hidden = hidden ∷ replicate 15 (pos 0)

abbrev pub of_two_zones : ℤ → List ℤ
of_two_zones hidden = (hidden ∷ replicate 7 (pos 0)) ++ (hidden ∷ replicate 15 (pos 0))

-- a machine whose four CPUs hide the same of each zone, under one threshold and one mark. Each value is 1,000
abbrev pub machine : List ZoneName → (low : ℕ) → List CpuState → List ℤ → (threshold mark : ℕ) → Facts
machine zones low cpus by_one threshold mark = record {
  layout = record { zones = zones; nodes = 0 ∷ []; cpus = 4; positions = 8 };
  sizes = replicate (length zones) (sized low);
  base = record {
    place = replicate (8 * (length zones + 1)) (pos 1000);
    system = replicate 16 (pos 1000);
    diff = by_one ++ (by_one ++ (by_one ++ by_one));
    threshold = replicate (4 * (length zones + 1)) threshold;
    mark = replicate (length zones) mark;
    cpu = cpus;
    acknowledged = replicate (4 * length zones) None;
    threshold_sets = replicate (4 * (length zones + 1)) 0;
    mark_sets = replicate (length zones) 0;
  };
}

abbrev pub four_cpus : Facts
four_cpus = machine (normal ∷ []) 124 (replicate 4 Online) (of_one_zone (pos 0)) 125 650

abbrev pub with_dead : Facts
with_dead = machine (normal ∷ []) 124 (Online ∷ Online ∷ Online ∷ Dead ∷ []) (of_one_zone (pos 20)) 20 230

abbrev pub with_two_zones : Facts
with_two_zones = machine (normal ∷ movable ∷ []) 124 (replicate 4 Online) (of_two_zones (pos 125)) 125 650

abbrev pub with_narrow_gap : Facts
with_narrow_gap = machine (normal ∷ []) 102 (replicate 4 Online) (of_one_zone (pos 0)) 1 154
