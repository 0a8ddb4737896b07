-- The formulas at sizes whose values were computed by hand from the kernel's code.
use Rattle.std.proofs.Common.{◌≡◌, ℕ, List, [], ◌∷◌, refl}
use Rattle.vms_base.specs.declared.kinds.ZoneKind.TheVariants.{Dma32, Normal}
use Rattle.vms_base.specs.declared.kinds.ZoneSize.{ZoneSize}
use Rattle.vms_base.specs.Numbers.{highest_bit}
use Rattle.vms_base.specs.Common.{Shape, normal_threshold_of, pressure_threshold_of, linux_mark_of, cover_mark_of}
use Rattle.vms_base.specs.Common.{zone_marks_of, reserve_of}

abbrev sized : ℕ → ℕ → ZoneSize
sized managed low = record { managed = managed; min = 100; low = low; high = 150 }

normal_threshold-values : ((normal_threshold_of (sized 262144 125) 2 ≡ 20)
    × (normal_threshold_of (sized 32767 125) 16 ≡ 10) × (normal_threshold_of (sized 4194304 125) 64 ≡ 125))
unfolding highest_bit
normal_threshold-values = (refl, refl, refl)

pressure_threshold-values : (pressure_threshold_of (sized 262144 125) 2 ≡ 12)
    × (pressure_threshold_of (sized 262144 100) 2 ≡ 1)
pressure_threshold-values = (refl, refl)

linux_mark-values : (linux_mark_of (sized 262144 125) 2 20 ≡ 190) × (linux_mark_of (sized 262144 140) 2 20 ≡ 0)
linux_mark-values = (refl, refl)

cover_mark-values : (cover_mark_of (sized 262144 125) 0 25 ≡ 0) × (cover_mark_of (sized 262144 125) 0 38 ≡ 188)
    × (cover_mark_of (sized 262144 125) 190 40 ≡ 190)
cover_mark-values = (refl, refl, refl)

-- 4096 KiB kept free on a machine of 1 GiB of DMA32 and 3 GiB of Normal
abbrev machine : Shape
machine = record {
  zones = record { node = 0; kind = Dma32 } ∷ record { node = 0; kind = Normal } ∷ [];
  nodes = 0 ∷ [];
  cpus = 2;
  positions = 8;
}

abbrev sizes : List ZoneSize
sizes = zone_marks_of 4096 10 262144 1048576 ∷ zone_marks_of 4096 10 786432 1048576 ∷ []

zone_marks-values : sizes
    ≡ (record { managed = 262144; min = 256; low = 518; high = 780 }
    ∷ record { managed = 786432; min = 768; low = 1554; high = 2340 } ∷ [])
zone_marks-values = refl

reserve-values : (reserve_of machine sizes 0 1 ≡ 0) × (reserve_of machine sizes 0 2 ≡ 3072)
    × (reserve_of machine sizes 0 3 ≡ 3072) × (reserve_of machine sizes 1 3 ≡ 0)
reserve-values = (refl, refl, refl, refl)
