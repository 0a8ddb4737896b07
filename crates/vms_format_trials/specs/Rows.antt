-- What a definition gives beside what it has to give.
use Rattle.std.specs.Prelude.{◌≡◌, ℕ, List, map}
use Rattle.vms_base.specs.declared.kinds.ZoneSize.{ZoneSize}

-- a value and the one that was worked out by hand
pub record Row : Type 0 where
  pub given : ℕ
  pub wanted : ℕ

-- every row has the value that was worked out
abbrev pub AreRight : List Row → Type 0
AreRight rows = map (λ row. row.given) rows ≡ map (λ row. row.wanted) rows

abbrev pub sized : (managed min low high : ℕ) → ZoneSize
sized managed min low high = record { managed = managed; min = min; low = low; high = high }
