-- For other crates too: the two thresholds that a call chooses are of 1 to 125, where its rules give such thresholds.
use Rattle.std.proofs.Common.{ℕ, ◌≤◌, sym, subst}
use Rattle.vms_history.specs.Common.{ZoneSize, IsValidSize, most_threshold, GivesThresholds}
use Rattle.vms_calls.specs.Common.{Choice, ByNormal, ByPressure}

-- a threshold of this range
abbrev InRange : ℕ → Type 0
InRange t = (1 ≤ t) × (t ≤ most_threshold)

-- both thresholds of a choice are
abbrev pub GivesBoth : Choice → Type 0
GivesBoth Chooses = (size : ZoneSize) (online t usual : ℕ) → IsValidSize size → 1 ≤ online → online ≤ 128
    → Chooses size online t usual → InRange t × InRange usual

pub normal-gives : (normal : ZoneSize → ℕ → ℕ → Type 0) → GivesThresholds normal → GivesBoth (ByNormal normal)
normal-gives normal normals size online t usual valid some few chosen =
    let range = normals size online t valid some few chosen.0 in (range, subst InRange (sym chosen.1) range)

pub pressure-gives : (pressure normal : ZoneSize → ℕ → ℕ → Type 0) → GivesThresholds pressure → GivesThresholds normal
    → GivesBoth (ByPressure pressure normal)
pressure-gives pressure normal pressures normals size online t usual valid some few chosen =
    (pressures size online t valid some few chosen.0, normals size online usual valid some few chosen.1)
