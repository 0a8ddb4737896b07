-- The CPUs that were found online, from flags by CPU.
use Rattle.std.specs.Prelude.{ℕ, zero, suc, ◌+◌, Bool, true, false, List, [], ◌∷◌, if◌then◌else◌, slice_index_or}
use Rattle.vms_calls.specs.Common.{CpuId}

abbrev pub is_flagged : List Bool → ℕ → Bool
is_flagged flags c = slice_index_or flags c false

-- those among n CPUs from CPU c on, in order
abbrev pub flagged : List Bool → ℕ → ℕ → List CpuId
flagged flags c zero = []
flagged flags c (suc n) =
    if is_flagged flags c then record { number = c } ∷ flagged flags (suc c) n else flagged flags (suc c) n

-- one more where something holds
abbrev pub one_more : Bool → ℕ → ℕ
one_more true n = n + 1
one_more false n = n
