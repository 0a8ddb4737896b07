-- The steps of calls that gave a counter's lock up: loads, and one try that found it held. They change nothing.
use Rattle.std.specs.Prelude.{◌≡◌, ◌≢◌, ℕ, ◌≤◌, ℤ, pos, ◌+ℤ◌, List, [], ◌∷◌, ◌++◌, unsigned_abs}
use Rattle.vms_history.specs.Common.{CpuId, PcpuId}
use Rattle.vms_pcpu_core.specs.declared.steps.PcpuStep.{PcpuStep}
use Rattle.vms_pcpu_core.specs.declared.steps.PcpuStep.TheVariants.{LoadL, Missed}
use Rattle.vms_pcpu_core.specs.Common.{Probes}

-- an addition needs the lock where the local part reaches the batch
abbrev pub GivesUpAdd : ℕ → CpuId → PcpuId → ℤ → List PcpuStep → Type 0
GivesUpAdd batch own j amount steps =
    (l : ℤ) × (batch ≤ unsigned_abs (l +ℤ amount)) × (steps ≡ LoadL j own l ∷ Missed j ∷ [])

-- a limited addition needs it where what it finds without it doesn't decide
abbrev pub GivesUpLimitedAdd : ℕ → ℕ → CpuId → PcpuId → ℤ → ℤ → List PcpuStep → Type 0
GivesUpLimitedAdd batch unknown own j limit amount steps =
    (probing : List PcpuStep) × (amount ≢ pos 0) × Probes batch unknown limit own j amount probing
    × (steps ≡ probing ++ Missed j ∷ [])

-- any other call needs it at once
abbrev pub GivesUp : PcpuId → List PcpuStep → Type 0
GivesUp j steps = steps ≡ Missed j ∷ []
