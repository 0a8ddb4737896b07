-- Passes begin on CPUs in ascending order.
use Rattle.std.specs.Prelude.{◌≡◌, ℕ, ◌<◌, List, Some}
use Rattle.vms_calls.specs.Common.{CpuId, Event, Role, owner_in}

-- the CPUs that passes have owned are below this number
abbrev pub OwnsBelow : {K : Type 0} → (K → Role) → ℕ → List (Event K) → Type 0
OwnsBelow role least h = (q : ℕ) (c : CpuId) → owner_in role h q ≡ Some c → c.number < least
