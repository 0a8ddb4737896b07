-- The states of CPUs in a list, and which CPUs are online or present by it.
use Rattle.std.specs.Prelude.{◌≡◌, ℕ, suc, Bool, true, false, List, [], ◌∷◌, if◌then◌else◌, slice_index_or, Option}
use Rattle.std.specs.Prelude.{Some, None}
use Rattle.vms_base.specs.declared.ids.CpuId.{CpuId}
use Rattle.vms_base.specs.declared.kinds.CpuState.{CpuState}
use Rattle.vms_base.specs.declared.kinds.CpuState.TheVariants.{Online, Absent}
use Rattle.vms_base.specs.Places.{Shape, IsCpu}

-- whether CPU c is online, dead or absent; past the end of the list a CPU is absent
abbrev pub state_at : List CpuState → ℕ → CpuState
state_at states c = slice_index_or states c Absent

abbrev pub is_online : CpuState → Bool
is_online Online = true
is_online _ = false

-- a CPU that is online or dead is present
abbrev pub is_present : CpuState → Bool
is_present Absent = false
is_present _ = true

-- the CPUs that are online, in ascending order, where the first state is that of CPU c
abbrev pub online_from : ℕ → List CpuState → List CpuId
online_from c [] = []
online_from c (x ∷ xs) = if is_online x then record { number = c } ∷ online_from (suc c) xs else online_from (suc c) xs

-- the CPUs that are present, in ascending order
abbrev pub present_from : ℕ → List CpuState → List CpuId
present_from c [] = []
present_from c (x ∷ xs) =
    if is_present x then record { number = c } ∷ present_from (suc c) xs else present_from (suc c) xs

-- some CPU of the layout is online
abbrev pub HasOnline : Shape → List CpuState → Type 0
HasOnline shape states = (c : ℕ) × IsCpu shape c × (state_at states c ≡ Online)

-- whose pass may begin: one that owns a CPU of the layout that is online, or a control pass
abbrev pub MayOwnCpu : Shape → List CpuState → Option CpuId → Type 0
MayOwnCpu shape states (Some c) = IsCpu shape c.number × (state_at states c.number ≡ Online)
MayOwnCpu shape states None = Unit {0}
