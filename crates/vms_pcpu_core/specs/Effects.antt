-- What a step makes of single numbers and locks of a state.
use Rattle.std.specs.Prelude.{ℕ, nat_eq, ◌&&◌, Bool, true, false, ℤ, pos, ◌+ℤ◌, if◌then◌else◌, Option}
use Rattle.vms_history.specs.Common.{CpuId}
use Rattle.vms_pcpu_core.specs.declared.steps.PcpuStep.{PcpuStep}
use Rattle.vms_pcpu_core.specs.declared.steps.PcpuStep.TheVariants.{AddL, Won, TakeL, AddC, Unlock}
use Rattle.vms_pcpu_core.specs.Totals.{is_owned}

-- the shared part of counter j after a step
abbrev pub count_after : ℕ → PcpuStep → ℤ → ℤ
count_after j (AddC i a) before = if nat_eq i.number j then before +ℤ a else before
count_after j _ before = before

-- the local part of CPU c for counter j after a step of a pass that owns `who`
abbrev pub local_after : Option CpuId → ℕ → ℕ → PcpuStep → ℤ → ℤ
local_after who c j (AddL i a) before = if is_owned who c && nat_eq i.number j then before +ℤ a else before
local_after who c j (TakeL i d v) before = if nat_eq d.number c && nat_eq i.number j then pos 0 else before
local_after who c j _ before = before

-- whether the lock of counter j is held after a step
abbrev pub held_after : ℕ → PcpuStep → Bool → Bool
held_after j (Won i) before = if nat_eq i.number j then true else before
held_after j (Unlock i) before = if nat_eq i.number j then false else before
held_after j _ before = before
