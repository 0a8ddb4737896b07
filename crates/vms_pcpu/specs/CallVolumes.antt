-- What a call of a pass makes of the volumes of its CPU.
use Rattle.std.specs.Prelude.{◌+◌, ℕ, List, slice_index, slice_set, unsigned_abs}
use Rattle.vms_pcpu_core.specs.declared.pcpu_calls.PcpuCall.{PcpuCall}
use Rattle.vms_pcpu_core.specs.declared.pcpu_calls.PcpuCall.TheVariants.{Add, LimitedAdd}

-- the volume of the call's counter grows by what the call may add
abbrev pub with_spent : PcpuCall → List ℕ → List ℕ
with_spent (Add j amount) volume = slice_set volume j.number (slice_index volume j.number + unsigned_abs amount)
with_spent (LimitedAdd j limit amount) volume =
    slice_set volume j.number (slice_index volume j.number + unsigned_abs amount)
with_spent _ volume = volume
