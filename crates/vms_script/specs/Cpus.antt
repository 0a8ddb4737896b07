-- Which CPUs are online after the lines that count, the newest first.
use Rattle.std.specs.Prelude.{ℕ, zero, suc, nat_eq, if◌then◌else◌, List, [], ◌∷◌}
use Rattle.vms_base.specs.declared.kinds.CpuState.{CpuState}
use Rattle.vms_base.specs.declared.kinds.CpuState.TheVariants.{Online as IsOnline, Dead as IsDead, Absent}
use Rattle.vms_base.specs.Common.{is_online}
use Rattle.vms_text.specs.declared.acts.Act.TheVariants.{Dead}
use Rattle.vms_text.specs.declared.acts.Boundary.TheVariants.{Offline, Online}
use Rattle.vms_text.specs.declared.acts.Line.{Line}
use Rattle.vms_text.specs.declared.acts.Line.TheVariants.{Lane, Boundary}

-- what a line makes of the state of CPU c: `offline` makes it dead, `dead` makes it absent, `online` makes it online
abbrev pub state_past : ℕ → Line → CpuState → CpuState
state_past c (Boundary (Offline cpu)) before = if nat_eq cpu.number c then IsDead else before
state_past c (Boundary (Online cpu)) before = if nat_eq cpu.number c then IsOnline else before
state_past c (Lane lane (Dead cpu)) before = if nat_eq cpu.number c then Absent else before
state_past c _ before = before

-- the state of CPU c after these lines, from the state that it had before them
abbrev pub state_from : CpuState → ℕ → List Line → CpuState
state_from before c [] = before
state_from before c (line ∷ lines) = state_past c line (state_from before c lines)

-- the state of CPU c after these lines of a body: at first every CPU is online
abbrev pub cpu_state : ℕ → List Line → CpuState
cpu_state c lines = state_from IsOnline c lines

-- 1 for the state of a CPU that is online, and 0 for another
abbrev pub online_count : CpuState → ℕ
online_count IsOnline = 1
online_count _ = 0

-- how many of the CPUs below n are online, where each has its state
abbrev pub online_among : ℕ → (ℕ → CpuState) → ℕ
online_among zero state = 0
online_among (suc n) state = if is_online (state n) then suc (online_among n state) else online_among n state

-- how many of them are online after these lines of a body
abbrev pub online_below : ℕ → List Line → ℕ
online_below n lines = online_among n (λ c. cpu_state c lines)
