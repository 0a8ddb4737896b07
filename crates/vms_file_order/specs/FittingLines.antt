-- What the next line of a script that fits finds in an open phase.
use Rattle.std.specs.Prelude.{◌≡◌, ℕ, ◌+◌, ◌≤◌, List}
use Rattle.vms_base.specs.declared.kinds.CpuState.TheVariants.{Online, Dead as IsDead}
use Rattle.vms_world.specs.Common.{most_volume, State, cpu_at, spent_on_counter, spent_on_event, spent_on_pcpu, volume}
use Rattle.vms_world.specs.Common.{Act, Lane, Cpu, Control, Line}
use Rattle.vms_text.specs.declared.acts.Act.TheVariants.{Dead}

-- what an act of CPU c changes stays within the most together with what these lines of the CPU change
pub record FitsBeside (lines : List Line) (c : ℕ) (act : Act) : Type 0 where
  pub counters : (k : ℕ) → volume (spent_on_counter k) c lines + spent_on_counter k act ≤ most_volume
  pub events : (e : ℕ) → volume (spent_on_event e) c lines + spent_on_event e act ≤ most_volume
  pub pcpu : (j : ℕ) → volume (spent_on_pcpu j) c lines + spent_on_pcpu j act ≤ most_volume

-- an act of a lane may follow these lines of a phase where the page counters are in this state: the CPU of the lane is
-- online and has room for what the act changes, and a CPU that it buries is dead
abbrev pub MayFollow : State → List Line → Lane → Act → Type 0
MayFollow s lines (Cpu c) act = (cpu_at s c.number ≡ Online) × FitsBeside lines c.number act
MayFollow s lines Control (Dead c) = cpu_at s c.number ≡ IsDead
MayFollow s lines Control _ = Unit {0}
