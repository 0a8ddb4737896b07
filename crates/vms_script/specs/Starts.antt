-- What lines begin with: the states of the CPUs, and how much each has changed already.
use Rattle.std.specs.Prelude.{ℕ, ◌+◌, ◌≤◌, List, [], ◌∷◌}
use Rattle.vms_base.specs.declared.kinds.CpuState.{CpuState}
use Rattle.vms_base.specs.declared.kinds.CpuState.TheVariants.{Online as IsOnline}
use Rattle.vms_base.specs.Common.{most_volume}
use Rattle.vms_text.specs.declared.acts.Line.{Line}
use Rattle.vms_script.specs.Cpus.{state_from, state_past}
use Rattle.vms_script.specs.Volumes.{by_cpu, spent_on_counter, spent_on_event, spent_on_pcpu, volume_from}

-- by CPU its state, and by CPU and then page counter, event or percpu counter its volume
pub record Start : Type 0 where
  pub state : ℕ → CpuState
  pub counters : ℕ → ℕ → ℕ
  pub events : ℕ → ℕ → ℕ
  pub pcpu : ℕ → ℕ → ℕ

-- what a body begins with: every CPU is online, and has changed nothing
abbrev pub first_start : Start
first_start = record { state = λ c. IsOnline; counters = λ c k. 0; events = λ c e. 0; pcpu = λ c j. 0 }

-- what a line makes of a start, for the lines after it
abbrev pub start_past : Line → Start → Start
start_past line start = record {
  state = λ c. state_past c line (start.state c);
  counters = λ c k. by_cpu c (spent_on_counter k) line + start.counters c k;
  events = λ c e. by_cpu c (spent_on_event e) line + start.events c e;
  pcpu = λ c j. by_cpu c (spent_on_pcpu j) line + start.pcpu c j;
}

-- what the lines after these begin with, where these, the newest first, began with a start
abbrev pub start_after : Start → List Line → Start
start_after start lines = record {
  state = λ c. state_from (start.state c) c lines;
  counters = λ c k. volume_from (start.counters c k) (spent_on_counter k) c lines;
  events = λ c e. volume_from (start.events c e) (spent_on_event e) c lines;
  pcpu = λ c j. volume_from (start.pcpu c j) (spent_on_pcpu j) c lines;
}

-- the same of lines of which the oldest stands first
abbrev pub start_at_end : Start → List Line → Start
start_at_end start [] = start
start_at_end start (line ∷ lines) = start_at_end (start_past line start) lines

-- a start of which no volume is past the most
pub record IsWithin (start : Start) : Type 0 where
  pub counters : (c k : ℕ) → start.counters c k ≤ most_volume
  pub events : (c e : ℕ) → start.events c e ≤ most_volume
  pub pcpu : (c j : ℕ) → start.pcpu c j ≤ most_volume
