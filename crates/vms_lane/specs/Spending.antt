-- What the acts of a CPU's lane spend of the CPU's volumes.
use Rattle.std.specs.Prelude.{◌≡◌, ℕ, ◌+◌, ◌<◌, ◌≤◌, List, [], ◌∷◌, length, slice_index_or}
use Rattle.vms_world.specs.Common.{most_volume, spent_on_counter, spent_on_event, spent_on_pcpu, Act}
use Rattle.vms_tables.specs.declared.passes.CpuPasses.{CpuPasses}

-- how much of each page counter, event and percpu counter
pub record Spending : Type 0 where
  pub counters : ℕ → ℕ
  pub events : ℕ → ℕ
  pub pcpu : ℕ → ℕ

-- an act spends the absolute size of what it changes, a limited addition also where it adds nothing
abbrev pub spending_of : Act → Spending
spending_of act = record {
  counters = λ k. spent_on_counter k act;
  events = λ e. spent_on_event e act;
  pcpu = λ j. spent_on_pcpu j act;
}

-- a measure of acts, in sum
abbrev pub sum_of : (Act → ℕ) → List Act → ℕ
sum_of measure [] = 0
sum_of measure (act ∷ acts) = measure act + sum_of measure acts

-- what acts spend together
abbrev pub spent_by_all : List Act → Spending
spent_by_all acts = record {
  counters = λ k. sum_of (spent_on_counter k) acts;
  events = λ e. sum_of (spent_on_event e) acts;
  pcpu = λ j. sum_of (spent_on_pcpu j) acts;
}

-- each volume has room for so much more
abbrev pub HasRoom : (ℕ → ℕ) → List ℕ → Type 0
HasRoom amount volume = (k : ℕ) → k < length volume → slice_index_or volume k 0 + amount k ≤ most_volume

-- the volumes of the passes have room for this
pub record HaveRoom (spending : Spending) (passes : CpuPasses) : Type 0 where
  pub page : HasRoom spending.counters passes.page.volume
  pub event : HasRoom spending.events passes.event.volume
  pub pcpu : HasRoom spending.pcpu passes.pcpu.volume

-- each volume grew by so much
pub record HasGrown (amount : ℕ → ℕ) (new old : List ℕ) : Type 0 where
  pub one_each : length new ≡ length old
  pub each : (k : ℕ) → slice_index_or new k 0 ≡ slice_index_or old k 0 + amount k

-- the volumes of the passes grew by this
pub record HaveSpent (spending : Spending) (new old : CpuPasses) : Type 0 where
  pub page : HasGrown spending.counters new.page.volume old.page.volume
  pub event : HasGrown spending.events new.event.volume old.event.volume
  pub pcpu : HasGrown spending.pcpu new.pcpu.volume old.pcpu.volume
