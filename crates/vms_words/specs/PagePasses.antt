-- What contracts see of a pass that owns a CPU, and which steps leave what a pass keeps beside its events.
use Rattle.std.specs.Prelude.{◌≡◌, ℕ, ◌≤◌, List, length, slice_index_or, Some}
use Rattle.vms_calls.specs.Common.{CpuId, Shape, IsCounter, counter_count, most_volume, Facts, Step, Put, SetT, SetM}
use Rattle.vms_calls.specs.Common.{SetO, LoadA, pages, History, spent}
use Rattle.vms_seats.specs.Common.{Pass, IsLive}

-- the pass, and what its CPU has changed each counter by since the run began
pub record OwningPass : Type 0 where
  pub pass : Pass Facts Step
  pub volume : List ℕ

-- there is a volume for each counter. It holds what the CPU has spent in the history, and is at most what one run
-- allows
pub record HoldsSpending (shape : Shape) (h : History) (cpu : ℕ) (volume : List ℕ) : Type 0 where
  pub one_each : length volume ≡ counter_count shape
  pub spent_within : (k : ℕ) → IsCounter shape k → spent h cpu k ≤ slice_index_or volume k 0
  pub most : (k : ℕ) → IsCounter shape k → slice_index_or volume k 0 ≤ most_volume

-- a pass that lives and owns this CPU, and volumes that hold what it spent
pub record IsOwningPass (pass : Pass Facts Step) (cpu : CpuId) (volume : List ℕ) : Type 0 where
  pub live : IsLive pages pass
  pub owns : pass.cpu ≡ Some cpu
  pub holds : HoldsSpending pass.facts.layout pass.seen cpu.number volume

-- every step but a put spends nothing of a volume
abbrev pub SpendsNothing : Step → Type 0
SpendsNothing (Put k w t delta how) = ⊥
SpendsNothing _ = Unit {0}

-- a step that spends nothing, and leaves thresholds, marks, the CPUs' states and the peaks
abbrev pub KeepsNumbers : Step → Type 0
KeepsNumbers (Put k w t delta how) = ⊥
KeepsNumbers (SetT c g t) = ⊥
KeepsNumbers (SetM g m) = ⊥
KeepsNumbers (SetO c) = ⊥
KeepsNumbers (LoadA c g x) = ⊥
KeepsNumbers _ = Unit {0}
