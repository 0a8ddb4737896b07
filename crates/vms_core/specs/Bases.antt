-- The states that a history may begin with.
use Rattle.std.specs.Prelude.{◌≡◌, ℕ, ◌^◌, ◌<◌, ◌≤◌, pos, [], length, map, All, None, unsigned_abs}
use Rattle.vms_history.specs.Common.{Online, Absent, HasOnline, Shape, IsLayout, IsCpu, IsPlace, IsZone, IsCounter}
use Rattle.vms_history.specs.Common.{IsItem, IsValidSize, size_at, Covers, most_threshold}
use Rattle.vms_core.specs.declared.states.State.{State}
use Rattle.vms_core.specs.declared.steps.Facts.{Facts}
use Rattle.vms_core.specs.Cells.{HasShape, value_at, system_at, diff_at, threshold_at, threshold_sets_at, mark_at}
use Rattle.vms_core.specs.Cells.{mark_sets_at, cpu_at, acknowledged_at}
use Rattle.vms_core.specs.Peaks.{peak_sum}

-- a state between two phases: its numbers are in their ranges, an absent CPU hides nothing, and nothing was set or
-- acknowledged yet
pub record IsOpening (shape : Shape) (s : State) : Type 0 where
  pub shaped : HasShape shape s
  pub some_online : HasOnline shape s.cpu
  pub values : (k : ℕ) → IsCounter shape k → unsigned_abs (value_at s k) ≤ 2 ^ 60
  pub systems : (i : ℕ) → IsItem shape i → unsigned_abs (system_at s i) ≤ 2 ^ 60
  pub diffs : (c k : ℕ) → IsCpu shape c → IsCounter shape k → unsigned_abs (diff_at s c k) ≤ most_threshold
  pub absent : (c k : ℕ) → IsCpu shape c → cpu_at s c ≡ Absent → IsCounter shape k → diff_at s c k ≡ pos 0
  pub thresholds : (c g : ℕ) → IsCpu shape c → IsPlace shape g → threshold_at s c g ≤ most_threshold
  pub online : (c g : ℕ) → IsCpu shape c → cpu_at s c ≡ Online → IsPlace shape g → 1 ≤ threshold_at s c g
  pub marks : (g : ℕ) → IsZone shape g → mark_at s g < 2 ^ 43
  pub unacknowledged : (c g : ℕ) → IsCpu shape c → IsZone shape g → acknowledged_at s c g ≡ None
  pub unset_thresholds : (c g : ℕ) → IsCpu shape c → IsPlace shape g → threshold_sets_at s c g ≡ 0
  pub unset_marks : (g : ℕ) → IsZone shape g → mark_sets_at s g ≡ 0

-- a state as the next phase begins with it: nothing acknowledged, and nothing set
abbrev pub settled : State → State
settled s = record s {
  acknowledged = map (λ _. None) s.acknowledged;
  threshold_sets = map (λ _. 0) s.threshold_sets;
  mark_sets = map (λ _. 0) s.mark_sets;
}

-- the same layout and sizes, with a settled state as the base
abbrev pub next_facts : Facts → State → Facts
next_facts facts s = record facts { base = settled s }

-- facts that a history may begin with: the sizes fit the layout, the state may open a phase, and every mark covers what
-- the CPUs may hide
pub record IsBase (facts : Facts) : Type 0 where
  pub layout : IsLayout facts.layout
  pub one_size_each : length facts.sizes ≡ length facts.layout.zones
  pub sizes : All IsValidSize facts.sizes
  pub opening : IsOpening facts.layout facts.base
  pub covered : (g : ℕ) → IsZone facts.layout g →
      Covers (size_at facts.sizes g) (mark_at facts.base g) (peak_sum facts g [])
