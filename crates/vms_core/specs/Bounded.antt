-- How large the numbers of a legal history may become.
use Rattle.std.specs.Prelude.{ℕ, ◌+◌, ◌*◌, ◌^◌, ◌<◌, ◌≤◌, nat_eq, ◌&&◌, [], ◌∷◌, if◌then◌else◌, Option, Some}
use Rattle.std.specs.Prelude.{unsigned_abs}
use Rattle.vms_history.specs.Common.{CpuId, IsCpu, IsCounter, IsItem, group_of, own, owner_in, most_volume}
use Rattle.vms_core.specs.declared.steps.Facts.{Facts}
use Rattle.vms_core.specs.declared.steps.Step.{Step}
use Rattle.vms_core.specs.declared.steps.Step.TheVariants.{Put, Take}
use Rattle.vms_core.specs.Cells.{value_at, system_at, diff_at, entry}
use Rattle.vms_core.specs.Changes.{carried_by}
use Rattle.vms_core.specs.Own.{carried, carried_of_item}
use Rattle.vms_core.specs.Pages.{History, state_after}
use Rattle.vms_core.specs.Steps.{role}
use Rattle.vms_core.specs.Totals.{spent}

-- the size of what a step of a pass that owns `who` moves out of the differential of CPU c for counter k
abbrev pub moved_out_by : Option CpuId → ℕ → ℕ → Step → ℕ
moved_out_by (Some d) c k (Put l w t delta how) =
    if nat_eq d.number c && nat_eq l.number k
    then unsigned_abs (carried_by how t (entry w.values l.number) delta)
    else 0
moved_out_by who c k (Take d j w) =
    if nat_eq d.number c && nat_eq j.number (group_of k) then unsigned_abs (entry w.values k) else 0
moved_out_by who c k _ = 0

-- the sizes of all amounts that left the differential of CPU c for counter k
abbrev pub moved_out : History → ℕ → ℕ → ℕ
moved_out [] c k = 0
moved_out (e ∷ h) c k = moved_out_by (owner_in role h e.caller) c k e.step + moved_out h c k

-- no CPU changed a counter by more than it may
abbrev pub KeepsVolumes : History → Type 0
KeepsVolumes h = (c k : ℕ) → spent h c k ≤ most_volume

-- what left a differential, and three times its size, are at most three times what its CPU spent on the counter and
-- its size in the base
abbrev pub BoundsMoves : Facts → History → Type 0
BoundsMoves facts h = (c k : ℕ) → IsCpu facts.layout c → IsCounter facts.layout k →
    moved_out h c k + 3 * unsigned_abs (diff_at (state_after facts h) c k)
    ≤ 3 * spent h c k + 3 * unsigned_abs (diff_at facts.base c k)

-- what every number of a legal history stays below in absolute size
abbrev pub size_limit : ℕ
size_limit = 2 ^ 62

-- global values, system-wide values, differentials, and what each caller carries for a counter and for an item
pub record StaysBelow (facts : Facts) (h : History) : Type 0 where
  pub values : (k : ℕ) → IsCounter facts.layout k → unsigned_abs (value_at (state_after facts h) k) < size_limit
  pub systems : (i : ℕ) → IsItem facts.layout i → unsigned_abs (system_at (state_after facts h) i) < size_limit
  pub diffs : (c k : ℕ) → IsCpu facts.layout c → IsCounter facts.layout k →
      unsigned_abs (diff_at (state_after facts h) c k) < size_limit
  pub carried : (p k : ℕ) → IsCounter facts.layout k → unsigned_abs (carried k (own h p)) < size_limit
  pub carried_of_items : (p i : ℕ) → IsItem facts.layout i →
      unsigned_abs (carried_of_item facts.layout i (own h p)) < size_limit
