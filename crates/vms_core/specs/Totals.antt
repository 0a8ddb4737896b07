-- What a whole history changed, and the thresholds that it used last.
use Rattle.std.specs.Prelude.{ℕ, ◌+◌, nat_eq, ◌&&◌, ℤ, pos, ◌+ℤ◌, List, [], ◌∷◌, if◌then◌else◌, Option, Some}
use Rattle.std.specs.Prelude.{unsigned_abs}
use Rattle.vms_history.specs.Common.{CpuId, Shape, group_of, item_of, counter_count, total, owner_in, sum_below}
use Rattle.vms_history.specs.declared.events.Event.{Event}
use Rattle.vms_core.specs.declared.states.State.{State}
use Rattle.vms_core.specs.declared.steps.Facts.{Facts}
use Rattle.vms_core.specs.declared.steps.Step.{Step}
use Rattle.vms_core.specs.declared.steps.Step.TheVariants.{Put, Take}
use Rattle.vms_core.specs.Cells.{value_at, system_at, diff_at}
use Rattle.vms_core.specs.Steps.{role}

-- what a step changes counter k by: the delta of a put
abbrev pub change_of : ℕ → Step → ℤ
change_of k (Put l w t delta how) = if nat_eq l.number k then delta else pos 0
change_of k _ = pos 0

-- what a step changes an item by: the delta of a put on one of its counters
abbrev pub change_of_item : Shape → ℕ → Step → ℤ
change_of_item shape i (Put l w t delta how) = if nat_eq (item_of shape l.number) i then delta else pos 0
change_of_item shape i _ = pos 0

-- the global values of all counters of item i
abbrev pub values_of_item : Shape → State → ℕ → ℤ
values_of_item shape s i =
    sum_below (λ k. if nat_eq (item_of shape k) i then value_at s k else pos 0) (counter_count shape)

-- the differentials of all CPUs for counter k
abbrev pub differentials : Shape → State → ℕ → ℤ
differentials shape s k = sum_below (λ c. diff_at s c k) shape.cpus

-- the differentials of all CPUs for all counters of item i
abbrev pub differentials_of_item : Shape → State → ℕ → ℤ
differentials_of_item shape s i =
    sum_below (λ k. if nat_eq (item_of shape k) i then differentials shape s k else pos 0) (counter_count shape)

-- the base and every change since: what a counter is in truth, and what an item is
abbrev pub true_total : Facts → List (Event Step) → ℕ → ℤ
true_total facts h k = (value_at facts.base k +ℤ differentials facts.layout facts.base k) +ℤ total (change_of k) h

abbrev pub true_total_of_item : Facts → List (Event Step) → ℕ → ℤ
true_total_of_item facts h i =
    (system_at facts.base i +ℤ differentials_of_item facts.layout facts.base i)
    +ℤ total (change_of_item facts.layout i) h

-- what a step of a pass that owns `who` spends of the volume of CPU c on counter k
abbrev pub spent_by : Option CpuId → ℕ → ℕ → Step → ℕ
spent_by (Some d) c k (Put l w t delta how) =
    if nat_eq d.number c && nat_eq l.number k then unsigned_abs delta else 0
spent_by _ c k _ = 0

-- the absolute sum of the changes that CPU c made to counter k
abbrev pub spent : List (Event Step) → ℕ → ℕ → ℕ
spent [] c k = 0
spent (e ∷ h) c k = spent_by (owner_in role h e.caller) c k e.step + spent h c k

-- the size of what a step changes counter k by
abbrev pub change_size : ℕ → Step → ℤ
change_size k (Put l w t delta how) = if nat_eq l.number k then pos (unsigned_abs delta) else pos 0
change_size k _ = pos 0

-- the threshold that bounds the differential of CPU c for counter k: that of the last put on it, 0 after a later take
-- of its group, and before both the size of the differential in the base
abbrev pub last_after : Option CpuId → ℕ → ℕ → Step → ℕ → ℕ
last_after (Some d) c k (Put l w t delta how) before =
    if nat_eq d.number c && nat_eq l.number k then t else before
last_after who c k (Take d j w) before =
    if nat_eq d.number c && nat_eq j.number (group_of k) then 0 else before
last_after who c k _ before = before

abbrev pub last_threshold : Facts → List (Event Step) → ℕ → ℕ → ℕ
last_threshold facts [] c k = unsigned_abs (diff_at facts.base c k)
last_threshold facts (e ∷ h) c k =
    last_after (owner_in role h e.caller) c k e.step (last_threshold facts h c k)
