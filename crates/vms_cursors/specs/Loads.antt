-- The plan of what is left of a call that loads one value, at each position.
use Rattle.std.specs.Prelude.{ℕ}
use Rattle.vms_calls.specs.Common.{CounterId, ItemId, at_least_zero}
use Rattle.vms_plans.specs.Common.{Plan, ends, system_plan, value_plan}
use Rattle.vms_cursors.specs.declared.load_positions.LoadPosition.{LoadPosition}
use Rattle.vms_cursors.specs.declared.load_positions.LoadPosition.TheVariants.{Begun, Loaded}

abbrev pub value_at : CounterId → LoadPosition → Plan ℕ
value_at k Begun = value_plan k
value_at k (Loaded v) = ends (at_least_zero v)

abbrev pub system_at : ItemId → LoadPosition → Plan ℕ
system_at i Begun = system_plan i
system_at i (Loaded v) = ends (at_least_zero v)

-- the answer where the call has ended
abbrev pub load_answer : LoadPosition → ℕ
load_answer Begun = 0
load_answer (Loaded v) = at_least_zero v
