-- The plan of what is left of a change at each position.
use Rattle.vms_calls.specs.Common.{AddS, Shape, carried_by, entry, group_of, item_of}
use Rattle.vms_plans.specs.declared.due_steps.DueStep.TheVariants.{Exchanges, ExchangesZeros, LoadsGroup}
use Rattle.vms_plans.specs.Common.{Plan, carrying, change_plan, ends, exchanged_plan, found_plan, makes, makes_all}
use Rattle.vms_plans.specs.Common.{waits, won_plan}
use Rattle.vms_cursors.specs.declared.changes.Change.{Change}
use Rattle.vms_cursors.specs.declared.change_positions.ChangePosition.{ChangePosition}
use Rattle.vms_cursors.specs.declared.change_positions.ChangePosition.TheVariants.{Begun, Loaded, Found, Missed, Won}
use Rattle.vms_cursors.specs.declared.change_positions.ChangePosition.TheVariants.{Added, Ended}

abbrev pub change_at : Shape → Change → ChangePosition → Plan (Unit {0})
change_at shape change Begun = change_plan shape change.cpu change.counter change.delta change.mode
change_at shape change (Loaded t) = waits (LoadsGroup change.cpu (record { number = group_of change.counter.number }))
    (found_plan shape change.cpu change.counter change.delta change.mode t)
change_at shape change (Found t w) = waits (Exchanges change.counter w t change.delta change.mode)
    (exchanged_plan shape change.cpu change.counter change.delta change.mode t)
change_at shape change (Missed t) = waits (ExchangesZeros change.counter t change.delta change.mode)
    (won_plan shape change.cpu change.counter change.delta change.mode)
change_at shape change (Won t w) = makes_all (carrying shape change.counter
    (carried_by change.mode t (entry w.values change.counter.number) change.delta)) (ends tt)
change_at shape change (Added t w) = makes (AddS (record { number = item_of shape change.counter.number })
    (carried_by change.mode t (entry w.values change.counter.number) change.delta)) (ends tt)
change_at shape change Ended = ends tt
