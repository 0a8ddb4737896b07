-- The definitions that other crates and this one's proofs cite, passed on from one place. Declares nothing.
pub use Rattle.vms_plans.specs.Plans.{Fits, Plan, Runs, and_then, asks, either, ends, makes, makes_all, recorded}
pub use Rattle.vms_plans.specs.Plans.{refuses, waits}
pub use Rattle.vms_plans.specs.ChangePlans.{carrying, change_plan, exchanged_plan, found_plan, loaded_plan, won_plan}
pub use Rattle.vms_plans.specs.FoldPlans.{acknowledged_plan, fold_plan, groups_plan, place_groups, place_plan}
pub use Rattle.vms_plans.specs.FoldPlans.{places_plan, taken_plan}
pub use Rattle.vms_plans.specs.LookPlans.{frees_plan, looks_plan, snapshot_plan, system_plan, test_plan, tested}
pub use Rattle.vms_plans.specs.LookPlans.{value_plan}
pub use Rattle.vms_plans.specs.RatingPlans.{burial_plan, mark_plan, marked_plan, node_plan, node_steps, rates_plan}
pub use Rattle.vms_plans.specs.RatingPlans.{refresh_plan, state_told, states_plan, visit_plan, visits_plan}
pub use Rattle.vms_plans.specs.TurnPlans.{balance_plan, blocks_plan, further_plan, order_plan, ordered, settles_plan}
pub use Rattle.vms_plans.specs.TurnPlans.{turn_plan, zones_plan}
pub use Rattle.vms_plans.specs.PagePlans.{PlansAreCalls, answering, plan_of}
pub use Rattle.vms_plans.specs.OpenPlans.{IsOpen, MakesCall, PlansAreOpen, SomeStepFits}
