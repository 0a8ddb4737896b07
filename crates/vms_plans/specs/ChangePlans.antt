-- The plan of a change.
use Rattle.std.specs.Prelude.{ℕ, zero, ℤ, pos, List, [], ◌∷◌}
use Rattle.vms_calls.specs.Common.{CounterId, CpuId, Mode, Shape, place_of, group_of, item_of, Step, LoadT, LoadD, Put}
use Rattle.vms_calls.specs.Common.{Miss, AddG, AddS, entry, carried_by}
use Rattle.vms_plans.specs.declared.due_steps.DueStep.TheVariants.{LoadsThreshold, LoadsGroup, Exchanges}
use Rattle.vms_plans.specs.declared.due_steps.DueStep.TheVariants.{ExchangesZeros}
use Rattle.vms_plans.specs.Plans.{Plan, ends, refuses, waits, makes_all}

-- the additions that carry an amount to the global values: none of 0
abbrev pub carrying : Shape → CounterId → ℤ → List Step
carrying shape k (pos zero) = []
carrying shape k z = AddG k z ∷ AddS (record { number = item_of shape k.number }) z ∷ []

module _ (shape : Shape) (cpu : CpuId) (k : CounterId) (delta : ℤ) (how : Mode) where
  -- what follows an exchange that won
  abbrev pub won_plan : Step → Plan (Unit {0})
  won_plan (Put l w t d m) = makes_all (carrying shape k (carried_by how t (entry w.values k.number) delta)) (ends tt)
  won_plan _ = refuses

  -- what follows an exchange under threshold t: one that lost is made again with eight zeros
  abbrev pub exchanged_plan : ℕ → Step → Plan (Unit {0})
  exchanged_plan t (Miss j w) = waits (ExchangesZeros k t delta how) won_plan
  exchanged_plan t step = won_plan step

  -- what follows the load of the group
  abbrev pub found_plan : ℕ → Step → Plan (Unit {0})
  found_plan t (LoadD c j w) = waits (Exchanges k w t delta how) (exchanged_plan t)
  found_plan t _ = refuses

  -- what follows the load of the threshold
  abbrev pub loaded_plan : Step → Plan (Unit {0})
  loaded_plan (LoadT g t a) = waits (LoadsGroup cpu (record { number = group_of k.number })) (found_plan t)
  loaded_plan _ = refuses

  -- a change by the owner of a CPU
  abbrev pub change_plan : Plan (Unit {0})
  change_plan = waits (LoadsThreshold (record { number = place_of shape k.number })) loaded_plan
