-- How a call that loads one value goes on.
use Rattle.std.proofs.Common.{◌≡◌, ℤ, refl}
use Rattle.std.specs.Prelude.{Some, None}
use Rattle.vms_calls.specs.Common.{CounterId, ItemId, LoadG, LoadS, Step, at_least_zero}
use Rattle.vms_calls.specs.LookReadings.{value_told}
use Rattle.vms_plans.specs.declared.due_steps.DueStep.TheVariants.{LoadsSystem, LoadsValue}
use Rattle.vms_plans.specs.Common.{ends}
use Rattle.vms_cursors.specs.Cursors.{GoesOn, Stops}
use Rattle.vms_cursors.specs.Loads.{system_at, value_at}
use Rattle.vms_cursors.specs.StepReadings.{system_in, value_in}
use Rattle.vms_cursors.specs.declared.load_positions.LoadPosition.TheVariants.{Begun, Loaded}
use Rattle.vms_cursors.proofs.Goes.{waits-goes, waits-stops}
use Rattle.vms_cursors.proofs.StepReadings.{system-other, system-read, value-other, value-read}

pub value-goes : (k : CounterId) (step : Step) (v : ℤ) → value_in k.number step ≡ Some v
    → GoesOn (value_at k Begun) step (value_at k (Loaded v))
value-goes k step v told =
    waits-goes (LoadsValue k) (λ load. ends (at_least_zero (value_told load))) (LoadG k v) step refl
    (value-read k step v told)

pub value-stops : (k : CounterId) (step : Step) → value_in k.number step ≡ None → Stops (value_at k Begun) step
value-stops k step none = waits-stops (LoadsValue k) (λ load. ends (at_least_zero (value_told load))) step
    (value-other k step none)

pub system-goes : (i : ItemId) (step : Step) (v : ℤ) → system_in i.number step ≡ Some v
    → GoesOn (system_at i Begun) step (system_at i (Loaded v))
system-goes i step v told =
    waits-goes (LoadsSystem i) (λ load. ends (at_least_zero (value_told load))) (LoadS i v) step refl
    (system-read i step v told)

pub system-stops : (i : ItemId) (step : Step) → system_in i.number step ≡ None → Stops (system_at i Begun) step
system-stops i step none = waits-stops (LoadsSystem i) (λ load. ends (at_least_zero (value_told load))) step
    (system-other i step none)
