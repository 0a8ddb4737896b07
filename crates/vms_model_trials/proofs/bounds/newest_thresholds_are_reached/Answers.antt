-- Each number is computed from the story.
use Rattle.std.proofs.Common.{refl}
use Rattle.vms_model_trials.proofs.bounds.newest_thresholds_are_reached.Goals as goal

pub returns : goal.returns
returns c = record {
  first = λ l. refl;
  second = λ l. refl;
  third = λ l. refl;
  fourth = λ l. refl;
  thresholds = λ l. refl;
  pressure = refl;
  most = λ l. refl;
  stands = λ l. record { value_is = refl; total_is = refl; slack_is = refl; carried_is = refl };
  early = λ l. refl;
  unacknowledged = λ l. refl;
  stands_early = λ l. record { value_is = refl; total_is = refl; slack_is = refl; carried_is = refl };
  narrow_pressure = refl;
  narrow_most = λ l. refl;
  narrow = λ l. record { value_is = refl; total_is = refl; slack_is = refl; carried_is = refl };
}
