-- Each number is computed from the story.
use Rattle.std.proofs.Common.{refl}
use Rattle.vms_model_trials.proofs.bounds.present_bound_is_reached.Goals as goal

pub returns : goal.returns
returns c = record {
  four = λ l. refl;
  system = λ l. record { value_is = refl; total_is = refl };
  dead = λ l. refl;
  absent = λ l. refl;
  two_parts = λ l. refl;
  two_zones = λ l. record { value_is = refl; total_is = refl };
}
