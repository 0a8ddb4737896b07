-- Each number is computed from the story.
use Rattle.std.proofs.Common.{refl}
use Rattle.vms_model_trials.proofs.Lists.{are_lists}
use Rattle.vms_model_trials.proofs.bounds.slack_is_reached.Goals as goal

pub returns : goal.returns
returns c = record {
  lists = are_lists;
  hidden = λ l. record { value_is = refl; total_is = refl; slack_is = refl; carried_is = refl };
  carried = λ l. record { value_is = refl; total_is = refl; slack_is = refl; carried_is = refl };
  below = λ l. record { value_is = refl; total_is = refl; slack_is = refl; carried_is = refl };
  unmarked = λ l. record { value_is = refl; total_is = refl; slack_is = refl; carried_is = refl };
  carried_below = λ l. record { value_is = refl; total_is = refl; slack_is = refl; carried_is = refl };
  dead = λ l. record { value_is = refl; total_is = refl; slack_is = refl; carried_is = refl };
  absent = λ l. record { value_is = refl; total_is = refl; slack_is = refl; carried_is = refl };
}
