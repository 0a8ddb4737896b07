-- Each number is computed from the story.
use Rattle.std.proofs.Common.{refl}
use Rattle.vms_model_trials.proofs.bounds.tests_reach_both_bounds.Goals as goal

pub returns : goal.returns
returns c = record {
  yes_with_more = λ l. refl;
  yes_with_less = λ l. refl;
  unmarked_with_more = λ l. refl;
  unmarked_with_less = λ l. refl;
  no_with_more = λ l. refl;
  carried_with_more = λ l. refl;
  carried_with_less = λ l. refl;
}
