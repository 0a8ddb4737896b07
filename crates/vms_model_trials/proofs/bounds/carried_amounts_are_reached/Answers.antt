-- Each number is computed from the story.
use Rattle.std.proofs.Common.{refl}
use Rattle.vms_model_trials.proofs.bounds.carried_amounts_are_reached.Goals as goal

pub returns : goal.returns
returns c = record {
  change = λ l. refl;
  most_of_change = refl;
  change_of_item = λ l. refl;
  most_of_item = refl;
  fold = λ l. refl;
  most_of_fold = λ c. refl;
  fold_of_item = λ l. refl;
  most_of_fold_of_item = λ c. refl;
  afterwards = λ l. refl;
}
