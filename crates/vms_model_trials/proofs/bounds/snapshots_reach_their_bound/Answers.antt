-- Each number is computed from the story.
use Rattle.std.proofs.Common.{refl}
use Rattle.vms_model_trials.proofs.bounds.snapshots_reach_their_bound.Goals as goal

pub returns : goal.returns
returns c = record {
  looked = λ l. refl;
  far = λ l. refl;
  exact = λ l. refl;
  dead = λ l. refl;
  exact_with_dead = λ l. refl;
}
