use Rattle.std.proofs.Common.{refl}
use Rattle.vms_model_trials.proofs.turns.smaller_area_comes_first.Goals as goal

pub returns : goal.returns
returns c = refl
