use Rattle.vms_core.proofs.Common.{found_none_legal, found_newest_legal, found_older_legal}
use Rattle.std.proofs.Common.{refl}
use Rattle.vms_model_trials.proofs.peaks.newest_acknowledgement_settles.Goals as goal

pub returns : goal.returns
returns c = record {
  none_legal = found_none_legal;
  none = refl;
  newest_legal = found_newest_legal;
  newest = λ zeros. refl;
  older_legal = found_older_legal;
  older = λ zeros. refl;
}
