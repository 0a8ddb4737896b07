use Rattle.std.proofs.Common.{refl}
use Rattle.vms_model_trials.proofs.turns.turns_are_read.Goals as goal

pub returns : goal.returns
returns c = record { single = refl; no_block = refl; block = refl; no_room = refl }
