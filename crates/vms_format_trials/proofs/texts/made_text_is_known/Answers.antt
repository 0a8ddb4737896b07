-- The text is computed from its definition.
use Rattle.std.proofs.Common.{refl}
use Rattle.std.specs.Fmt.{digits}
use Rattle.vms_format_trials.proofs.texts.made_text_is_known.Goals as goal

pub returns : goal.returns
unfolding digits
returns c = refl
