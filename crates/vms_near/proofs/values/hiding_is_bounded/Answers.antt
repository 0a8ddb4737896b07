-- The bounds hold at every place.
use Rattle.vms_near.proofs.HidingBounds.{hiding-bounded}
use Rattle.vms_near.proofs.values.hiding_is_bounded.Goals as goal

pub returns : goal.returns
returns c = record { bounds = hiding-bounded }
