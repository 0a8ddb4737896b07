-- The bounds hold of every item.
use Rattle.vms_near.proofs.ItemHiding.{item_hiding-bounded}
use Rattle.vms_near.proofs.values.item_hiding_is_bounded.Goals as goal

pub returns : goal.returns
returns c = record { bounds = item_hiding-bounded }
