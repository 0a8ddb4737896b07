-- A count is one step.
use Rattle.std.proofs.Common.{◌∷◌, [], refl, sym}
use Rattle.vms_event_core.specs.declared.steps.EventStep.TheVariants.{AddE}
use Rattle.vms_plain_events.proofs.counting.count.Goals as goal

pub returns-clause-made : goal.returns-clause-made
returns-clause-made c =
    (AddE c.args.event c.args.n ∷ [], record { in_order = refl }, (tt, sym c.grow.ensures))
