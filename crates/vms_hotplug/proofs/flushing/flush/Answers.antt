-- A world stays one of its header.
use Rattle.std.proofs.Common.{sym, subst}
use Rattle.vms_world.specs.Common.{State, IsWorldOf}
use Rattle.vms_world.proofs.Common.{IsWorldOf-flushed}
use Rattle.vms_hotplug.proofs.flushing.flush.Goals as goal

pub returns-clause-stays : goal.returns-clause-stays
returns-clause-stays c =
    subst (λ (s : State). IsWorldOf c.args.header.now (record c.args.world.now { pages = s }))
    (sym c.flush_pages.ensures)
    (IsWorldOf-flushed c.args.header.now c.args.world.now c.requires)
