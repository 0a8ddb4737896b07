-- The goal was that the load may be made.
use Rattle.std.proofs.Common.{sym, subst}
use Rattle.vms_event_core.specs.declared.steps.EventStep.TheVariants.{LoadE}
use Rattle.vms_event_core.specs.Common.{events}
use Rattle.vms_event.specs.SharedWords.{shown}
use Rattle.vms_event.proofs.LoadedWords.{load-may}
use Rattle.vms_seats.specs.Common.{MayStep}
use Rattle.vms_event.proofs.tables.EventTable.load_word.Goals as goal

pub load-requires-clause-step : goal.load-requires-clause-step
load-requires-clause-step g c = subst
    (λ at. MayStep events shown (g.P.Works.pass c.args.pass.now) at (λ n. n)
    (λ found. LoadE c.args.cpu c.args.event found))
    (sym c.place.ensures)
    (load-may (g.P.Works.pass c.args.pass.now) c.args.self.now.facts c.requires.table.facts c.args.cpu c.args.event
    c.requires.cpu c.requires.event)
