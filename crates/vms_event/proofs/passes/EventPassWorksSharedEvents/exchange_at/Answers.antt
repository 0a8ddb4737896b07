-- The goals were that the step may be made, and that the volumes still cover what the CPU has counted.
use Rattle.std.proofs.Common.{◌==◌, if◌then◌else◌, sym, subst}
use Rattle.vms_event_core.specs.Common.{events}
use Rattle.vms_event.specs.Common.{CpuPass, told}
use Rattle.vms_event.specs.SharedWords.{shown}
use Rattle.vms_event.proofs.KnownSpending.{covers-left}
use Rattle.vms_seats.specs.Common.{MayStep}
use Rattle.vms_event.proofs.passes.EventPassWorksSharedEvents.exchange_at.Goals as goal

pub exchange_at-requires-clause-step : goal.exchange_at-requires-clause-step
exchange_at-requires-clause-step c = subst
    (λ (p : CpuPass). MayStep events shown p.pass c.args.place
    (λ n. if n == c.args.old then c.args.new else n) (told c.args.plan.now))
    (sym c.self.view_is) c.requires.step

pub invariant_of-self : goal.invariant_of-self
invariant_of-self c = covers-left c.self.inside.worker c.self.inside.cpu c.self.inside.volume c.self.invariant
    c.exchange_at.new.self (told c.args.plan.now c.exchange_at.result) (c.requires.leaves c.exchange_at.result)
    c.exchange_at.ensures
