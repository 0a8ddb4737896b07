-- The goals were that the step may be made, and that the volumes still cover what the CPU has counted.
use Rattle.std.proofs.Common.{sym, subst}
use Rattle.vms_event_core.specs.Common.{events}
use Rattle.vms_event.specs.Common.{CpuPass, told}
use Rattle.vms_event.specs.SharedWords.{shown}
use Rattle.vms_event.proofs.KnownSpending.{covers-left}
use Rattle.vms_seats.specs.Common.{MayStep}
use Rattle.vms_event.proofs.passes.EventPassWorksSharedEvents.swap_at.Goals as goal

pub swap_at-requires-clause-step : goal.swap_at-requires-clause-step
swap_at-requires-clause-step c = subst
    (λ (p : CpuPass). MayStep events shown p.pass c.args.place
    (λ n. c.args.new) (told c.args.plan.now))
    (sym c.self.view_is) c.requires.step

pub invariant_of-self : goal.invariant_of-self
invariant_of-self c = covers-left c.self.inside.worker c.self.inside.cpu c.self.inside.volume c.self.invariant
    c.swap_at.new.self (told c.args.plan.now c.swap_at.result) (c.requires.leaves c.swap_at.result) c.swap_at.ensures
