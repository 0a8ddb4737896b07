-- The goals were that the step may be made, and that the volumes still cover what the CPU has counted.
use Rattle.std.proofs.Common.{◌+◌, ◌%◌, ◌^◌, sym, subst}
use Rattle.vms_event_core.specs.Common.{events}
use Rattle.vms_event.specs.Common.{CpuPass, told}
use Rattle.vms_event.specs.SharedWords.{shown}
use Rattle.vms_event.proofs.KnownSpending.{covers-left}
use Rattle.vms_seats.specs.Common.{MayStep}
use Rattle.vms_event.proofs.passes.EventPassWorksSharedEvents.add_at.Goals as goal

pub add_at-requires-clause-step : goal.add_at-requires-clause-step
add_at-requires-clause-step c = subst
    (λ (p : CpuPass). MayStep events shown p.pass c.args.place
    (λ n. (n + c.args.amount) % 2 ^ 64) (told c.args.plan.now))
    (sym c.self.view_is) c.requires.step

pub invariant_of-self : goal.invariant_of-self
invariant_of-self c = covers-left c.self.inside.worker c.self.inside.cpu c.self.inside.volume c.self.invariant
    c.add_at.new.self (told c.args.plan.now c.add_at.result) (c.requires.leaves c.add_at.result) c.add_at.ensures
