-- The check of the phase takes the event, or refuses it; before the first phase there is none.
use Rattle.std.proofs.Common.{List, refl, sym, subst, arith}
use Rattle.std.specs.Prelude.{Some}
use Rattle.vms_core.specs.Pages.{History}
use Rattle.vms_written_lines.specs.declared.lines.WrittenLine.TheVariants.{Event}
use Rattle.vms_phase_checks.specs.declared.faults.EventCause.TheVariants.{BadEvent}
use Rattle.vms_history_checks.specs.Accepts.{IsLineFault}
use Rattle.vms_history_checks.proofs.TakenEvents.{before-phases, few-events, fits-within, in-phase, says-fault}
use Rattle.vms_history_checks.proofs.TakenEvents.{says-taken}
use Rattle.vms_history_checks.proofs.checks.HistoryCheck.take.Goals as goal

pub returns-in_default : goal.returns-in_default
returns-in_default g c segments hs accepts =
    let header = c.args.header.now in
    let before = before-phases g.W.LaneWalk.Stands g.W.LaneWalk.pressure g.W.LaneWalk.normal header segments hs
    c.args.self.now.phase accepts.left accepts.at c.in_default.is in (
      refl,
      subst (λ (gs : List History). IsLineFault g.W.LaneWalk.pressure g.W.LaneWalk.normal header segments gs
          (Some (Event c.args.caller c.args.step.now)) BadEvent) (sym before.lists) refl,
    )

pub take-requires-clause-check : goal.take-requires-clause-check
take-requires-clause-check g c =
    let header = c.args.header.now in
    let segments = c.requires.check.0 in
    let accepts = c.requires.check.2 in
    let here = in-phase g.W.LaneWalk.Stands g.W.LaneWalk.pressure g.W.LaneWalk.normal header segments c.requires.check.1
    c.args.self.now.phase accepts.left accepts.at c.in-Some.phase c.in-Some.is in (
      here.within.s,
      here.within.items,
      here.h,
      fits-within g.W.LaneWalk.Stands g.W.LaneWalk.pressure g.W.LaneWalk.normal header segments here.older here.h
          c.in-Some.phase accepts.left here.within,
      here.within.checks,
    )

pub take-requires-clause-few : goal.take-requires-clause-few
take-requires-clause-few g c =
    let header = c.args.header.now in
    let segments = c.requires.check.0 in
    let hs = c.requires.check.1 in
    let accepts = c.requires.check.2 in
    let few = few-events g.W.LaneWalk.Stands g.W.LaneWalk.pressure g.W.LaneWalk.normal header segments hs
    c.args.self.now accepts c.in-Some.phase
    (in-phase g.W.LaneWalk.Stands g.W.LaneWalk.pressure g.W.LaneWalk.normal header segments hs c.args.self.now.phase
    accepts.left accepts.at c.in-Some.phase c.in-Some.is) in
    omega (arith, few, accepts.lines, c.requires.few)

pub overflow_add-self : goal.overflow_add-self
overflow_add-self g c = omega (arith, c.requires.check.2.lines, c.requires.few)

pub overflow_add-self-in-Ok : goal.overflow_add-self-in-Ok
overflow_add-self-in-Ok g c = omega (arith, c.requires.few)

pub returns-in-Ok : goal.returns-in-Ok
returns-in-Ok g c segments hs accepts =
    says-taken g.W.LaneWalk.Stands g.W.LaneWalk.pressure g.W.LaneWalk.normal c.args.header.now segments c.args.self.now
    c.in-Some.phase c.in-Some.is c.args.caller c.args.step.now c.take.new.self
    (λ s items h fits checks. c.in-Ok.ensures s items h fits checks) hs accepts

pub returns-in-Err : goal.returns-in-Err
returns-in-Err g c segments hs accepts =
    says-fault g.W.LaneWalk.Stands g.W.LaneWalk.pressure g.W.LaneWalk.normal c.args.header.now segments c.args.self.now
    c.in-Some.phase c.in-Some.is c.args.caller c.args.step.now c.take.new.self c.in-Err.cause
    (λ s items h fits checks. c.in-Err.ensures s items h fits checks) hs accepts
