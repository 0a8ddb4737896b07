-- The goals were that the word may be taken and what was found in it added, what this makes, and that the control pass
-- carries nothing afterwards.
use Rattle.std.proofs.Common.{◌≡◌, ◌+◌, ◌%◌, ◌^◌, ap, sym, ◌∙◌, subst}
use Rattle.vms_history.specs.Common.{Dead}
use Rattle.vms_event_core.specs.declared.steps.EventFacts.{EventFacts}
use Rattle.vms_event_core.specs.declared.steps.EventStep.{EventStep}
use Rattle.vms_event_core.specs.declared.steps.EventStep.TheVariants.{TakeE, AddF}
use Rattle.vms_event_core.specs.Common.{cpu_at, IsLowestOnline, moves, events}
use Rattle.vms_event.specs.SharedWords.{shown}
use Rattle.vms_event.proofs.KeptControl.{control-moved}
use Rattle.vms_event.proofs.MovedWords.{take-may, taken-carries, add-may, moved-nothing, moved-some}
use Rattle.vms_seats.specs.Common.{Pass, Made, MayStep}
use Rattle.vms_event.proofs.passes.EventControl.move_word.Goals as goal

pub swap_at-found-requires-clause-step : goal.swap_at-found-requires-clause-step
swap_at-found-requires-clause-step c =
    let same = ap (λ (p : Pass EventFacts EventStep). p.facts) c.self.view_is ∙ c.requires.table.facts in
    let dead : cpu_at c.self.inside.worker.facts c.args.from.number ≡ Dead =
    ap (λ (f : EventFacts). cpu_at f c.args.from.number) same ∙ c.requires.from in
    subst
    (λ at. MayStep events shown c.self.inside.worker at (λ n. 0) (λ found. TakeE c.args.from c.args.event found))
    (sym c.place.ensures)
    (take-may c.self.inside.worker c.self.invariant c.args.from c.args.event dead c.requires.event)

pub add_at-requires-clause-step : goal.add_at-requires-clause-step
add_at-requires-clause-step c =
    let same = c.swap_at-found.ensures.all.facts ∙ ap (λ (p : Pass EventFacts EventStep). p.facts) c.self.view_is
    ∙ c.requires.table.facts in
    let lowest = subst (λ (f : EventFacts). IsLowestOnline f c.args.into.number) (sym same) c.requires.into in
    let carries = taken-carries c.swap_at-found.new.self c.self.inside.worker c.args.from c.args.event
    c.swap_at-found.result c.self.invariant c.requires.event c.swap_at-found.ensures in
    subst
    (λ at. MayStep events shown c.swap_at-found.new.self at (λ n. (n + c.swap_at-found.result) % 2 ^ 64)
    (λ found. AddF c.args.into c.args.event c.swap_at-found.result))
    (sym c.place-then-found-ne0.ensures)
    (add-may c.swap_at-found.new.self c.args.event c.swap_at-found.result carries c.if-found-ne0.true c.args.into
    lowest c.requires.event)

pub invariant_of-self : goal.invariant_of-self
invariant_of-self c = control-moved c.add_at.new.self c.self.inside.worker c.args.from c.args.into c.args.event.number
    c.swap_at-found.result c.self.invariant
    (moved-some c.add_at.new.self c.swap_at-found.new.self c.self.inside.worker c.args.from c.args.into c.args.event
    c.swap_at-found.result c.if-found-ne0.true c.swap_at-found.ensures c.add_at.ensures)

pub invariant_of-self-else-found-ne0 : goal.invariant_of-self-else-found-ne0
invariant_of-self-else-found-ne0 c = control-moved c.swap_at-found.new.self c.self.inside.worker c.args.from c.args.into
    c.args.event.number c.swap_at-found.result c.self.invariant
    (moved-nothing c.swap_at-found.new.self c.self.inside.worker c.args.from c.args.into c.args.event
    c.swap_at-found.result c.if-found-ne0.false c.swap_at-found.ensures)

pub returns-then-found-ne0 : goal.returns-then-found-ne0
returns-then-found-ne0 c = subst
    (λ old. Made events c.add_at.new.self old
    (moves c.args.from c.args.into c.args.event.number c.swap_at-found.result))
    c.self.view_is
    (moved-some c.add_at.new.self c.swap_at-found.new.self c.self.inside.worker c.args.from c.args.into c.args.event
    c.swap_at-found.result c.if-found-ne0.true c.swap_at-found.ensures c.add_at.ensures)
