-- The goals were that the word is one of the table's, that the count may be made, and that the volumes cover it.
use Rattle.std.proofs.Common.{◌+◌, ◌≤◌, ◌%◌, ◌^◌, ◌<◌, slice_index, slice_set, ap, sym, ◌∙◌, subst}
use Rattle.vms_history.specs.Common.{most_volume}
use Rattle.vms_event_core.specs.declared.steps.EventStep.TheVariants.{AddE}
use Rattle.vms_event_core.specs.Common.{events}
use Rattle.vms_event.specs.Common.{CpuPass, IsCpuPass}
use Rattle.vms_event.specs.SharedWords.{shown}
use Rattle.vms_event.proofs.OwnCounts.{count-may, own-place, counted-covers}
use Rattle.vms_seats.specs.Common.{IsFrom, MayStep}
use Rattle.vms_event.proofs.passes.EventPass.add.Goals as goal

pub add_at-requires-clause-place : goal.add_at-requires-clause-place
add_at-requires-clause-place c =
    let of = subst (λ (p : CpuPass). IsFrom p.pass c.table.inside.words) (sym c.self.view_is)
    (subst (IsFrom c.args.self.now.pass) (sym c.table.view_is) c.requires.table) in
    subst (λ at. at < c.table.inside.words.table.words) (sym c.place.ensures)
    (own-place c.self.inside.worker c.self.inside.cpu c.self.inside.volume c.self.invariant c.args.event c.args.n
    c.requires.event c.table.inside.layout c.table.inside.cpus c.table.inside.words c.table.invariant of)

pub add_at-requires-clause-step : goal.add_at-requires-clause-step
add_at-requires-clause-step c =
    let room = subst (λ (p : CpuPass). slice_index p.volume c.args.event.number + c.args.n ≤ most_volume)
    (sym c.self.view_is) c.requires.room in
    subst
    (λ at. MayStep events shown c.self.inside.worker at (λ found. (found + c.args.n) % 2 ^ 64)
    (λ found. AddE c.args.event c.args.n))
    (sym c.place.ensures)
    (count-may c.self.inside.worker c.self.inside.cpu c.self.inside.volume c.self.invariant c.args.event c.args.n
    c.requires.event room)

pub invariant_of-self : goal.invariant_of-self
invariant_of-self c = subst (IsCpuPass c.add_at.new.self c.self.inside.cpu)
    (sym (c.set.ensures ∙ ap (λ sum. slice_set c.self.inside.volume c.args.event.number (sum + c.args.n))
    (sym (c.get.ensures 0))))
    (counted-covers c.self.inside.worker c.self.inside.cpu c.self.inside.volume c.self.invariant c.args.event c.args.n
    c.requires.event c.add_at.new.self c.add_at.ensures)
