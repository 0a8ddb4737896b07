-- The call is that of the line, from the tables that stand.
use Rattle.std.proofs.Common.{◌≡◌, List, Option, Some, sym, subst, ◌∙◌}
use Rattle.vms_world.specs.Common.{LeadsOn, CpuId, EventStep, IsEventCall, Lane, event_call, owner_of}
use Rattle.vms_plain_events.specs.Common.{FitsCall, events_by_state}
use Rattle.vms_answers.specs.Common.{event_told}
use Rattle.vms_plain_lines.specs.Common.{HaveRoomForEvents, PlainStates}
use Rattle.vms_plain_lines.proofs.EventLines.{GoesOnTelling-call}
use Rattle.vms_plain_lines.proofs.PlainCalls.{GoesOnIf-inside}
use Rattle.vms_plain_lines.proofs.tables.PlainTables.call_events.Goals as goal

pub returns-clause-goes_on : goal.returns-clause-goes_on
returns-clause-goes_on g c header item lane on no_burial =
    let inside : PlainStates = record {
      pages = c.self.inside.pages;
      events = c.self.inside.events;
      counters = c.self.inside.counters;
      peaks = c.self.inside.peaks;
      opening = c.self.inside.opening;
    } in
    let now = c.args.self.now in
    let pressure = g.P.Rule.answers c.args.rules.now.pressure in
    let normal = g.N.Rule.answers c.args.rules.now.normal in
    let call = c.args.call in
    let next : PlainStates = record inside { events = c.call.new.events } in
    let opening = c.as_slice.ensures in
    GoesOnIf-inside header pressure normal item (HaveRoomForEvents c.args.lane call) inside now c.self.view_is
    (event_told c.call.result) next
    (λ w lanes items hs stands among room.
    let makes : event_call item.lane item.act ≡ Some call =
    subst (λ (l : Lane). event_call l item.act ≡ Some call) (sym lane) on in
    let fits : FitsCall inside.opening (owner_of item.lane) call inside.events =
    subst (λ (l : Lane). FitsCall inside.opening (owner_of l) call inside.events) (sym lane)
    (subst (λ (s : PlainStates). FitsCall s.opening (owner_of c.args.lane) call s.events) (sym c.self.view_is)
    c.requires.fits) in
    let room_of : HaveRoomForEvents item.lane call items =
    subst (λ (l : Lane). HaveRoomForEvents l call items) (sym lane) room in
    GoesOnTelling-call pressure normal header w lanes items hs inside stands item among c.event_laws.ensures call makes
    fits room_of no_burial c.call.result next.events
    (λ f same. subst (λ (l : Lane). (steps : List EventStep) × IsEventCall f call steps c.call.result
    × LeadsOn events_by_state (owner_of l) steps inside.events next.events) (sym lane)
    (subst (λ (o : Option CpuId). (steps : List EventStep) × IsEventCall f call steps c.call.result
    × LeadsOn events_by_state o steps inside.events next.events) c.owner_of.ensures
    (c.call.ensures.made f (same ∙ sym opening)))))
