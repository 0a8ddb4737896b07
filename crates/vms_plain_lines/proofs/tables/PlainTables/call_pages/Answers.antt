-- The call is that of the line, from the tables that stand.
use Rattle.std.proofs.Common.{Option, sym, subst}
use Rattle.vms_world.specs.Common.{CpuId, owner_of}
use Rattle.vms_answers.specs.Common.{page_told}
use Rattle.vms_plain_control.specs.PageCalls.{FitsPageCall, MakesPageCall}
use Rattle.vms_plain_lines.specs.Common.{PlainStates, HaveRoomForPages}
use Rattle.vms_plain_lines.proofs.PageLines.{GoesOnIf-pages}
use Rattle.vms_plain_lines.proofs.PlainCalls.{GoesOnIf-inside}
use Rattle.vms_plain_lines.proofs.tables.PlainTables.call_pages.Goals as goal

pub returns-clause-goes_on : goal.returns-clause-goes_on
returns-clause-goes_on g c valid item lane on no_burial =
    let header = c.args.header.now in
    let inside : PlainStates = record {
      pages = c.self.inside.pages;
      events = c.self.inside.events;
      counters = c.self.inside.counters;
      peaks = c.self.inside.peaks;
      opening = c.self.inside.opening;
    } in
    let pressure = g.P.Rule.answers c.args.rules.now.pressure in
    let normal = g.N.Rule.answers c.args.rules.now.normal in
    let call = c.args.call in
    let told = c.call.result in
    let fits = subst (λ (s : PlainStates). FitsPageCall header call (owner_of c.args.lane) s.pages) (sym c.self.view_is)
    c.requires.fits in
    let makes = subst (λ (who : Option CpuId). MakesPageCall header pressure normal call who told inside.pages
    inside.peaks c.call.new.pages c.call.new.peaks) c.owner_of-owner.ensures c.call.ensures.makes in
    GoesOnIf-inside header pressure normal item (HaveRoomForPages c.args.lane call) inside c.args.self.now
    c.self.view_is (page_told told) (record inside { pages = c.call.new.pages; peaks = c.call.new.peaks })
    (GoesOnIf-pages pressure normal header valid c.args.lane call no_burial inside fits item lane on told
    c.call.new.pages c.call.new.peaks makes)
