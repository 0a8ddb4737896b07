-- The next line is made by the pass of its lane, or makes nothing.
use Rattle.std.proofs.Common.{◌≡◌, true, ap, subst, sym, ℕ, ◌∙◌}
use Rattle.std.specs.Prelude.{Option, Some}
use Rattle.std.proofs.lemmas.Result.{on_ok_weaker}
use Rattle.vms_call_lines.specs.Calls.{WritesCall}
use Rattle.vms_plain_control.specs.PageCalls.{FitsPageCall}
use Rattle.vms_world.specs.Common.{CpuId, IsLaneOf, Lane, is_among, lanes_of, normal_threshold_of, owner_of, page_call}
use Rattle.vms_world.specs.Common.{pressure_threshold_of}
use Rattle.vms_file_order.specs.Common.{pass_of}
use Rattle.vms_own_acts.specs.Common.{IsExactly}
use Rattle.vms_phase_lines.proofs.FoundPages.{FitsPageCall-found, HasAllForCall-found, among, lane_known}
use Rattle.vms_phase_lines.proofs.MadeLines.{line-called, line-uncalled}
use Rattle.vms_phase_lines.proofs.phases.PhaseWriter.write_line.Goals as goal

pub returns-in_default-clause-ok : goal.returns-in_default-clause-ok
returns-in_default-clause-ok c = λ base all items left h is parts.
    line-uncalled c.args.header.now base all items left c.args.item.now h c.args.self.now is parts
    (ap (λ (l : Lane). page_call l c.args.item.now.act) (sym c.lane-lane.ensures) ∙ sym c.page_call.ensures
    ∙ c.in_default.is) c.args.out.now.items

pub pass-pass-requires-clause-lane : goal.pass-pass-requires-clause-lane
pass-pass-requires-clause-lane c =
    let w = c.requires.writing in
    subst (IsLaneOf c.args.header.now) (sym c.lane-lane.ensures)
    (lane_known c.args.header.now w.0 w.1 w.2 w.3 c.args.item.now w.4 c.args.self.now w.5 w.6)

pub write_by_formulas-requires-clause-fits : goal.write_by_formulas-requires-clause-fits
write_by_formulas-requires-clause-fits c =
    let w = c.requires.writing in
    let lane = c.args.item.now.lane in
    let on : page_call lane c.args.item.now.act ≡ Some c.in-Some.call =
    ap (λ (l : Lane). page_call l c.args.item.now.act) (sym c.lane-lane.ensures) ∙ sym c.page_call.ensures
    ∙ c.in-Some.is in
    subst (λ (who : Option CpuId). FitsPageCall c.args.header.now c.in-Some.call who c.args.self.now.pages)
    (sym (c.owner_of-owner.ensures ∙ ap owner_of c.lane-lane.ensures))
    (FitsPageCall-found c.args.header.now w.0 w.1 w.2 w.3 c.args.item.now w.4 c.args.self.now w.5 w.6 c.requires.header
    c.in-Some.call on)

pub write_by_formulas-requires-clause-has : goal.write_by_formulas-requires-clause-has
write_by_formulas-requires-clause-has c =
    let w = c.requires.writing in
    let lane = c.args.item.now.lane in
    let on : page_call lane c.args.item.now.act ≡ Some c.in-Some.call =
    ap (λ (l : Lane). page_call l c.args.item.now.act) (sym c.lane-lane.ensures) ∙ sym c.page_call.ensures
    ∙ c.in-Some.is in
    HasAllForCall-found c.args.header.now w.0 w.1 w.2 w.3 c.args.item.now w.4 c.args.self.now w.5 w.6 c.requires.header
    c.in-Some.call on

pub returns-clause-ok : goal.returns-clause-ok
returns-clause-ok c = on_ok_weaker c.write_by_formulas.result (λ writes base all items left h is parts.
    let header = c.args.header.now in
    let item = c.args.item.now in
    let writer = c.args.self.now in
    let on : page_call item.lane item.act ≡ Some c.in-Some.call =
    ap (λ (l : Lane). page_call l item.act) (sym c.lane-lane.ensures) ∙ sym c.page_call.ensures ∙ c.in-Some.is in
    let lane_in = subst (IsLaneOf header) (sym c.lane-lane.ensures)
    (lane_known header base all items left item h writer is parts) in
    let there = among header base all items left item h writer is parts in
    let pass-is : c.pass-pass.result ≡ pass_of (lanes_of header.layout all) item.lane =
    c.pass-pass.ensures (lanes_of header.layout all) is.begins
    (subst (λ (l : Lane). is_among l (lanes_of header.layout all) ≡ true) (sym c.lane-lane.ensures) there)
    ∙ ap (pass_of (lanes_of header.layout all)) c.lane-lane.ensures in
    line-called header base all items left item h writer is parts c.requires.header c.in-Some.call on
    c.write_by_formulas.new.pages c.write_by_formulas.new.peaks c.args.out.now.items c.write_by_formulas.new.out.items
    (subst (λ (q : ℕ). WritesCall header (IsExactly pressure_threshold_of) (IsExactly normal_threshold_of)
    c.in-Some.call (owner_of item.lane) q writer.pages writer.peaks c.write_by_formulas.new.pages c.write_by_formulas.new.peaks
    c.args.out.now.items c.write_by_formulas.new.out.items) pass-is
    (subst (λ (who : Option CpuId). WritesCall header (IsExactly pressure_threshold_of) (IsExactly normal_threshold_of)
    c.in-Some.call who c.pass-pass.result writer.pages writer.peaks c.write_by_formulas.new.pages
    c.write_by_formulas.new.peaks c.args.out.now.items c.write_by_formulas.new.out.items)
    (c.owner_of-owner.ensures ∙ ap owner_of c.lane-lane.ensures) writes)))
    c.write_by_formulas.ensures.ok
