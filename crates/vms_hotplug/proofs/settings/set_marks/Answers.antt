-- Zone by zone the marks are set.
use Rattle.std.proofs.Common.{◌≡◌, ℕ, ◌+◌, ◌<◌, List, length, refl, sym, ap, subst, arith}
use Rattle.vms_hotplug.proofs.SetMarks.{MarksBelow, MayMark-marked, MarksBelow-more, with_marks-done}
use Rattle.vms_hotplug.proofs.settings.set_marks.Goals as goal

pub loop-zone-init : goal.loop-zone-init
loop-zone-init c = record { rest = refl; long = refl; done = λ g below. absurd (omega arith) }

pub zone_mark-mark-requires-clause-may : goal.zone_mark-mark-requires-clause-may
zone_mark-mark-requires-clause-may c = MayMark-marked c.args.header.now c.args.zones.now c.args.pages.now c.args.online
    c.loop-zone.zone c.loop-zone.pages c.requires c.loop-zone.invariant

pub loop-zone-preserved : goal.loop-zone-preserved
loop-zone-preserved c =
    let pages = c.loop-zone.pages in
    let zone_in : c.loop-zone.zone < length c.args.pages.now.mark = omega (
      arith,
      c.loop-zone-test.true,
      ap length c.zones-zone-end.ensures.value,
      c.requires.peaks.shaped.mark,
    ) in
    subst (λ (marks : List ℕ). MarksBelow c.args.header.now c.args.zones.now c.args.pages.now (c.loop-zone.zone + 1)
    (record pages { mark = marks })) (sym c.set.ensures)
    (MarksBelow-more c.args.header.now c.args.zones.now c.args.pages.now c.loop-zone.zone pages c.loop-zone.invariant
    c.zone_mark-mark.result c.zone_mark-mark.ensures zone_in)

pub returns : goal.returns
returns c =
    let all : c.loop-zone.zone ≡ length c.args.header.now.layout.zones = omega (
      arith,
      c.loop-zone-test.false,
      c.loop-zone.auto.«zone-end»,
      ap length c.zones-zone-end.ensures.value,
    ) in
    with_marks-done c.args.header.now c.args.zones.now c.args.pages.now c.loop-zone.pages
    (subst (λ (n : ℕ). MarksBelow c.args.header.now c.args.zones.now c.args.pages.now n c.loop-zone.pages) all
    c.loop-zone.invariant)
    c.requires.peaks.shaped.mark
