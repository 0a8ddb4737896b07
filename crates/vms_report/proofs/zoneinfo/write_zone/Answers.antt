-- The heading, and the lines under it.
use Rattle.vms_text.proofs.Common.{Begins-after, OnErr-from, OnOk-from}
use Rattle.vms_world.specs.Common.{sentence}
use Rattle.vms_report.specs.Common.{cpu_lines, item_lines, size_lines, zone_heading}
use Rattle.vms_report.proofs.Pieces.{text-in_turn}
use Rattle.vms_report.proofs.zoneinfo.write_zone.Goals as goal

pub returns-clause-ok : goal.returns-clause-ok
returns-clause-ok c =
    let header = c.args.header.now in
    let w = c.args.world.now in
    let g = c.args.place.number in
    OnOk-from c.write_place.result _ _
    (text-in_turn (sentence (zone_heading c.args.zone)) (size_lines header w g) (item_lines header w g)
    (cpu_lines header w g) c.args.out.now.items _ _ _ c.in_ok-write_heading.ensures.ok c.in_ok-write_sizes.ensures.ok)
    c.write_place.ensures.ok

pub returns-clause-err : goal.returns-clause-err
returns-clause-err c =
    OnErr-from c.write_place.result _ _
    (λ begins. Begins-after _ _ _ _ c.in_ok-write_heading.ensures.ok
    (Begins-after _ _ _ _ c.in_ok-write_sizes.ensures.ok begins))
    c.write_place.ensures.err
