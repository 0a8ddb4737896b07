-- What stands of a zone more.
use Rattle.std.proofs.Common.{◌<◌, ◌++◌, ◌∙◌, List, ap, sym, arith, length, get_or}
use Rattle.vms_world.specs.Common.{ZoneName}
use Rattle.vms_text.proofs.Common.{Begins-after, OnErr-true, append_twice}
use Rattle.vms_report.specs.Common.{zone_text}
use Rattle.vms_report.proofs.Entries.{texts-more}
use Rattle.vms_report.proofs.zoneinfo.write_zones.Goals as goal

pub loop-place-preserved : goal.loop-place-preserved
loop-place-preserved c =
    let header = c.args.header.now in
    let w = c.args.world.now in
    let n = c.loop-place.place in
    let listed = c.zones-zone-items.ensures.value in
    let within : n < length header.layout.zones = omega (arith, c.loop-place-test.true, ap length listed) in
    append_twice _ _ _ _ _ _ (c.in_ok-write_zone.ensures.ok
    ∙ ap (λ (zones : List ZoneName). c.loop-place.out.items ++ zone_text header w (n, get_or zones n _)) listed)
    c.loop-place.invariant (sym (texts-more (zone_text header w) header.layout.zones n _ within))

pub returns-in_err-write_zone-clause-err : goal.returns-in_err-write_zone-clause-err
returns-in_err-write_zone-clause-err c =
    OnErr-true c.from_residual.result _ (Begins-after _ _ _ _ c.loop-place.invariant c.in_err-write_zone.ensures.err)
