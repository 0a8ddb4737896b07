-- The line of one zone more is the next of the spelled lines.
use Rattle.std.proofs.Common.{◌++◌, ◌∙◌, ap}
use Rattle.vms_text.proofs.Common.{Begins-after, OnErr-true, append_twice}
use Rattle.vms_header.proofs.SpelledLines.{zone_lines-all, zone_lines-take_more}
use Rattle.vms_header.proofs.spelling.write_zones.Goals as goal

pub returns-in_err-write_zone-clause-err : goal.returns-in_err-write_zone-clause-err
returns-in_err-write_zone-clause-err c =
    OnErr-true c.from_residual.result _ (Begins-after _ _ _ _ c.loop-place.invariant c.in_err-write_zone.ensures.err)

pub loop-place-preserved : goal.loop-place-preserved
loop-place-preserved c =
    append_twice _ _ _ _ _ _ c.in_ok-write_zone.ensures.ok c.loop-place.invariant
    (zone_lines-take_more c.args.zones.now c.args.sizes.now c.loop-place.place _ _ c.loop-place-test.true c.requires)

pub returns-clause-ok : goal.returns-clause-ok
returns-clause-ok c =
    c.loop-place.invariant ∙ ap (λ lines. c.args.out.now.items ++ lines)
    (zone_lines-all c.args.zones.now c.args.sizes.now c.loop-place.place c.loop-place-test.false)
