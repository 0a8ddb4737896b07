-- The lines of a place more.
use Rattle.std.proofs.Common.{sym}
use Rattle.vms_world.specs.Common.{sentence}
use Rattle.vms_text.proofs.Common.{Begins-after, OnErr-true, append_twice}
use Rattle.vms_report.specs.Common.{page_total, place_totals}
use Rattle.vms_report.proofs.Entries.{pieces-more}
use Rattle.vms_report.proofs.totals.write_places.Goals as goal

pub loop-number-preserved : goal.loop-number-preserved
loop-number-preserved c =
    let header = c.args.header.now in
    append_twice _ _ _ _ _ _ c.in_ok-write_place.ensures.ok c.loop-number.invariant
    (sym (pieces-more sentence (place_totals header (page_total header c.args.world.now)) c.loop-number.number))

pub returns-in_err-write_place-clause-err : goal.returns-in_err-write_place-clause-err
returns-in_err-write_place-clause-err c =
    OnErr-true c.from_residual.result _ (Begins-after _ _ _ _ c.loop-number.invariant c.in_err-write_place.ensures.err)
