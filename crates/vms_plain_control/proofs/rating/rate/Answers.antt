-- The size of a zone is valid, and a mark that covers is below 2^43.
use Rattle.std.proofs.Common.{sym, subst, arith}
use Rattle.vms_calls.specs.Common.{IsValidSize, HasShape}
use Rattle.vms_plain_control.proofs.SetTimes.{HasShape-marked}
use Rattle.vms_plain_control.proofs.ZoneSizes.{no_size, valid_size}
use Rattle.vms_plain_control.proofs.rating.rate.Goals as goal

pub linux_mark-linux-requires-clause-size : goal.linux_mark-linux-requires-clause-size
linux_mark-linux-requires-clause-size c =
    subst IsValidSize (c.get-size.ensures no_size) (valid_size c.args.header.now c.requires.header c.args.zone.number
    c.requires.zone)

pub cover_mark-mark-requires-clause-size : goal.cover_mark-mark-requires-clause-size
cover_mark-mark-requires-clause-size c =
    subst IsValidSize (c.get-size.ensures no_size) (valid_size c.args.header.now c.requires.header c.args.zone.number
    c.requires.zone)

pub mark_zone-requires-clause-below : goal.mark_zone-requires-clause-below
mark_zone-requires-clause-below c =
    let valid : IsValidSize c.get-size.result = subst IsValidSize (c.get-size.ensures no_size)
    (valid_size c.args.header.now c.requires.header c.args.zone.number c.requires.zone) in
    omega (
      arith,
      c.linux_mark-linux.ensures.most,
      c.cover_mark-mark.ensures.most,
      valid.high_most,
      c.hidden.ensures.most,
    )

pub set_thresholds-requires-clause-shaped : goal.set_thresholds-requires-clause-shaped
set_thresholds-requires-clause-shaped c =
    subst (HasShape c.args.header.now.layout) (sym c.mark_zone.ensures)
    (HasShape-marked c.args.header.now.layout c.args.zone.number c.cover_mark-mark.result c.requires.zone
    c.args.pages.now c.requires.shaped)
