-- Each zone has a size, and the sum is what the CPUs hide.
use Rattle.std.proofs.Common.{arith}
use Rattle.vms_history.proofs.Common.{base_can_begin}
use Rattle.vms_core.specs.Common.{pages}
use Rattle.vms_page_peaks.proofs.peaks.PagePeaks.covers_mark.Goals as goal

pub get-requires : goal.get-requires
get-requires c =
    let base = base_can_begin pages c.args.facts.now c.requires.kept.0 c.requires.kept.1 in
    let one_each = base.one_size_each in
    let zone = c.requires.zone in
    omega arith
