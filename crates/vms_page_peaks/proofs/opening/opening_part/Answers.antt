-- A CPU that isn't absent hides its peak, which is small.
use Rattle.std.proofs.Common.{◌≡◌, [], arith, sym, ◌∙◌}
use Rattle.vms_history.specs.Common.{Absent}
use Rattle.vms_core.specs.Common.{peak}
use Rattle.vms_page_peaks.proofs.PeakSums.{if_present-some, peak-most}
use Rattle.vms_page_peaks.proofs.opening.opening_part.Goals as goal

pub returns-in_default : goal.returns-in_default
returns-in_default c =
    let facts = c.args.facts.now in
    let cpu = c.args.cpu.number in
    let is : c.get-in_default.result ≡ peak facts cpu c.args.zone [] =
    sym (c.get-in_default.ensures 0) ∙ c.requires.peaks.each cpu c.args.zone c.requires.cpu c.requires.zone in
    record {
      value = is ∙ sym (if_present-some _ _ (λ gone. c.in_default.not-Absent (sym (c.get.ensures Absent) ∙ gone)));
      most = omega (arith, is, peak-most facts [] c.requires.base c.args.zone c.requires.zone cpu c.requires.cpu);
    }
