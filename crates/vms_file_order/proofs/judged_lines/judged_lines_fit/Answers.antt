-- A line that a judge lets count, by what the phase began with.
use Rattle.vms_file_order.proofs.JudgedLines.{Fits-judged, boundary-judged}
use Rattle.vms_file_order.proofs.judged_lines.judged_lines_fit.Goals as goal

pub returns : goal.returns
returns c = record {
  line = λ header above items text number lane act valid. Fits-judged above items header valid text number lane act;
  boundary = λ header above items text b valid. boundary-judged above items header valid text b;
}
