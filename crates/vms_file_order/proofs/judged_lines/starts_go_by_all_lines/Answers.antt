-- The same by the lines from the newest back.
use Rattle.vms_file_order.proofs.JudgedLines.{start_at_end-lines, start_at_end-script, start_past-boundary}
use Rattle.vms_file_order.proofs.judged_lines.starts_go_by_all_lines.Goals as goal

pub returns : goal.returns
returns c = record {
  phase = start_at_end-lines;
  boundary = start_past-boundary;
  script = start_at_end-script;
}
