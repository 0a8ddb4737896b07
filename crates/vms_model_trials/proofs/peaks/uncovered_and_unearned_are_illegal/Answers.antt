use Rattle.vms_core.proofs.Common.{uncovered_threshold_illegal, uncovered_mark_illegal, acknowledged_early_illegal}
use Rattle.vms_core.proofs.Common.{acknowledged_other_illegal}
use Rattle.vms_model_trials.proofs.peaks.uncovered_and_unearned_are_illegal.Goals as goal

pub returns : goal.returns
returns c = record {
  threshold = uncovered_threshold_illegal;
  mark = uncovered_mark_illegal;
  early = acknowledged_early_illegal;
  other = acknowledged_other_illegal;
}
