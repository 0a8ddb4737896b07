-- What each call tells, by the laws of values.
use Rattle.vms_truth.proofs.CallAnswers.{answers-are_true}
use Rattle.vms_truth.proofs.EventCallAnswers.{event-answers_are_true}
use Rattle.vms_truth.proofs.PcpuCallAnswers.{pcpu-answers_are_true}
use Rattle.vms_truth.proofs.calls.calls_answer_truly.Goals as goal

pub returns : goal.returns
returns g c = record {
  pages = answers-are_true c.numbers_stay_near_totals.ensures.counters c.numbers_stay_near_totals.ensures.items
      g.R.ThresholdRules.pressure g.R.ThresholdRules.normal;
  events = event-answers_are_true c.laws_are_kept.ensures c.online_words_grow.ensures.between;
  counters = pcpu-answers_are_true;
}
