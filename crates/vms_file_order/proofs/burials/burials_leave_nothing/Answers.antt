-- What a CPU has left that is absent in the end, by the laws of both tables.
use Rattle.vms_file_order.proofs.BuriedCpus.{LeavesNothing-buried}
use Rattle.vms_file_order.proofs.burials.burials_leave_nothing.Goals as goal

pub returns : goal.returns
returns g c header w items hs phase buried = LeavesNothing-buried c.folded_words_are_zero.ensures.stay
    c.laws_are_kept.ensures header g.R.ThresholdRules.pressure g.R.ThresholdRules.normal w items hs phase buried
