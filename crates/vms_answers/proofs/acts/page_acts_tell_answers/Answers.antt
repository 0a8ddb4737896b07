-- The law of every call on page counters.
use Rattle.vms_answers.proofs.ActAnswers.{Tell-pages}
use Rattle.vms_answers.proofs.acts.page_acts_tell_answers.Goals as goal

pub returns : goal.returns
returns g c = λ header w. Tell-pages header w g.R.ThresholdRules.pressure g.R.ThresholdRules.normal
