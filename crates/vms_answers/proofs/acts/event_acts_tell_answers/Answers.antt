-- The steps of the call are those of the act.
use Rattle.vms_answers.proofs.ActAnswers.{Tell-events}
use Rattle.vms_answers.proofs.acts.event_acts_tell_answers.Goals as goal

pub returns : goal.returns
returns c = λ header w. Tell-events header w c.answers_are_read.ensures.call
