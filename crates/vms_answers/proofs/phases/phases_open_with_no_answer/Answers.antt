-- Nothing is read of the opening.
use Rattle.vms_answers.proofs.OpenAnswers.{Answered-none}
use Rattle.vms_answers.proofs.phases.phases_open_with_no_answer.Goals as goal

pub returns : goal.returns
returns c = Answered-none
