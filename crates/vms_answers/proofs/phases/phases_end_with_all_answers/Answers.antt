-- Nothing is read of the closing.
use Rattle.vms_answers.proofs.OpenAnswers.{answers_of-closing}
use Rattle.vms_answers.proofs.phases.phases_end_with_all_answers.Goals as goal

pub returns : goal.returns
returns c = answers_of-closing
