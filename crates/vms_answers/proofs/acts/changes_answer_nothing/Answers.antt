-- Any change is read, whatever it changes.
use Rattle.vms_answers.proofs.ActAnswers.{Tell-changes}
use Rattle.vms_answers.proofs.acts.changes_answer_nothing.Goals as goal

pub returns : goal.returns
returns c = λ header w. Tell-changes header w c.changes_and_folds_are_told.ensures.change
