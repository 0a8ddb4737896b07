use Rattle.vms_answers.proofs.MergedLines.{lanes-answer}
use Rattle.vms_answers.proofs.laws.lanes_answer_their_lines.Goals as goal

pub returns : goal.returns
returns c = λ header w items left up. lanes-answer header w items left up
