-- The line's steps come after those of its lane so far.
use Rattle.vms_answers.specs.Common.{steps_of_line}
use Rattle.vms_answers.proofs.OpenAnswers.{Answered-line}
use Rattle.vms_answers.proofs.phases.lines_answer_in_turn.Goals as goal

pub returns : goal.returns
returns g c header w lanes items hs answers answered item next answer among line tells =
    Answered-line header w lanes items hs answers answered item
    (steps_of_line header g.R.ThresholdRules.pressure g.R.ThresholdRules.normal w lanes item hs next line) answer among
    tells
