use Rattle.std.proofs.Common.{◌≡◌, List, ◌++◌, drop, length}
use Rattle.vms_answers.specs.Common.{NumberedAnswer, merged, left_of, told_by}
use Rattle.vms_run.proofs.handing.hand_on.Given as goal

-- the answers of the lines so far are handed on, and those of the others are left
abbrev pub invariant-loop-item : goal.invariant-loop-item
invariant-loop-item g l = (before : List NumberedAnswer)
    × g.A.AnswerTaker.Takes l.header l.initial.taker before l.taker
    × (length l.counts ≡ length l.lanes)
    × (before ++ merged (drop l.item-index l.items) (left_of l.lanes l.counts) ≡ merged l.items (told_by l.lanes))
