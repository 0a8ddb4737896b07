use Rattle.std.proofs.Common.{List, take}
use Rattle.vms_answers.specs.Common.{NumberedAnswer}
use Rattle.vms_world.specs.Common.{lanes_of}
use Rattle.vms_replay_phase.specs.Common.{HasReplayed}
use Rattle.vms_replay_phase.proofs.phases.replay_phase.Given as goal

-- the lines so far are replayed, and their answers are taken
abbrev pub invariant-loop-item : goal.invariant-loop-item
invariant-loop-item g l = (told : List NumberedAnswer)
    × HasReplayed l.header (g.P.Rule.answers l.rules.pressure) (g.N.Rule.answers l.rules.normal)
    l.fn.world (lanes_of l.header.layout l.script) (take l.item-index l.script) told l.replay
    × g.A.AnswerTaker.Takes l.header l.initial.taker told l.taker
