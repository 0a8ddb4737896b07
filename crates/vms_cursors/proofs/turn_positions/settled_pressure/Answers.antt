-- The call that gives thresholds under pressure is under way, or it has ended.
use Rattle.std.proofs.Common.{[], refl}
use Rattle.vms_calls.specs.declared.answers.Balance.TheVariants.{No}
use Rattle.vms_cursors.proofs.TurnGoes.{presses-ended}
use Rattle.vms_cursors.proofs.turn_positions.settled_pressure.Goals as goal

pub returns-in-Some-clause-settled : goal.returns-in-Some-clause-settled
returns-in-Some-clause-settled g c = λ base p h.
    (c.in-Some.ensures.due c.args.header.now.sizes base p h).1

pub returns-in-None-clause-same : goal.returns-in-None-clause-same
returns-in-None-clause-same g c = λ base p h.
    let header = c.args.header.now in
    presses-ended header base p g.R.ThresholdRules.pressure g.R.ThresholdRules.normal c.args.turn h c.args.at
    c.requires.answered (c.in-None.ensures.ended refl header.sizes base p h) c.from.result c.from.ensures.same

pub returns-in-None-clause-ended : goal.returns-in-None-clause-ended
returns-in-None-clause-ended g c = λ ended base p h.
    (returns-in-None-clause-same g c base p h [] No).1 (ended base p h)
