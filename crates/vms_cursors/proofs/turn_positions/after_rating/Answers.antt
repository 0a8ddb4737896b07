-- The turn goes on as the call that gives normal thresholds does.
use Rattle.vms_cursors.proofs.TurnGoes.{settles-go, settles-stop}
use Rattle.vms_cursors.proofs.turn_positions.after_rating.Goals as goal

pub returns-in-Some-clause-goes : goal.returns-in-Some-clause-goes
returns-in-Some-clause-goes g c = λ base p h.
    let header = c.args.header.now in
    settles-go header base p g.R.ThresholdRules.pressure g.R.ThresholdRules.normal c.args.turn h c.args.zone
    c.args.verdict c.args.at c.args.step c.in-Some.later (c.in-Some.ensures.goes header.sizes base p h)

pub returns-in-None-clause-stops : goal.returns-in-None-clause-stops
returns-in-None-clause-stops g c = λ none base p h.
    let header = c.args.header.now in
    settles-stop header base p g.R.ThresholdRules.pressure g.R.ThresholdRules.normal c.args.turn h c.args.zone
    c.args.verdict c.args.at c.args.step (c.in-None.ensures.stops none header.sizes base p h)
