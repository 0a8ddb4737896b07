use Rattle.vms_cursors.proofs.TestGoes.{doubtful-goes, doubtful-stops, some_positions}
use Rattle.vms_cursors.proofs.test_positions.after_doubtful.Goals as goal

pub counter-requires-clause-position : goal.counter-requires-clause-position
counter-requires-clause-position c = some_positions c.args.layout.now c.requires.layout

pub returns-in-Some-clause-goes : goal.returns-in-Some-clause-goes
returns-in-Some-clause-goes c = λ header mark most same.
    doubtful-goes header c.args.zone mark most c.args.layout.now c.counter.result same c.counter.ensures.value
    c.args.snapshot c.args.step c.in-Some.later c.in-Some.ensures.goes

pub returns-in-None-clause-stops : goal.returns-in-None-clause-stops
returns-in-None-clause-stops c = λ header mark most same none.
    doubtful-stops header c.args.zone mark most c.args.layout.now c.counter.result same c.counter.ensures.value
    c.args.snapshot c.args.step (c.in-None.ensures.stops none)
