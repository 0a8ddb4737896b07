use Rattle.vms_cursors.proofs.TestGoes.{doubtful-due, doubtful-ended, some_positions}
use Rattle.vms_cursors.proofs.test_positions.TestPosition.due.Goals as goal

pub counter-requires-clause-position : goal.counter-requires-clause-position
counter-requires-clause-position c = some_positions c.args.layout.now c.requires.layout

pub counter-requires-in-Doubtful-clause-position : goal.counter-requires-in-Doubtful-clause-position
counter-requires-in-Doubtful-clause-position c = some_positions c.args.layout.now c.requires.layout

pub returns-in-Doubtful-clause-due : goal.returns-in-Doubtful-clause-due
returns-in-Doubtful-clause-due c = λ header mark most same.
    doubtful-due header c.args.zone mark most c.args.layout.now c.counter-in-Doubtful.result same
    c.counter-in-Doubtful.ensures.value c.in-Doubtful.snapshot c.args.self c.in-Doubtful.is c.due.result
    c.due.ensures.due

pub returns-in-Doubtful-clause-ended : goal.returns-in-Doubtful-clause-ended
returns-in-Doubtful-clause-ended c = λ header mark most same none.
    doubtful-ended header c.args.zone mark most c.args.layout.now c.counter-in-Doubtful.result same
    c.counter-in-Doubtful.ensures.value c.in-Doubtful.snapshot c.args.self c.in-Doubtful.is
    (c.due.ensures.ended none)
