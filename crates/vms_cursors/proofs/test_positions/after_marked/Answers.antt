use Rattle.vms_cursors.proofs.TestGoes.{some_positions}
use Rattle.vms_cursors.proofs.test_positions.after_marked.Goals as goal

pub counter-requires-clause-position : goal.counter-requires-clause-position
counter-requires-clause-position c = some_positions c.args.layout.now c.requires.layout
