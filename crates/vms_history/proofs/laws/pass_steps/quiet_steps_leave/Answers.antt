use Rattle.vms_history.proofs.laws.pass_steps.quiet_steps_leave.Goals as goal

pub returns : goal.returns
returns g c = record { leaves = g.T.Table.quiet.leaves; asks_nothing = g.T.Table.quiet.asks_nothing }
