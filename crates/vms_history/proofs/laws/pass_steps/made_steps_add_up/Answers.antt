use Rattle.vms_history.proofs.MadeSteps as made
use Rattle.vms_history.proofs.laws.pass_steps.made_steps_add_up.Goals as goal

pub returns : goal.returns
returns g c = record {
  none = made.made-none g.T.Table.machine;
  next = made.made-next g.T.Table.machine;
  others = made.made-others g.T.Table.machine;
  both = made.made-both g.T.Table.machine;
}
