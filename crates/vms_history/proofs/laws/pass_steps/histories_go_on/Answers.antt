use Rattle.vms_history.proofs.MadeSteps as made
use Rattle.vms_history.proofs.laws.pass_steps.histories_go_on.Goals as goal

pub returns : goal.returns
returns g c = record {
  none = made.goes_on-none g.T.Table.machine;
  both = made.goes_on-both g.T.Table.machine;
}
