use Rattle.vms_history.proofs.PassLaws as passes
use Rattle.vms_history.proofs.laws.passes.owner_stays.Goals as goal

pub returns : goal.returns
returns g c = record {
  begun = passes.begun_in-append g.T.Table.machine.role;
  owner =
      passes.owner_in-append g.T.Table.machine;
}
