use Rattle.vms_history.proofs.PassLaws as passes
use Rattle.vms_history.proofs.laws.passes.one_live_owner.Goals as goal

pub returns : goal.returns
returns g c = record {
  owner = passes.one_live_owner g.T.Table.machine;
  alone =
      passes.owner_acts_alone g.T.Table.machine;
}
