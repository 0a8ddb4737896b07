use Rattle.vms_history.proofs.Owners as owners
use Rattle.vms_history.proofs.laws.passes.owner_may_own.Goals as goal

pub returns : goal.returns
returns g c = record {
  may = owners.owner_may_own g.T.Table.machine;
  given = owners.owner_is_given g.T.Table.machine;
}
