use Rattle.vms_history.proofs.PassLaws as passes
use Rattle.vms_history.proofs.laws.passes.role_changes_passes.Goals as goal

pub returns : goal.returns
returns g c = record {
  begun = passes.begun_in-role g.T.Table.machine;
  lives =
      passes.lives_in-role g.T.Table.machine;
  owner = passes.owner_in-role g.T.Table.machine;
}
