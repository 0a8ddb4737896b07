use Rattle.vms_history.proofs.PassLaws as passes
use Rattle.vms_history.proofs.laws.passes.main_changes_passes.Goals as goal

pub returns : goal.returns
returns g c = record {
  begun = passes.begun_in-main g.T.Table.machine.role;
  lives =
      passes.lives_in-main g.T.Table.machine.role;
  owner = passes.owner_in-main g.T.Table.machine.role;
}
