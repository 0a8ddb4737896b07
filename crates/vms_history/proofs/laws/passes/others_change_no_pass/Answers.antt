use Rattle.vms_history.proofs.PassLaws as passes
use Rattle.vms_history.proofs.laws.passes.others_change_no_pass.Goals as goal

pub returns : goal.returns
returns g c = record {
  begun = passes.begun_in-others g.T.Table.machine.role;
  lives =
      passes.lives_in-others g.T.Table.machine.role;
  owner = passes.owner_in-others g.T.Table.machine.role;
}
