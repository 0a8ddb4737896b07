use Rattle.vms_history.proofs.PassLaws as passes
use Rattle.vms_history.proofs.laws.passes.not_given_is_unused.Goals as goal

pub returns : goal.returns
returns g c = record {
  own = passes.own-not_given g.T.Table.machine;
  owner =
      passes.owner_in-not_given g.T.Table.machine;
}
