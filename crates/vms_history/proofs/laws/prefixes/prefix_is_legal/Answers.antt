use Rattle.vms_history.proofs.Prefixes as prefixes
use Rattle.vms_history.proofs.laws.prefixes.prefix_is_legal.Goals as goal

pub returns : goal.returns
returns g c = record {
  prefix = prefixes.prefix_is_legal g.T.Table.machine;
  base =
      prefixes.base_can_begin g.T.Table.machine;
}
