use Rattle.vms_history.proofs.Prefixes as prefixes
use Rattle.vms_history.proofs.laws.prefixes.newest_event_is_legal.Goals as goal

pub returns : goal.returns
returns g c = record {
  before = prefixes.legal_before g.T.Table.machine;
  acts =
      prefixes.acts_of g.T.Table.machine;
  meets = prefixes.meets_of g.T.Table.machine;
}
