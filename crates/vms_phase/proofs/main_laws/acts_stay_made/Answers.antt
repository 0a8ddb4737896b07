use Rattle.vms_phase.proofs.MainLanes.{acts-stay}
use Rattle.vms_phase.proofs.main_laws.acts_stay_made.Goals as goal

pub returns : goal.returns
returns g c = λ setting lane p. acts-stay (g.T.LineTable.makes setting lane p) p
