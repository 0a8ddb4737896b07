use Rattle.vms_history.proofs.PassLaws as passes
use Rattle.vms_history.proofs.laws.passes.acting_goes_by_own_events.Goals as goal

pub returns : goal.returns
returns g c = passes.Acts-same g.T.Table.machine
