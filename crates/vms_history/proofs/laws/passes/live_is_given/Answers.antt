use Rattle.vms_history.proofs.PassLaws as passes
use Rattle.vms_history.proofs.laws.passes.live_is_given.Goals as goal

pub returns : goal.returns
returns g c = passes.live_is_given g.T.Table.machine
