use Rattle.vms_history.proofs.PassLaws as passes
use Rattle.vms_history.proofs.laws.passes.nothing_follows.Goals as goal

pub returns : goal.returns
returns g c = passes.nothing_follows g.T.Table.machine
