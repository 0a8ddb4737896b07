use Rattle.vms_judge.proofs.OneVerdict.{one_verdict}
use Rattle.vms_judge.proofs.laws.one_verdict.Goals as goal

pub returns : goal.returns
returns g c = λ facts events first second. one_verdict g.T.Table.machine facts events first second
