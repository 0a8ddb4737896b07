use Rattle.vms_percpu_near.proofs.RoughSigns.{compare-tells_sign}
use Rattle.vms_percpu_near.proofs.answers.compare_tells_true_sign.Goals as goal

pub returns : goal.returns
returns c = compare-tells_sign
