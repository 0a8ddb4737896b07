use Rattle.vms_near.proofs.SlackBounds.{marks-bound, values-tell}
use Rattle.vms_look.proofs.laws.marks_bound_zones.Goals as goal

pub returns : goal.returns
returns c = record { bounds = marks-bound; near = values-tell }
