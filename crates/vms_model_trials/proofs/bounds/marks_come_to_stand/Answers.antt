-- Each number is computed from the story.
use Rattle.std.proofs.Common.{refl}
use Rattle.vms_base.specs.Numbers as numbers
use Rattle.vms_model_trials.proofs.bounds.marks_come_to_stand.Goals as goal

pub returns : goal.returns
unfolding numbers.highest_bit
returns c = record {
  normal = refl;
  linux = refl;
  lowered = λ l. refl;
  covered = refl;
  before = λ l. refl;
  after = λ l. refl;
  raised = λ l. refl;
  raised_mark = refl;
  large = λ l. refl;
  large_mark = refl;
}
