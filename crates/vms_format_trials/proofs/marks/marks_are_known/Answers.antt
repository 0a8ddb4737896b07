-- Each number is computed from its definition.
use Rattle.std.proofs.Common.{refl}
use Rattle.vms_base.specs.Numbers as numbers
use Rattle.vms_format_trials.proofs.marks.marks_are_known.Goals as goal

pub returns : goal.returns
unfolding numbers.highest_bit
returns c = record {
  linux = refl;
  cover = refl;
}
