use Rattle.std.proofs.Common.{◌≡◌, length}
use Rattle.vms_history.specs.Common.{AreBytes}
use Rattle.vms_judge_lines.proofs.pages.DiffsFromNumbers.from_numbers.Given as goal

abbrev pub invariant-loop-k : goal.invariant-loop-k
invariant-loop-k l = (length l.values ≡ 8) × AreBytes l.values
