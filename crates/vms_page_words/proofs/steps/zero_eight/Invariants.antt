use Rattle.std.proofs.Common.{◌≡◌, length}
use Rattle.vms_core.specs.Cells.{zeroed}
use Rattle.vms_page_words.proofs.steps.zero_eight.Given as goal

-- so many numbers are 0, and the list is as long as before
abbrev pub invariant-loop-n : goal.invariant-loop-n
invariant-loop-n l = record {
  same_length : length l.numbers ≡ length l.initial.numbers;
  zeros : l.numbers ≡ zeroed l.initial.numbers l.start l.n;
}
