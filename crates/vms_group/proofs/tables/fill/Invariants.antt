use Rattle.std.proofs.Common.{◌≡◌, ℕ, ◌+◌, ◌<◌, pos, length, slice_index, slice_index_or}
use Rattle.vms_history.specs.Common.{signed_of_word}
use Rattle.vms_group_core.specs.Common.{state_after}
use Rattle.vms_group.specs.SharedWords.{shown}
use Rattle.vms_group.proofs.tables.fill.Given as goal

abbrev pub invariant-loop-n : goal.invariant-loop-n
invariant-loop-n l = record {
  len : length l.row ≡ length l.fn.row;
  each : (n : ℕ) → n < l.n → slice_index_or l.row (l.at + n) (pos 0)
      ≡ signed_of_word (slice_index (shown l.closing.facts (state_after l.closing.facts l.closing.events))
      (l.start + n));
  before : (n : ℕ) → n < l.at → slice_index_or l.row n (pos 0) ≡ slice_index_or l.fn.row n (pos 0);
}
