use Rattle.std.proofs.Common.{◌≡◌, ℕ, ◌+◌, ◌<◌, pos, length, slice_index_or}
use Rattle.vms_words.proofs.endings.put_list.Given as goal

-- the row keeps its length and what stands before, and the first differentials are put
abbrev pub invariant-loop-i : goal.invariant-loop-i
invariant-loop-i l = record {
  same_length : length l.row ≡ length l.fn.row;
  put : (m : ℕ) → m < l.i → slice_index_or l.row (l.at + m) (pos 0) ≡ slice_index_or l.diffs.values m (pos 0);
  before : (m : ℕ) → m < l.at → slice_index_or l.row m (pos 0) ≡ slice_index_or l.fn.row m (pos 0);
}
