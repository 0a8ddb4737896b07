use Rattle.std.proofs.Common.{◌≡◌, ℕ, ◌<◌, length, slice_index_or}
use Rattle.vms_words.proofs.endings.clear.Given as goal

-- the row keeps its length, and its first entries are cleared
abbrev pub invariant-loop-n : goal.invariant-loop-n
invariant-loop-n g l = record {
  same_length : length l.row ≡ length l.fn.row;
  done : (m : ℕ) → m < l.n → (default : _) → slice_index_or l.row m default ≡ l.value;
}
