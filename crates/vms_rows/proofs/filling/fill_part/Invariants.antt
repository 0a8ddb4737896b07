use Rattle.std.proofs.Common.{◌≡◌, ℕ, ◌+◌, ◌<◌, length, slice_index, slice_index_or}
use Rattle.vms_rows.specs.Common.{last_words}
use Rattle.vms_rows.proofs.filling.fill_part.Given as goal

-- the row keeps its length and what stands before, and its first entries are read
abbrev pub invariant-loop-n : goal.invariant-loop-n
invariant-loop-n g l = record {
  len : length l.row ≡ length l.fn.row;
  each : (m : ℕ) → m < l.n → (default : _) → slice_index_or l.row (l.at + m) default
      ≡ g.R.Reads.read (slice_index (last_words g.L.Ledger.machine g.L.Ledger.shown l.closing) (l.start + m));
  before : (m : ℕ) → m < l.at → (default : _) → slice_index_or l.row m default ≡ slice_index_or l.fn.row m default;
}
