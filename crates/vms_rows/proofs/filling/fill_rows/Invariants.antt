use Rattle.std.proofs.Common.{◌≡◌, ℕ, ◌+◌, ◌<◌, length, slice_index, slice_index_or}
use Rattle.vms_history.specs.Common.{cell}
use Rattle.vms_rows.specs.Common.{last_words}
use Rattle.vms_rows.proofs.filling.fill_rows.Given as goal

-- the first rows are filled
abbrev pub invariant-loop-cpu : goal.invariant-loop-cpu
invariant-loop-cpu g l = record {
  len : length l.table ≡ length l.fn.table;
  each : (c k : ℕ) → c < l.cpu → k < l.count → (default : _) → slice_index_or l.table (cell l.count c k) default
      ≡ g.R.Reads.read (slice_index (last_words g.L.Ledger.machine g.L.Ledger.shown l.closing)
      (l.start + cell l.width c k));
}
