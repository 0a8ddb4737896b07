-- For other crates too: the lemmas that they cite, passed on from one place. Declares nothing.
pub use Rattle.vms_rows.proofs.RowWords.{length-rows_of, rows_of-cell, rows_of-changed, rows_of-more, rows_of-none}
pub use Rattle.vms_rows.proofs.RowWords.{rows_of-set}
pub use Rattle.vms_rows.proofs.RowLines.{rows-apart}
pub use Rattle.vms_rows.proofs.Cells.{cells-same, length-part, part-at}
