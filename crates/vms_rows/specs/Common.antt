-- The definitions that other crates and this one's proofs cite, passed on from one place. Declares nothing.
pub use Rattle.vms_rows.specs.Rows.{gap, line_of, row_place, row_width, word_in}
pub use Rattle.vms_rows.specs.LastWords.{last_words}
