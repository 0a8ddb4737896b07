-- The definitions that other crates and this one's proofs cite, passed on from one place. Declares nothing.
pub use Rattle.vms_words.specs.Spots.{IsSpot, cpu_of_spot, groups_start, place_in, spot_before, spot_in, spot_in_row}
pub use Rattle.vms_words.specs.Shown.{acknowledgement_word, cpu_word, first_words, group_at, packed_mark, spot_word}
pub use Rattle.vms_words.specs.Shown.{threshold_word, word_by}
pub use Rattle.vms_words.specs.Rows.{AreInRows, AreThere}
pub use Rattle.vms_words.specs.Lists.{byte_at-lt, list_told, low_first-below, word-told}
pub use Rattle.vms_words.specs.Told.{acknowledgement_told, begins_it, cpu_told, ends_it, told}
pub use Rattle.vms_words.specs.PagePasses.{HoldsSpending, IsOwningPass, KeepsNumbers, OwningPass, SpendsNothing}
pub use Rattle.vms_words.specs.Puts.{HasMissed, HasPut, MayPut}
pub use Rattle.vms_words.specs.PageTables.{AreMadeFor}
pub use Rattle.vms_words.specs.KeptSettings.{IsControlPass, IsKept, IsMainPass, KeepsSettings, kept_after, kept_peak}
pub use Rattle.vms_words.specs.KeptSettings.{kept_sets, kept_sum, kept_threshold, largest_sets, with_kept_peak}
pub use Rattle.vms_words.specs.KeptSettings.{with_kept_threshold}
