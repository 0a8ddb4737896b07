-- The definitions that other crates and this one's proofs cite, passed on from one place. Declares nothing.
pub use Rattle.vms_text.specs.Lines.{SplitsLine, lines_of, without_last_empty}
pub use Rattle.vms_text.specs.Marks.{MarksSpaces}
pub use Rattle.vms_text.specs.Words.{IsNextWord, is_blank_byte, is_empty, is_word_byte, is_wrong_byte, joined}
pub use Rattle.vms_text.specs.Words.{space_parts, words_of}
pub use Rattle.vms_text.specs.Numbers.{is_digit, is_numeral, negative_of, number_within, signed_of, unsigned_of}
pub use Rattle.vms_text.specs.Reading.{and_then, is_clean, is_comment, is_ignored, most_line}
pub use Rattle.vms_text.specs.PlaceNames.{IsKnown, declared_items, is_in_bytes, is_item_in_bytes, is_node_place}
pub use Rattle.vms_text.specs.PlaceNames.{item_named, kind_named, place_named, zone_named}
pub use Rattle.vms_text.specs.Spelling.{counter_words, entry_if_any, place_words, sentence, zone_words}
pub use Rattle.vms_text.specs.Writing.{Begins, spaced, text_of}
pub use Rattle.vms_text.specs.KeptLanes.{IsKeepableLane}
