-- For other crates too: the lemmas that they cite, passed on from one place. Declares nothing.
pub use Rattle.vms_text.proofs.Values.{and_left, and_right, number_within-is, number_within-le, signed_of-fits}
pub use Rattle.vms_text.proofs.NumberLaws.{number_within-decimal, signed_of-reads, unsigned_of-reads}
pub use Rattle.vms_text.proofs.Cuts.{position_or_len-none, position_or_len-some}
pub use Rattle.vms_text.proofs.TextLaws.{CutsLines-reached, Reaches, Reaches-line, Reaches-start, lines_of-append}
pub use Rattle.vms_text.proofs.TextLaws.{lines_of-begin, lines_of-ended, lines_of-first, slice_split-append}
pub use Rattle.vms_text.proofs.TextLaws.{without_last_empty-append}
pub use Rattle.vms_text.proofs.Words.{words_of-other}
pub use Rattle.vms_text.proofs.Appends.{Begins-after, OnErr-from, OnErr-true, OnOk-from, append_twice, joined-cons}
pub use Rattle.vms_text.proofs.Appends.{lines-take_more, sentence-cons}
pub use Rattle.vms_text.proofs.Entries.{entry_if_any-within}
pub use Rattle.vms_text.proofs.Sentences.{IsFew, ShortWord-from, few-clean, few-ignored, few-length, few-one_line}
pub use Rattle.vms_text.proofs.Sentences.{few-words_of, is_short}
pub use Rattle.vms_text.proofs.NameLookups.{bytes_eq-other, position-name, position-nowhere}
pub use Rattle.vms_text.proofs.SpelledNumbers.{decimal-after, decimal-is, decimal-short, signed-short}
pub use Rattle.vms_text.proofs.SpelledNumbers.{signed_of-spelled, unsigned_of-decimal}
pub use Rattle.vms_text.proofs.Apart.{AllPairs-from_map, all_differ-pairs}
pub use Rattle.vms_text.proofs.ItemNames.{class_names-apart, name-short}
pub use Rattle.vms_text.proofs.PlacesRead.{SpellsPlace, below-other, kind_named-word, kind_word, kind_word-entry}
pub use Rattle.vms_text.proofs.PlacesRead.{kind_word-short, node_at-own, node_most-holds, node_place-own, place-spelled}
pub use Rattle.vms_text.proofs.PlacesRead.{place_words-node, place_words-zone, some_zone, zone_named-own}
pub use Rattle.vms_text.proofs.PlacesRead.{zone_node-most}
pub use Rattle.vms_text.proofs.Pieces.{clean-other, is_ignored-none, word_byte-not_blank}
pub use Rattle.vms_text.proofs.Positions.{length-filter-le, position-lt, position-map}
pub use Rattle.vms_text.proofs.CounterWords.{counter_words-at, item_word-found, item_word-short}
