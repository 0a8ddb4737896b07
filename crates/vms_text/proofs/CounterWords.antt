-- For other crates too: the three words of a counter.
use Rattle.std.proofs.Common.{ℕ, ◌≡◌, ◌<◌, Bool, true, [], ◌∷◌, ◌++◌, Some, ◌∙◌, ap, length, get_or}
use Rattle.std.proofs.lemmas.List.Sums.{AllPass-from_list_all}
use Rattle.std.specs.Fmt.{decimal}
use Rattle.std.specs.Prelude.{bytes_eq, position}
use Rattle.vms_base.specs.declared.headers.Header.{Header}
use Rattle.vms_base.specs.Common.{IsHeader, IsNamed, class_names, is_of_node, place_of, position_of}
use Rattle.vms_text.specs.Common.{counter_words, entry_if_any, place_words}
use Rattle.vms_text.proofs.Entries.{entry_if_any-within}
use Rattle.vms_text.proofs.ItemNames.{class_names-differ, class_names-short}
use Rattle.vms_text.proofs.NameLookups.{position-name}
use Rattle.vms_text.proofs.PlacesRead.{SpellsPlace}
use Rattle.vms_text.proofs.Sentences.{is_short}

module _ (header : Header) (is : IsHeader header) where
  pub item_word-short : (node : Bool) (n : ℕ) → n < length (class_names node header.items)
      → is_short (get_or (class_names node header.items) n []) ≡ true
  item_word-short node n within =
      AllPass-from_list_all is_short (class_names node header.items)
      (class_names-short header.items is.items_valid is.items_differ node) n [] within

  pub item_word-found : (node : Bool) (n : ℕ) → n < length (class_names node header.items)
      → position (bytes_eq (get_or (class_names node header.items) n [])) (class_names node header.items) ≡ Some n
  item_word-found node n within =
      position-name (class_names node header.items) n
      (class_names-differ header.items is.items_valid is.items_differ node) within

  -- the words of a counter, of those of its place
  pub counter_words-at : (counter : ℕ)
      (spells : SpellsPlace header.layout (place_words header (place_of header.layout counter))
      (place_of header.layout counter)) → IsNamed header counter
      → counter_words header counter
      ≡ decimal spells.node ∷ spells.kind ∷ get_or (class_names (is_of_node header.layout counter) header.items)
      (position_of header.layout counter) [] ∷ []
  counter_words-at counter spells named =
      let names = class_names (is_of_node header.layout counter) header.items in
      let n = position_of header.layout counter in
      ap (λ words. words ++ entry_if_any names n) spells.words_are
      ∙ ap (λ words. decimal spells.node ∷ spells.kind ∷ words) (entry_if_any-within names n [] named)
