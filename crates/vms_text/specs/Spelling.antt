-- A line of words, and the words of places and counters.
use Rattle.std.specs.Prelude.{ℕ, nat_lt, if◌then◌else◌, List, [], ◌∷◌, ◌++◌, length, flat_map, codes, decimal}
use Rattle.std.specs.Prelude.{slice_get, option_to_list}
use Rattle.std.specs.List.{join_with_byte}
use Rattle.vms_base.specs.declared.headers.Header.{Header}
use Rattle.vms_base.specs.declared.kinds.ZoneName.{ZoneName}
use Rattle.vms_base.specs.Common.{class_names, is_of_node, kind_names, zone_at, node_at, zone_index, place_of}
use Rattle.vms_base.specs.Common.{position_of}

-- a line of these words: one blank between them, and the byte that ends it
abbrev pub sentence : List (List ℕ) → List ℕ
sentence words = join_with_byte 32 words ++ 10 ∷ []

-- a list's entry as a list of one, or none past its end
abbrev pub entry_if_any : {A : Type 0} → List A → ℕ → List A
entry_if_any names n = option_to_list (slice_get names n)

-- the two words of a place
abbrev pub zone_words : ZoneName → List (List ℕ)
zone_words zone = decimal zone.node ∷ entry_if_any kind_names (zone_index zone.kind)

abbrev pub node_words : ℕ → List (List ℕ)
node_words node = decimal node ∷ codes "node" ∷ []

abbrev pub place_words : Header → ℕ → List (List ℕ)
place_words header place =
    if nat_lt place (length header.layout.zones)
    then flat_map zone_words (option_to_list (zone_at header.layout place))
    else flat_map node_words (option_to_list (node_at header.layout place))

-- the three words of a counter
abbrev pub counter_words : Header → ℕ → List (List ℕ)
counter_words header counter = place_words header (place_of header.layout counter)
    ++ entry_if_any (class_names (is_of_node header.layout counter) header.items) (position_of header.layout counter)
