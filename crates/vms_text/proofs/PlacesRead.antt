-- For other crates too: the words of a place are read back as that place.
use Rattle.std.proofs.Common.{ℕ, ◌≡◌, ◌+◌, ◌-◌, ◌<◌, ◌≤◌, true, false, nat_lt, List, [], ◌∷◌, Some, refl, subst, ◌∙◌}
use Rattle.std.proofs.Common.{ap, arith, eq-eqb, length, get_or, map, option_map, inl, inr}
use Rattle.std.proofs.lemmas.Bool.{cases_lt}
use Rattle.std.proofs.lemmas.Bool.Decides.{nat_tests}
use Rattle.std.proofs.lemmas.List.{get_or-map, length-map}
use Rattle.std.proofs.lemmas.List.Elements.{All-contains, Contains-get_or}
use Rattle.std.proofs.lemmas.List.Kept.{AllPairs-from_increasing}
use Rattle.std.proofs.lemmas.Option.{slice_get-get_or}
use Rattle.std.specs.Fmt.{decimal}
use Rattle.std.specs.Prelude.{◌==◌, Contains, bytes_eq, codes, position}
use Rattle.vms_base.specs.declared.headers.Header.{Header}
use Rattle.vms_base.specs.declared.kinds.ZoneKind.{ZoneKind}
use Rattle.vms_base.specs.declared.kinds.ZoneKind.TheVariants.{Dma, Dma32, Normal, Movable}
use Rattle.vms_base.specs.declared.kinds.ZoneName.{ZoneName}
use Rattle.vms_base.specs.Common.{kind_names, IsLayout, IsNode, IsPlace, Shape, node_at, node_place, rank_of}
use Rattle.vms_base.specs.Common.{zone_index, zone_place}
use Rattle.vms_base.proofs.Common.{rises}
use Rattle.vms_text.specs.Common.{kind_named, place_named, zone_named, entry_if_any, place_words}
use Rattle.vms_text.proofs.NameLookups.{position-first}
use Rattle.vms_text.proofs.Sentences.{is_short}

-- the word of a kind
abbrev pub kind_word : ZoneKind → List ℕ
kind_word Dma = codes "DMA"
kind_word Dma32 = codes "DMA32"
kind_word Normal = codes "Normal"
kind_word Movable = codes "Movable"

pub kind_word-entry : (kind : ZoneKind) → entry_if_any kind_names (zone_index kind) ≡ kind_word kind ∷ []
kind_word-entry Dma = refl
kind_word-entry Dma32 = refl
kind_word-entry Normal = refl
kind_word-entry Movable = refl

pub kind_named-word : (kind : ZoneKind) → kind_named (kind_word kind) ≡ Some kind
kind_named-word Dma = refl
kind_named-word Dma32 = refl
kind_named-word Normal = refl
kind_named-word Movable = refl

pub kind_word-short : (kind : ZoneKind) → is_short (kind_word kind) ≡ true
kind_word-short Dma = refl
kind_word-short Dma32 = refl
kind_word-short Normal = refl
kind_word-short Movable = refl

kind_word-other : (kind : ZoneKind) → bytes_eq (kind_word kind) (codes "node") ≡ false
kind_word-other Dma = refl
kind_word-other Dma32 = refl
kind_word-other Normal = refl
kind_word-other Movable = refl

pub below-other : (a b : ℕ) → a < b → (a == b) ≡ false
below-other a b below = grind (arith, nat_tests)

-- what two words say of a place
pub record SpellsPlace (shape : Shape) (words : List (List ℕ)) (place : ℕ) : Type 0 where
  pub node : ℕ
  pub kind : List ℕ
  pub words_are : words ≡ decimal node ∷ kind ∷ []
  pub node_most : node ≤ 15
  pub short : is_short kind ≡ true
  pub named : place_named shape node kind ≡ Some place

module _ (shape : Shape) (layout : IsLayout shape) where
  pub zone_place-own : (place : ℕ) (d : ZoneName) → place < length shape.zones
      → zone_place shape (get_or shape.zones place d) ≡ Some place
  zone_place-own place d within =
      let name = get_or shape.zones place d in
      position-first (λ zone. rank_of zone == rank_of name) shape.zones place d
      within (eq-eqb (rank_of name) (rank_of name) refl)
      (λ k before. below-other (rank_of (get_or shape.zones k d)) (rank_of name)
      (rises rank_of shape.zones layout.zones_ascend k place d before within))

  node_position : (index : ℕ) → index < length shape.nodes
      → position (λ node. node == get_or shape.nodes index 0) shape.nodes ≡ Some index
  node_position index within =
      let node = get_or shape.nodes index 0 in
      position-first (λ other. other == node) shape.nodes index 0 within (eq-eqb node node refl)
      (λ k before. below-other (get_or shape.nodes k 0) node
      (AllPairs-from_increasing shape.nodes layout.nodes_ascend k index 0 before within))

  pub node_place-own : (index : ℕ) → index < length shape.nodes
      → node_place shape (get_or shape.nodes index 0) ≡ Some (length shape.zones + index)
  node_place-own index within = ap (option_map (λ i. length shape.zones + i)) (node_position index within)

  pub node_most-holds : (index : ℕ) → index < length shape.nodes → get_or shape.nodes index 0 ≤ 15
  node_most-holds index within = layout.nodes_most index 0 within

  pub zone_node-most : (place : ℕ) (d : ZoneName) → place < length shape.zones → (get_or shape.zones place d).node ≤ 15
  zone_node-most place d within =
      let node_of = λ (zone : ZoneName). zone.node in
      let read = get_or-map node_of shape.zones place d 0 within in
      let stands = Contains-get_or (map node_of shape.zones) place 0 (omega (arith, length-map shape.zones node_of)) in
      All-contains (λ node. node ≤ 15) shape.nodes (get_or shape.zones place d).node layout.nodes_most
      ((layout.nodes_named (get_or shape.zones place d).node).1
      (subst (Contains (map node_of shape.zones)) read stands))

  pub node_at-own : (place : ℕ) → IsNode shape place
      → node_at shape place ≡ Some (get_or shape.nodes (place - length shape.zones) 0)
  node_at-own place is =
      let after : nat_lt place (length shape.zones) ≡ false = grind (arith, nat_tests) in
      rw after (slice_get-get_or shape.nodes (place - length shape.zones) 0 (omega arith))

abbrev pub some_zone : ZoneName
some_zone = record { node = 0; kind = Dma }

module _ (header : Header) (layout : IsLayout header.layout) where
  pub place_words-zone : (place : ℕ) (d : ZoneName) → place < length header.layout.zones
      → place_words header place
      ≡ decimal (get_or header.layout.zones place d).node ∷ kind_word (get_or header.layout.zones place d).kind ∷ []
  place_words-zone place d within =
      let test : nat_lt place (length header.layout.zones) ≡ true = grind (arith, nat_tests) in
      rw (
        test,
        slice_get-get_or header.layout.zones place d within,
        kind_word-entry (get_or header.layout.zones place d).kind,
      ) refl

  pub place_words-node : (place : ℕ) → IsNode header.layout place
      → place_words header place
      ≡ decimal (get_or header.layout.nodes (place - length header.layout.zones) 0) ∷ codes "node" ∷ []
  place_words-node place is =
      let test : nat_lt place (length header.layout.zones) ≡ false = grind (arith, nat_tests) in
      rw (test, slice_get-get_or header.layout.nodes (place - length header.layout.zones) 0 (omega arith)) refl

  pub zone_named-own : (place : ℕ) (d : ZoneName) → place < length header.layout.zones
      → zone_named header.layout (get_or header.layout.zones place d).node
      (kind_word (get_or header.layout.zones place d).kind) ≡ Some place
  zone_named-own place d within =
      rw (kind_named-word (get_or header.layout.zones place d).kind)
      (zone_place-own header.layout layout place d within)

  pub zone-spelled : (place : ℕ) → place < length header.layout.zones
      → SpellsPlace header.layout (place_words header place) place
  zone-spelled place within =
      let zone = get_or header.layout.zones place some_zone in
      record {
        node = zone.node;
        kind = kind_word zone.kind;
        words_are = place_words-zone place some_zone within;
        node_most = zone_node-most header.layout layout place some_zone within;
        short = kind_word-short zone.kind;
        named = rw (kind_word-other zone.kind) (zone_named-own place some_zone within);
      }

  node_spelled : (place : ℕ) → IsNode header.layout place → SpellsPlace header.layout (place_words header place) place
  node_spelled place is =
      let index = place - length header.layout.zones in
      let within : index < length header.layout.nodes = omega arith in
      let back : length header.layout.zones + index ≡ place = omega arith in
      record {
        node = get_or header.layout.nodes index 0;
        kind = codes "node";
        words_are = place_words-node place is;
        node_most = node_most-holds header.layout layout index within;
        short = refl;
        named = node_place-own header.layout layout index within ∙ ap Some back;
      }

  -- the two words of a place name it
  pub place-spelled : (place : ℕ) → IsPlace header.layout place
      → SpellsPlace header.layout (place_words header place) place
  place-spelled place is =
      elim (cases_lt place (length header.layout.zones)) [
        | inl within ↦ zone-spelled place within
        | inr after ↦ node_spelled place (after, is)
      ]
