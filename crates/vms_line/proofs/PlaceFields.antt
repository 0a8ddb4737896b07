-- The words of a place are read back as that place, in the fields of a line.
use Rattle.std.proofs.Common.{ℕ, ◌≡◌, ◌+◌, ◌-◌, ◌<◌, [], ◌∷◌, refl, ap, arith, length, get_or, map}
use Rattle.std.specs.Fmt.{decimal}
use Rattle.std.specs.Prelude.{Ok, option_to_list}
use Rattle.vms_base.specs.declared.headers.Header.{Header}
use Rattle.vms_base.specs.declared.kinds.ZoneName.{ZoneName}
use Rattle.vms_base.specs.Common.{IsLayout, IsNode}
use Rattle.vms_text.specs.Common.{place_words}
use Rattle.vms_text.proofs.Common.{SpellsPlace, kind_word, node_most-holds, node_at-own, node_place-own, zone_named-own}
use Rattle.vms_text.proofs.Common.{zone_node-most, unsigned_of-decimal}
use Rattle.vms_line.specs.Common.{node_field, place_field, zone_field, node_number_words}

module _ (header : Header) (layout : IsLayout header.layout) where
  pub place_field-spelled : (place : ℕ) (spells : SpellsPlace header.layout (place_words header place) place)
      → place_field header (decimal spells.node) spells.kind ≡ Ok (record { number = place })
  place_field-spelled place spells =
      let most = spells.node_most in
      rw (unsigned_of-decimal spells.node (omega arith), spells.named) refl

  -- those of a zone name a zone
  pub zone_field-spelled : (place : ℕ) (d : ZoneName) → place < length header.layout.zones
      → zone_field header (decimal (get_or header.layout.zones place d).node)
      (kind_word (get_or header.layout.zones place d).kind) ≡ Ok (record { number = place })
  zone_field-spelled place d within =
      let most = zone_node-most header.layout layout place d within in
      rw (
        unsigned_of-decimal (get_or header.layout.zones place d).node (omega (arith, most)),
        zone_named-own header layout place d within,
      ) refl

  pub node_number_words-own : (place : ℕ) → IsNode header.layout place
      → node_number_words header place
      ≡ decimal (get_or header.layout.nodes (place - length header.layout.zones) 0) ∷ []
  node_number_words-own place is =
      ap (λ node. map decimal (option_to_list node)) (node_at-own header.layout layout place is)

  pub node_field-spelled : (place : ℕ) → IsNode header.layout place
      → node_field header (decimal (get_or header.layout.nodes (place - length header.layout.zones) 0))
      ≡ Ok (record { number = place })
  node_field-spelled place is =
      let index = place - length header.layout.zones in
      let within : index < length header.layout.nodes = omega arith in
      let back : length header.layout.zones + index ≡ place = omega arith in
      let most = node_most-holds header.layout layout index within in
      rw (
        unsigned_of-decimal (get_or header.layout.nodes index 0) (omega (arith, most)),
        node_place-own header.layout layout index within,
        back,
      ) refl
