-- For other crates too: what the places of zones and nodes say of their lists.
use Rattle.std.proofs.Common.{◌≡◌, ℕ, zero, suc, ◌+◌, ◌-◌, ◌<◌, ◌≤◌, ◌↔◌, ◌∙◌, ap, sym, refl, arith, eq-eqb, true}
use Rattle.std.proofs.Common.{false, nat_lt, length, option_map, Option, Some, None}
use Rattle.std.specs.Prelude.{◌==◌, position, Contains, IsSome, IfSome, is_some}
use Rattle.std.proofs.lemmas.Bool.{eqb-true}
use Rattle.std.proofs.lemmas.Bool.Decides.{nat_tests}
use Rattle.vms_base.specs.declared.ids.PlaceId.{PlaceId}
use Rattle.vms_base.specs.declared.kinds.ZoneKind.{ZoneKind}
use Rattle.vms_base.specs.declared.kinds.ZoneKind.TheVariants.{Dma, Dma32, Normal, Movable}
use Rattle.vms_base.specs.declared.kinds.ZoneName.{ZoneName}
use Rattle.vms_base.specs.Common.{Shape, zone_index, rank_of, zone_place, zone_at, node_place, node_at}
use Rattle.vms_base.proofs.Lookups.{position-at, position-known}

abbrev kind_at : ℕ → ZoneKind
kind_at zero = Dma
kind_at (suc zero) = Dma32
kind_at (suc (suc zero)) = Normal
kind_at (suc (suc (suc n))) = Movable

kind_at-zone_index : (kind : ZoneKind) → kind_at (zone_index kind) ≡ kind
kind_at-zone_index Dma = refl
kind_at-zone_index Dma32 = refl
kind_at-zone_index Normal = refl
kind_at-zone_index Movable = refl

pub zone_index-lt : (kind : ZoneKind) → zone_index kind < 4
zone_index-lt Dma = omega arith
zone_index-lt Dma32 = omega arith
zone_index-lt Normal = omega arith
zone_index-lt Movable = omega arith

pub zone_index-injective : (a b : ZoneKind) → zone_index a ≡ zone_index b → a ≡ b
zone_index-injective a b same = sym (kind_at-zone_index a) ∙ ap kind_at same ∙ kind_at-zone_index b

abbrev named : ℕ → ZoneKind → ZoneName
named node kind = record { node = node; kind = kind }

pub rank_of-injective : (a b : ZoneName) → rank_of a ≡ rank_of b → a ≡ b
rank_of-injective a b same =
    let nodes : a.node ≡ b.node = omega (arith, zone_index-lt a.kind, zone_index-lt b.kind) in
    let indexes : zone_index a.kind ≡ zone_index b.kind = omega (arith, zone_index-lt a.kind, zone_index-lt b.kind) in
    let kinds : a.kind ≡ b.kind = zone_index-injective a.kind b.kind indexes in
    ap (λ node. named node a.kind) nodes ∙ ap (named b.node) kinds

module _ (shape : Shape) (name : ZoneName) where
  only_name : (zone : ZoneName) → (rank_of zone == rank_of name) ≡ true → zone ≡ name
  only_name zone same = rank_of-injective zone name (eqb-true (rank_of zone) (rank_of name) same)

  known : IsSome (zone_place shape name) ↔ Contains shape.zones name
  known = position-known (λ zone. rank_of zone == rank_of name) name
      (eq-eqb (rank_of name) (rank_of name) refl) only_name shape.zones

  -- what the place of a zone says of the zones
  pub zone_place-known : (place : Option PlaceId) → option_map (λ p. p.number) place ≡ zone_place shape name
      → IsSome place ↔ Contains shape.zones name
  zone_place-known None is = rw (← is) at known
  zone_place-known (Some place) is = rw (← is) at known

  pub zone_place-at : (place : Option PlaceId) → option_map (λ p. p.number) place ≡ zone_place shape name
      → IfSome place (λ p. zone_at shape p.number ≡ Some name)
  zone_place-at None is = tt
  zone_place-at (Some place) is =
      position-at (λ zone. rank_of zone == rank_of name) name
      (eq-eqb (rank_of name) (rank_of name) refl) only_name shape.zones place.number (sym is)

both_some : (zones : ℕ) (place : Option PlaceId) (found : Option ℕ)
    → option_map (λ p. p.number) place ≡ option_map (λ index. zones + index) found → is_some found ≡ is_some place
both_some zones None None is = refl
both_some zones None (Some index) is = cc
both_some zones (Some place) None is = cc
both_some zones (Some place) (Some index) is = refl

module _ (shape : Shape) (number : ℕ) where
  only_number : (node : ℕ) → (node == number) ≡ true → node ≡ number
  only_number node same = eqb-true node number same

  -- what the place of a node says of the nodes
  pub node_place-known : (place : Option PlaceId) → option_map (λ p. p.number) place ≡ node_place shape number
      → IsSome place ↔ Contains shape.nodes number
  node_place-known place is =
      let same = both_some (length shape.zones) place (position (λ node. node == number) shape.nodes) is in
      rw same at (position-known (λ node. node == number) number (eq-eqb number number refl) only_number shape.nodes)

  at_index : (place : ℕ) (found : Option ℕ) → position (λ node. node == number) shape.nodes ≡ found
      → Some place ≡ option_map (λ index. length shape.zones + index) found → node_at shape place ≡ Some number
  at_index place None none is = cc
  at_index place (Some index) found is =
      let same : place ≡ length shape.zones + index = cc in
      let test : nat_lt place (length shape.zones) ≡ false = grind (arith, nat_tests) in
      let back : place - length shape.zones ≡ index = omega arith in
      rw (test, back) (position-at (λ node. node == number) number
      (eq-eqb number number refl) only_number shape.nodes index found)

  pub node_place-at : (place : Option PlaceId) → option_map (λ p. p.number) place ≡ node_place shape number
      → IfSome place (λ p. node_at shape p.number ≡ Some number)
  node_place-at None is = tt
  node_place-at (Some place) is = at_index place.number _ refl is

-- zones of higher rank stand on no lower node
pub node-le : (a b : ZoneName) → rank_of a < rank_of b → a.node ≤ b.node
node-le a b less = omega (arith, zone_index-lt a.kind, zone_index-lt b.kind)
