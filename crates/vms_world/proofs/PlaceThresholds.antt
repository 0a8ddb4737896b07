-- For other crates too: the thresholds of places are from 1 to 125, where those of the zones are.
use Rattle.std.proofs.Common.{◌≡◌, ℕ, ◌-◌, ◌<◌, ◌≤◌, nat_eq, nat_lt, Bool, true, false, List, length, map, get_or, refl}
use Rattle.std.proofs.Common.{◌∙◌, arith, if◌then◌else◌}
use Rattle.std.specs.Prelude.{Contains}
use Rattle.std.proofs.lemmas.Bool.Decides.{nat_tests}
use Rattle.std.proofs.lemmas.List.{length-map, get_or_default}
use Rattle.std.proofs.lemmas.List.Elements.{Contains-get_or}
use Rattle.vms_calls.specs.Common.{Shape, IsLayout, IsPlace, IsZone, node_of_zone, most_threshold, largest_on}
use Rattle.vms_history.proofs.Common.{largest_below-least, largest_below-most}
use Rattle.vms_world.specs.Common.{place_threshold}

-- thresholds of the zones of a layout
pub record AreThresholds (shape : Shape) (zones : List ℕ) : Type 0 where
  pub least : (g : ℕ) → IsZone shape g → 1 ≤ get_or zones g 0
  pub most : (g : ℕ) → IsZone shape g → get_or zones g 0 ≤ most_threshold

module _ (shape : Shape) (layout : IsLayout shape) (zones : List ℕ) (are : AreThresholds shape zones) where
  -- the threshold of a zone for a node: its own where it is the node's
  abbrev of_node : ℕ → ℕ → ℕ
  of_node node z = if nat_eq (node_of_zone shape z) node then get_or zones z 0 else 0

  of_node-most : (z : ℕ) → IsZone shape z → (b : Bool) → (if b then get_or zones z 0 else 0) ≤ most_threshold
  of_node-most z known true = are.most z known
  of_node-most z known false = omega arith

  of_node-least : (node z : ℕ) → IsZone shape z → (b : Bool) → nat_eq (node_of_zone shape z) node ≡ b
      → node_of_zone shape z ≡ node → 1 ≤ (if b then get_or zones z 0 else 0)
  of_node-least node z known true is same = are.least z known
  of_node-least node z known false is same = absurd (grind (arith, nat_tests))

  node_zones-most : (node : ℕ) → largest_on shape zones node ≤ most_threshold
  node_zones-most node = largest_below-most (of_node node) (length shape.zones) most_threshold
      (λ z known. of_node-most z known (nat_eq (node_of_zone shape z) node))

  -- a node has a zone
  node-least : (n : ℕ) → n < length shape.nodes → 1 ≤ largest_on shape zones (get_or shape.nodes n 0)
  node-least n known = by ((layout.nodes_named node).0 (Contains-get_or shape.nodes n 0 known))
    where
      node : ℕ
      node = get_or shape.nodes n 0

      by : Contains (map (λ zone. zone.node) shape.zones) node → 1 ≤ largest_on shape zones node
      by (z, in_map, is) =
          let inside : z < length shape.zones = omega (arith, length-map shape.zones (λ zone. zone.node)) in
          let named : node_of_zone shape z ≡ node =
          get_or_default (map (λ zone. zone.node) shape.zones) z 0 node in_map ∙ is in
          omega (
            arith,
            of_node-least node z inside (nat_eq (node_of_zone shape z) node) refl named,
            largest_below-least (of_node node) (length shape.zones) z inside,
          )

  pub place_threshold-most : (g : ℕ) → IsPlace shape g → place_threshold shape zones g ≤ most_threshold
  place_threshold-most g g_in = by (nat_lt g (length shape.zones)) refl
    where
      by : (b : Bool) → nat_lt g (length shape.zones) ≡ b
          → (if b then get_or zones g 0
          else largest_on shape zones (get_or shape.nodes (g - length shape.zones) 0)) ≤ most_threshold
      by true zone = are.most g (grind (arith, nat_tests))
      by false node = node_zones-most (get_or shape.nodes (g - length shape.zones) 0)

  pub place_threshold-least : (g : ℕ) → IsPlace shape g → 1 ≤ place_threshold shape zones g
  place_threshold-least g g_in = by (nat_lt g (length shape.zones)) refl
    where
      by : (b : Bool) → nat_lt g (length shape.zones) ≡ b
          → 1 ≤ (if b then get_or zones g 0
          else largest_on shape zones (get_or shape.nodes (g - length shape.zones) 0))
      by true zone = are.least g (grind (arith, nat_tests))
      by false node =
          let past : length shape.zones ≤ g = grind (arith, nat_tests) in
          node-least (g - length shape.zones) (omega arith)
