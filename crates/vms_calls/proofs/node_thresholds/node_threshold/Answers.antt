-- A node has a zone, so the largest threshold of its zones is at least 1.
use Rattle.std.proofs.Common.{◌≡◌, ℕ, ◌<◌, ◌≤◌, nat_eq, if◌then◌else◌, List, length, get_or, map, ap, ◌∙◌, subst, arith}
use Rattle.std.proofs.Common.{eq-eqb}
use Rattle.std.specs.Prelude.{Contains}
use Rattle.std.proofs.lemmas.List.{get_or_default, length-map}
use Rattle.vms_history.specs.Common.{ZoneName, node_of_zone, Shape, IsLayout, largest_below}
use Rattle.vms_history.proofs.Common.{largest_below-least}
use Rattle.vms_calls.specs.Common.{largest_on}
use Rattle.vms_calls.proofs.node_thresholds.node_threshold.Goals as goal

-- the largest threshold on a node is one of its zones'
largest-least : (shape : Shape) → IsLayout shape → (ts : List ℕ)
    → ((g : ℕ) → g < length shape.zones → 1 ≤ get_or ts g 0) → (node : ℕ) → Contains shape.nodes node
    → 1 ≤ largest_on shape ts node
largest-least shape layout ts each node known =
    let named = (layout.nodes_named node).0 known in
    let g = named.0 in
    let zone : g < length shape.zones =
    (let same = length-map shape.zones (λ (zone : ZoneName). zone.node) in let below = named.1 in omega arith) in
    let at : node_of_zone shape g ≡ node =
    get_or_default (map (λ (zone : ZoneName). zone.node) shape.zones) g 0 node named.1 ∙ named.2 in
    let here : of g ≡ get_or ts g 0 =
    ap (λ b. if b then get_or ts g 0 else 0) (eq-eqb (node_of_zone shape g) node at) in
    omega (arith, largest_below-least of (length shape.zones) g zone, here, each g zone)
  where
    of : ℕ → ℕ
    of y = if nat_eq (node_of_zone shape y) node then get_or ts y 0 else 0

pub returns-clause-least : goal.returns-clause-least
returns-clause-least c =
    let shape = c.args.layout.now in
    let ts = c.args.thresholds.now in
    let all : c.loop-g.g ≡ length shape.zones =
    omega (arith, c.loop-g-test.false, c.loop-g.auto.«g-end», ap length c.zones-g-end.ensures.value) in
    let value = subst (λ (n : ℕ). c.loop-g.largest
    ≡ largest_below (λ y. if nat_eq (node_of_zone shape y) c.args.node then get_or ts y 0 else 0) n) all
    c.loop-g.invariant.value in
    omega (
      arith,
      value,
      largest-least shape c.zones-g-end.ensures.is_layout ts c.requires.least c.args.node
          c.requires.node,
    )
