-- The set of the threshold of a node, and any other step.
use Rattle.std.proofs.Common.{◌≡◌, ◌<◌, ◌≤◌, ◌+◌, [], ◌∷◌, take, length, ap, sym, ◌∙◌, arith}
use Rattle.std.specs.Prelude.{slice_index_or}
use Rattle.vms_calls.specs.Common.{CpuId, PlaceId, SetT, after, largest_on}
use Rattle.vms_cursors.specs.RatingClauses.{facts_with}
use Rattle.vms_cursors.specs.Ratings.{rating_at}
use Rattle.vms_cursors.specs.declared.rating_positions.RatingPosition.TheVariants.{Nodes}
use Rattle.vms_cursors.proofs.PlanEquations.{stops-along}
use Rattle.vms_cursors.proofs.Goes.{ends-stops}
use Rattle.vms_cursors.proofs.RatingGoes.{known-goes, known-stops, node-is}
use Rattle.vms_cursors.proofs.RatingPlans.{nodes-ended}
use Rattle.vms_cursors.proofs.StepReadings.{set_threshold-other, set_threshold-read, set_threshold-same}
use Rattle.vms_plans.specs.Common.{ends}
use Rattle.vms_cursors.proofs.rating_positions.after_node.Goals as goal

pub returns-then-node-nodes-clause-stops : goal.returns-then-node-nodes-clause-stops
returns-then-node-nodes-clause-stops g c = λ none sizes base p h.
    let shape = c.args.layout.now in
    let P = g.R.ThresholdRules.pressure in
    let N = g.R.ThresholdRules.normal in
    let facts = facts_with shape sizes base in
    let most : length shape.nodes ≤ c.args.node =
    omega (arith, c.if-node-nodes.true, ap length c.nodes.ensures.value) in
    stops-along (ends (tt {0})) (rating_at facts p P N c.args.call h (Nodes c.args.seen c.args.node c.args.cpu))
    c.args.step (nodes-ended facts p P N c.args.call h c.args.seen c.args.node c.args.cpu most)
    (ends-stops (tt {0}) c.args.step)

pub returns-in-Some-clause-goes : goal.returns-in-Some-clause-goes
returns-in-Some-clause-goes g c = λ sizes base p h.
    let shape = c.args.layout.now in
    let P = g.R.ThresholdRules.pressure in
    let N = g.R.ThresholdRules.normal in
    let facts = facts_with shape sizes base in
    let at = rating_at facts p P N c.args.call h (Nodes c.args.seen c.args.node c.args.cpu) in
    let within : c.args.node < length shape.nodes =
    omega (arith, c.if-node-nodes.false, ap length c.nodes.ensures.value) in
    let on = c.requires.settled within in
    let cpu : CpuId = record { number = c.args.cpu } in
    let place : PlaceId = record { number = length shape.zones + c.args.node } in
    let same : place ≡ c.node_place.result = ap (λ n. record { number = n }) (sym c.node_place.ensures) in
    let t = largest_on shape (take (length shape.zones) c.args.seen.thresholds)
    (slice_index_or shape.nodes c.args.node 0) in
    let set : c.in-Some.set ≡ t = omega (arith, c.if-set-threshold.true, c.node_threshold-threshold.ensures) in
    known-goes at (SetT cpu place t)
    (λ s. rating_at facts p P N c.args.call (after p (s ∷ []) h) (Nodes c.args.seen c.args.node (c.args.cpu + 1)))
    (node-is facts p P N c.args.call h c.args.seen c.args.node c.args.cpu within on.0 on.1) c.args.step
    (ap (SetT cpu place) (sym set) ∙ ap (λ q. SetT cpu q c.in-Some.set) same
    ∙ set_threshold-read cpu c.node_place.result c.args.step c.in-Some.set (sym c.in-Some.ensures))

pub returns-in_default-clause-stops : goal.returns-in_default-clause-stops
returns-in_default-clause-stops g c = λ none sizes base p h.
    let shape = c.args.layout.now in
    let P = g.R.ThresholdRules.pressure in
    let N = g.R.ThresholdRules.normal in
    let facts = facts_with shape sizes base in
    let at = rating_at facts p P N c.args.call h (Nodes c.args.seen c.args.node c.args.cpu) in
    let within : c.args.node < length shape.nodes =
    omega (arith, c.if-node-nodes.false, ap length c.nodes.ensures.value) in
    let on = c.requires.settled within in
    let cpu : CpuId = record { number = c.args.cpu } in
    let place : PlaceId = record { number = length shape.zones + c.args.node } in
    let same : place ≡ c.node_place.result = ap (λ n. record { number = n }) (sym c.node_place.ensures) in
    let t = largest_on shape (take (length shape.zones) c.args.seen.thresholds)
    (slice_index_or shape.nodes c.args.node 0) in
    let differ : c.in-Some.set ≡ t → ⊥ = λ is. absurd (omega (
      arith,
      c.if-set-threshold.false,
      is,
      c.node_threshold-threshold.ensures,
    )) in
    known-stops at (SetT cpu place t)
    (λ s. rating_at facts p P N c.args.call (after p (s ∷ []) h) (Nodes c.args.seen c.args.node (c.args.cpu + 1)))
    (node-is facts p P N c.args.call h c.args.seen c.args.node c.args.cpu within on.0 on.1) c.args.step
    (λ is. differ (set_threshold-same cpu place c.in-Some.set t (ap (λ q. SetT cpu q c.in-Some.set) same
    ∙ set_threshold-read cpu c.node_place.result c.args.step c.in-Some.set (sym c.in-Some.ensures) ∙ sym is)))

pub returns-in_default-2-clause-stops : goal.returns-in_default-2-clause-stops
returns-in_default-2-clause-stops g c = λ none sizes base p h.
    let shape = c.args.layout.now in
    let P = g.R.ThresholdRules.pressure in
    let N = g.R.ThresholdRules.normal in
    let facts = facts_with shape sizes base in
    let at = rating_at facts p P N c.args.call h (Nodes c.args.seen c.args.node c.args.cpu) in
    let within : c.args.node < length shape.nodes =
    omega (arith, c.if-node-nodes.false, ap length c.nodes.ensures.value) in
    let on = c.requires.settled within in
    let cpu : CpuId = record { number = c.args.cpu } in
    let place : PlaceId = record { number = length shape.zones + c.args.node } in
    let same : place ≡ c.node_place.result = ap (λ n. record { number = n }) (sym c.node_place.ensures) in
    let t = largest_on shape (take (length shape.zones) c.args.seen.thresholds)
    (slice_index_or shape.nodes c.args.node 0) in
    known-stops at (SetT cpu place t)
    (λ s. rating_at facts p P N c.args.call (after p (s ∷ []) h) (Nodes c.args.seen c.args.node (c.args.cpu + 1)))
    (node-is facts p P N c.args.call h c.args.seen c.args.node c.args.cpu within on.0 on.1) c.args.step
    (λ is. set_threshold-other cpu c.node_place.result c.args.step (sym c.in_default.ensures) t
    (ap (λ q. SetT cpu q t) (sym same) ∙ is))
