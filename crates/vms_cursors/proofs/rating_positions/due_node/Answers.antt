-- The set of the threshold of a node is due, or the call has ended.
use Rattle.std.proofs.Common.{◌≡◌, ◌<◌, ◌≤◌, ◌+◌, [], ◌∷◌, take, length, ap, sym, subst, refl, arith}
use Rattle.std.specs.Prelude.{slice_index_or}
use Rattle.vms_calls.specs.Common.{CpuId, PlaceId, SetT, after, largest_on}
use Rattle.vms_plans.specs.declared.due_steps.DueStep.TheVariants.{Makes}
use Rattle.vms_cursors.specs.Cursors.{IsDue}
use Rattle.vms_cursors.specs.RatingClauses.{facts_with}
use Rattle.vms_cursors.specs.Ratings.{rating_at}
use Rattle.vms_cursors.specs.declared.rating_positions.RatingPosition.TheVariants.{Nodes}
use Rattle.vms_cursors.proofs.PlanEquations.{ended-along}
use Rattle.vms_cursors.proofs.RatingGoes.{known-due, node-is}
use Rattle.vms_cursors.proofs.RatingPlans.{nodes-ended}
use Rattle.vms_plans.specs.Common.{ends}
use Rattle.vms_cursors.proofs.rating_positions.due_node.Goals as goal

pub returns-then-node-nodes-clause-ended : goal.returns-then-node-nodes-clause-ended
returns-then-node-nodes-clause-ended g c = λ none sizes base p h.
    let shape = c.args.layout.now in
    let P = g.R.ThresholdRules.pressure in
    let N = g.R.ThresholdRules.normal in
    let facts = facts_with shape sizes base in
    let most : length shape.nodes ≤ c.args.node =
    omega (arith, c.if-node-nodes.true, ap length c.nodes.ensures.value) in
    ended-along (ends (tt {0})) (rating_at facts p P N c.args.call h (Nodes c.args.seen.now c.args.node c.args.cpu))
    (tt {0}) (nodes-ended facts p P N c.args.call h c.args.seen.now c.args.node c.args.cpu most) refl

pub returns-clause-due : goal.returns-clause-due
returns-clause-due g c = λ sizes base p h.
    let shape = c.args.layout.now in
    let P = g.R.ThresholdRules.pressure in
    let N = g.R.ThresholdRules.normal in
    let facts = facts_with shape sizes base in
    let at = rating_at facts p P N c.args.call h (Nodes c.args.seen.now c.args.node c.args.cpu) in
    let within : c.args.node < length shape.nodes =
    omega (arith, c.if-node-nodes.false, ap length c.nodes.ensures.value) in
    let on = c.requires.settled within in
    let cpu : CpuId = record { number = c.args.cpu } in
    let place : PlaceId = record { number = length shape.zones + c.args.node } in
    let same : place ≡ c.node_place.result = ap (λ n. record { number = n }) (sym c.node_place.ensures) in
    subst (λ (t : _). IsDue at (Makes (SetT cpu c.node_place.result t))) (sym c.node_threshold.ensures)
    (subst (λ (q : PlaceId). IsDue at (Makes (SetT cpu q (largest_on shape (take (length shape.zones)
    c.args.seen.now.thresholds) (slice_index_or shape.nodes c.args.node 0))))) same
    (known-due at (SetT cpu place (largest_on shape (take (length shape.zones) c.args.seen.now.thresholds)
    (slice_index_or shape.nodes c.args.node 0)))
    (λ s. rating_at facts p P N c.args.call (after p (s ∷ []) h) (Nodes c.args.seen.now c.args.node (c.args.cpu + 1)))
    (node-is facts p P N c.args.call h c.args.seen.now c.args.node c.args.cpu within on.0 on.1)))
