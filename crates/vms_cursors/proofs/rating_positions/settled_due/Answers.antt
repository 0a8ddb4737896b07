-- What is due at each position.
use Rattle.std.proofs.Common.{◌+◌, [], ◌∷◌, refl, subst}
use Rattle.std.specs.Prelude.{Some}
use Rattle.vms_calls.specs.Common.{SetM, SetT, after}
use Rattle.vms_plans.specs.declared.due_steps.DueStep.TheVariants.{LoadsState, Makes}
use Rattle.vms_plans.specs.Common.{ends}
use Rattle.vms_cursors.specs.RatingClauses.{facts_with}
use Rattle.vms_cursors.specs.Ratings.{IsPositionWithin, IsSettled, rating_at}
use Rattle.vms_cursors.specs.declared.rating_positions.RatingPosition.TheVariants.{Mark, Nodes, Numbers, States}
use Rattle.vms_cursors.specs.declared.rating_positions.RatingPosition.TheVariants.{Thresholds, Zones}
use Rattle.vms_cursors.proofs.PlanEquations.{ended-along}
use Rattle.vms_cursors.proofs.RatingAlong.{rating-as, rating-due, rating-ended}
use Rattle.vms_cursors.proofs.RatingGoes.{known-due, states-due, threshold-is}
use Rattle.vms_cursors.proofs.RatingPlans.{zones-ended}
use Rattle.vms_cursors.proofs.rating_positions.settled_due.Goals as goal

pub returns-in-States-clause-due : goal.returns-in-States-clause-due
returns-in-States-clause-due g c =
    let shape = c.args.layout.now in
    let P = g.R.ThresholdRules.pressure in
    let N = g.R.ThresholdRules.normal in
    let at = States c.in-States.field-0 c.in-States.cpu in
    let settled = subst (IsSettled shape c.args.call) c.in-States.is c.requires.settled in
    rating-due shape P N c.args.call c.args.position at (rating-as shape P N c.args.call c.args.position at
    c.in-States.is)
    (Some (LoadsState (record { number = c.in-States.cpu })))
    (λ sizes base p h. states-due (facts_with shape sizes base) p P N c.args.call h c.in-States.field-0 c.in-States.cpu
    settled)

pub due_number-requires : goal.due_number-requires
due_number-requires g c = record {
  settled = subst (IsSettled c.args.layout.now c.args.call) c.in-Numbers.is c.requires.settled;
}

pub due_node-requires-clause-settled : goal.due_node-requires-clause-settled
due_node-requires-clause-settled g c = subst (IsSettled c.args.layout.now c.args.call) c.in-Nodes.is c.requires.settled

pub returns-in-Numbers-clause-due : goal.returns-in-Numbers-clause-due
returns-in-Numbers-clause-due g c =
    let shape = c.args.layout.now in
    let P = g.R.ThresholdRules.pressure in
    let N = g.R.ThresholdRules.normal in
    let at = Numbers c.in-Numbers.seen c.in-Numbers.zone c.in-Numbers.cpu in
    let settled = subst (IsSettled shape c.args.call) c.in-Numbers.is c.requires.settled in
    rating-due shape P N c.args.call c.args.position at
    (rating-as shape P N c.args.call c.args.position at c.in-Numbers.is) (Some c.due_number.result) c.due_number.ensures

pub returns-in-Mark-clause-due : goal.returns-in-Mark-clause-due
returns-in-Mark-clause-due g c =
    let shape = c.args.layout.now in
    let P = g.R.ThresholdRules.pressure in
    let N = g.R.ThresholdRules.normal in
    let at = Mark c.in-Mark.field-0 c.in-Mark.zone c.in-Mark.field-2 c.in-Mark.mark in
    let settled = subst (IsSettled shape c.args.call) c.in-Mark.is c.requires.settled in
    let step = SetM (record { number = c.in-Mark.zone }) c.in-Mark.mark in
    rating-due shape P N c.args.call c.args.position at (rating-as shape P N c.args.call c.args.position
    at c.in-Mark.is)
    (Some (Makes step))
    (λ sizes base p h. known-due (rating_at (facts_with shape sizes base) p P N c.args.call h at) step
    (λ s. rating_at (facts_with shape sizes base) p P N c.args.call (after p (s ∷ []) h)
    (Thresholds c.in-Mark.field-0 c.in-Mark.zone c.in-Mark.field-2 0)) refl)

pub returns-in-Thresholds-clause-due : goal.returns-in-Thresholds-clause-due
returns-in-Thresholds-clause-due g c =
    let shape = c.args.layout.now in
    let P = g.R.ThresholdRules.pressure in
    let N = g.R.ThresholdRules.normal in
    let at = Thresholds c.in-Thresholds.field-0 c.in-Thresholds.zone c.in-Thresholds.threshold c.in-Thresholds.cpu in
    let settled = subst (IsSettled shape c.args.call) c.in-Thresholds.is c.requires.settled in
    let step = SetT (record { number = c.in-Thresholds.cpu }) (record { number = c.in-Thresholds.zone })
    c.in-Thresholds.threshold in
    rating-due shape P N c.args.call c.args.position at
    (rating-as shape P N c.args.call c.args.position at c.in-Thresholds.is) (Some (Makes step))
    (λ sizes base p h. known-due (rating_at (facts_with shape sizes base) p P N c.args.call h at) step
    (λ s. rating_at (facts_with shape sizes base) p P N c.args.call (after p (s ∷ []) h)
    (Thresholds c.in-Thresholds.field-0 c.in-Thresholds.zone c.in-Thresholds.threshold (c.in-Thresholds.cpu + 1)))
    (threshold-is (facts_with shape sizes base) p P N c.args.call h c.in-Thresholds.field-0 c.in-Thresholds.zone
    c.in-Thresholds.cpu c.in-Thresholds.threshold settled.0 settled.1))

pub returns-in-Nodes-clause-due : goal.returns-in-Nodes-clause-due
returns-in-Nodes-clause-due g c =
    let shape = c.args.layout.now in
    let P = g.R.ThresholdRules.pressure in
    let N = g.R.ThresholdRules.normal in
    let at = Nodes c.in-Nodes.seen c.in-Nodes.node c.in-Nodes.cpu in
    let settled = subst (IsSettled shape c.args.call) c.in-Nodes.is c.requires.settled in
    rating-due shape P N c.args.call c.args.position at
    (rating-as shape P N c.args.call c.args.position at c.in-Nodes.is) c.due_node.result c.due_node.ensures.due

pub returns-in-Nodes-clause-ended : goal.returns-in-Nodes-clause-ended
returns-in-Nodes-clause-ended g c = λ none.
    let shape = c.args.layout.now in
    let P = g.R.ThresholdRules.pressure in
    let N = g.R.ThresholdRules.normal in
    let at = Nodes c.in-Nodes.seen c.in-Nodes.node c.in-Nodes.cpu in
    let settled = subst (IsSettled shape c.args.call) c.in-Nodes.is c.requires.settled in
    rating-ended shape P N c.args.call c.args.position at
    (rating-as shape P N c.args.call c.args.position at c.in-Nodes.is) (c.due_node.ensures.ended none)

pub returns-in-Zones-clause-ended : goal.returns-in-Zones-clause-ended
returns-in-Zones-clause-ended g c = λ none.
    let shape = c.args.layout.now in
    let P = g.R.ThresholdRules.pressure in
    let N = g.R.ThresholdRules.normal in
    let at = Zones c.in-Zones.field-0 c.in-Zones.field-1 in
    let settled = subst (IsSettled shape c.args.call) c.in-Zones.is c.requires.settled in
    let within = subst (IsPositionWithin shape) c.in-Zones.is c.requires.within in
    rating-ended shape P N c.args.call c.args.position at
    (rating-as shape P N c.args.call c.args.position at c.in-Zones.is)
    (λ sizes base p h. ended-along (ends (tt {0})) (rating_at (facts_with shape sizes base) p P N c.args.call h at)
    (tt {0}) (zones-ended (facts_with shape sizes base) p P N h c.in-Zones.field-0 c.in-Zones.field-1 within settled.0
    c.args.call settled.1) refl)

pub returns-in-Asks-clause-ended : goal.returns-in-Asks-clause-ended
returns-in-Asks-clause-ended g c = absurd (subst (IsSettled c.args.layout.now c.args.call) c.in-Asks.is
    c.requires.settled)
