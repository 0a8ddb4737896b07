-- The CPU is made absent, and no other step comes.
use Rattle.std.proofs.Common.{◌∙◌, sym, true≢false}
use Rattle.vms_cursors.specs.RatingClauses.{facts_with}
use Rattle.vms_cursors.proofs.BurialGoes.{removals-go, removals-stop}
use Rattle.vms_cursors.proofs.burial_positions.after_removal.Goals as goal

pub returns-then-is_removal-clause-goes : goal.returns-then-is_removal-clause-goes
returns-then-is_removal-clause-goes g c = λ sizes base p h.
    let shape = c.args.layout.now in
    let P = g.R.ThresholdRules.pressure in
    let N = g.R.ThresholdRules.normal in
    removals-go (facts_with shape sizes base) p P N c.args.cpu h c.args.at c.requires.folded c.args.step c.none.result
    (c.is_removal.ensures.0 c.if-is_removal.true)

pub returns-clause-stops : goal.returns-clause-stops
returns-clause-stops g c = λ none sizes base p h.
    let shape = c.args.layout.now in
    let P = g.R.ThresholdRules.pressure in
    let N = g.R.ThresholdRules.normal in
    removals-stop (facts_with shape sizes base) p P N c.args.cpu h c.args.at c.requires.folded c.args.step
    (λ same. true≢false (sym (c.is_removal.ensures.1 same) ∙ c.if-is_removal.false))
