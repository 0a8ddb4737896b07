-- A mark that stands is not set, another is.
use Rattle.std.proofs.Common.{◌∙◌, sym}
use Rattle.std.proofs.lemmas.Bool.{eq-eqb, ne_eqb}
use Rattle.vms_cursors.proofs.RatingGoes.{answer-mark, answer-thresholds}
use Rattle.vms_cursors.proofs.rating_positions.answered.Goals as goal

pub returns-then-mark-found-clause-same : goal.returns-then-mark-found-clause-same
returns-then-mark-found-clause-same g c = λ facts p call h answers.
    answer-thresholds facts p g.R.ThresholdRules.pressure g.R.ThresholdRules.normal call h c.args.seen c.args.zone
    c.args.found c.args.chosen.threshold c.args.chosen.usual answers.0 answers.1
    (eq-eqb _ c.args.found (sym answers.2 ∙ c.if-mark-found.true))

pub returns-clause-same : goal.returns-clause-same
returns-clause-same g c = λ facts p call h answers.
    answer-mark facts p g.R.ThresholdRules.pressure g.R.ThresholdRules.normal call h c.args.seen c.args.zone
    c.args.found c.args.chosen.threshold c.args.chosen.usual answers.0 answers.1 c.args.mark answers.2
    (ne_eqb _ c.args.found (λ is. c.if-mark-found.false (answers.2 ∙ is)))
