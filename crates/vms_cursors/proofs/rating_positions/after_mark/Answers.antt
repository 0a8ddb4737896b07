-- The load of the mark.
use Rattle.std.proofs.Common.{rules, ◌≡◌, ◌∙◌, sym, length, arith}
use Rattle.vms_cursors.specs.RatingClauses.{facts_with}
use Rattle.vms_cursors.proofs.RatingGoes.{marks-ask, marks-spare, marks-stop}
use Rattle.vms_cursors.proofs.rating_positions.after_mark.Goals as goal

pub with-requires : goal.with-requires
with-requires g c = omega (arith, c.requires.within, c.requires.layout.zones_most)

pub returns-then-spares-clause-goes : goal.returns-then-spares-clause-goes
returns-then-spares-clause-goes g c = λ sizes base p h.
    let shape = c.args.layout.now in
    let P = g.R.ThresholdRules.pressure in
    let N = g.R.ThresholdRules.normal in
    let long : length c.args.seen.thresholds ≡ 16 = search rules in
    marks-spare (facts_with shape sizes base) p P N c.args.call h c.args.seen c.args.zone c.args.cpu c.requires.cpu
    c.args.step c.in-Some.read (sym c.in-Some.ensures) (sym c.spares.ensures ∙ c.if-spares.true) c.with.result
    (omega (arith, long, c.requires.within, c.requires.layout.zones_most)) c.with.ensures.online
    c.with.ensures.thresholds

pub returns-else-spares-clause-goes : goal.returns-else-spares-clause-goes
returns-else-spares-clause-goes g c = λ sizes base p h.
    let shape = c.args.layout.now in
    let P = g.R.ThresholdRules.pressure in
    let N = g.R.ThresholdRules.normal in
    marks-ask (facts_with shape sizes base) p P N c.args.call h c.args.seen c.args.zone c.args.cpu c.requires.cpu
    c.args.step c.in-Some.read (sym c.in-Some.ensures)
    (sym c.spares.ensures ∙ c.if-spares.false)

pub returns-in-None-clause-stops : goal.returns-in-None-clause-stops
returns-in-None-clause-stops g c = λ none sizes base p h.
    let shape = c.args.layout.now in
    let P = g.R.ThresholdRules.pressure in
    let N = g.R.ThresholdRules.normal in
    marks-stop (facts_with shape sizes base) p P N c.args.call h c.args.seen c.args.zone c.args.cpu c.requires.cpu
    c.args.step (sym c.in-None.ensures)
