-- The load of what the next CPU acknowledged last, or of the mark.
use Rattle.std.proofs.Common.{◌<◌, sym, arith}
use Rattle.vms_cursors.specs.RatingClauses.{facts_with}
use Rattle.vms_cursors.proofs.RatingGoes.{numbers-goes, numbers-stops}
use Rattle.vms_cursors.proofs.rating_positions.after_number.Goals as goal

pub returns-in-Some-clause-goes : goal.returns-in-Some-clause-goes
returns-in-Some-clause-goes g c = λ sizes base p h.
    let shape = c.args.layout.now in
    let P = g.R.ThresholdRules.pressure in
    let N = g.R.ThresholdRules.normal in
    let less : c.args.cpu < shape.cpus = omega (arith, c.if-cpu-cpus.false, c.cpus-cpus.ensures.value) in
    numbers-goes (facts_with shape sizes base) p P N c.args.call h c.args.seen c.args.zone c.args.cpu less
    (c.requires.settled less) c.args.step c.in-Some.field-0 (sym c.in-Some.ensures)

pub returns-in-None-clause-stops : goal.returns-in-None-clause-stops
returns-in-None-clause-stops g c = λ none sizes base p h.
    let shape = c.args.layout.now in
    let P = g.R.ThresholdRules.pressure in
    let N = g.R.ThresholdRules.normal in
    let less : c.args.cpu < shape.cpus = omega (arith, c.if-cpu-cpus.false, c.cpus-cpus.ensures.value) in
    numbers-stops (facts_with shape sizes base) p P N c.args.call h c.args.seen c.args.zone c.args.cpu less
    (c.requires.settled less) c.args.step (sym c.in-None.ensures)
