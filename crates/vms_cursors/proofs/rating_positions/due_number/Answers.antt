-- What the next CPU acknowledged last is due, or the mark.
use Rattle.std.proofs.Common.{◌<◌, ◌≤◌, arith}
use Rattle.vms_cursors.specs.RatingClauses.{facts_with}
use Rattle.vms_cursors.proofs.RatingGoes.{marks-due, numbers-due}
use Rattle.vms_cursors.proofs.rating_positions.due_number.Goals as goal

pub returns-then-cpu-cpus : goal.returns-then-cpu-cpus
returns-then-cpu-cpus g c = λ sizes base p h.
    let shape = c.args.layout.now in
    let P = g.R.ThresholdRules.pressure in
    let N = g.R.ThresholdRules.normal in
    let less : c.args.cpu < shape.cpus = omega (arith, c.if-cpu-cpus.true, c.cpus.ensures.value) in
    numbers-due (facts_with shape sizes base) p P N c.args.call h c.args.seen.now c.args.zone c.args.cpu less
    (c.requires.settled less)

pub returns : goal.returns
returns g c = λ sizes base p h.
    let shape = c.args.layout.now in
    let P = g.R.ThresholdRules.pressure in
    let N = g.R.ThresholdRules.normal in
    let most : shape.cpus ≤ c.args.cpu = omega (arith, c.if-cpu-cpus.false, c.cpus.ensures.value) in
    marks-due (facts_with shape sizes base) p P N c.args.call h c.args.seen.now c.args.zone c.args.cpu most
