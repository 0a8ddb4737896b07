-- The load of the next CPU's state.
use Rattle.std.proofs.Common.{rules, ◌≡◌, ◌∙◌, ap, sym, length, arith}
use Rattle.std.specs.Prelude.{slice_set}
use Rattle.vms_cursors.specs.RatingClauses.{facts_with}
use Rattle.vms_cursors.proofs.RatingGoes.{states-goes, states-stops}
use Rattle.vms_cursors.proofs.rating_positions.after_state.Goals as goal

pub with-requires : goal.with-requires
with-requires g c = omega (arith, c.requires.cpu, c.requires.layout.cpus_most)

pub returns-in-Some-clause-goes : goal.returns-in-Some-clause-goes
returns-in-Some-clause-goes g c = λ sizes base p h.
    let shape = c.args.layout.now in
    let P = g.R.ThresholdRules.pressure in
    let N = g.R.ThresholdRules.normal in
    let online = c.args.online in
    let long : length online.flags ≡ 128 = search rules in
    states-goes (facts_with shape sizes base) p P N c.args.call h online c.args.cpu c.requires.cpu c.args.step
    c.with.result c.in-Some.state
    (c.with.ensures ∙ ap (λ b. slice_set online.flags c.args.cpu b) c.is_online.ensures)
    (omega (arith, long, c.requires.cpu, c.requires.layout.cpus_most)) (sym c.in-Some.ensures)

pub returns-in-None-clause-stops : goal.returns-in-None-clause-stops
returns-in-None-clause-stops g c = λ none sizes base p h.
    let shape = c.args.layout.now in
    let P = g.R.ThresholdRules.pressure in
    let N = g.R.ThresholdRules.normal in
    states-stops (facts_with shape sizes base) p P N c.args.call h c.args.online c.args.cpu c.requires.cpu c.args.step
    (sym c.in-None.ensures)
