-- The goals were that the looks so far add up, what they are once all CPUs are past, and what they come to then.
use Rattle.std.proofs.Common.{◌≡◌, ◌+◌, ◌≤◌, ℤ, ◌+ℤ◌, FitsSigned, w64, to_z, of_z, ap, sym, ◌∙◌, subst, arith}
use Rattle.std.proofs.lemmas.Int.{ints, to_z-of_z}
use Rattle.vms_calls.specs.Common.{Shape, Facts}
use Rattle.vms_look.proofs.LookSteps.{SoFar, so_far-none, so_far-fits, so_far-next, so_far-all, so_far-truly}
use Rattle.vms_look.proofs.values.snapshot.Goals as goal

pub loop-number-init : goal.loop-number-init
loop-number-init g c =
    let k = c.args.counter in
    let new = g.P.Caller.pass c.load_place-sum.new.pass in
    let old = g.P.Caller.pass c.args.pass.now in
    let value = c.load_place-sum.result in
    let begun = so_far-none c.args.table.now.facts k c.requires.counter new old c.requires.table.facts value
    c.load_place-sum.ensures.made in
    let few : 0 ≤ 128 = omega arith in (
      subst (λ (z : ℤ). SoFar k new old 0 z) (sym (to_z-of_z w64 value (so_far-fits k new old 0 value begun few)))
          begun,
      c.load_place-sum.ensures.volume,
    )

pub loop-number-preserved : goal.loop-number-preserved
loop-number-preserved g c =
    let k = c.args.counter in
    let n = c.loop-number.number in
    let new = g.P.Caller.pass c.hidden-sum.new.pass in
    let now = g.P.Caller.pass c.loop-number.pass in
    let old = g.P.Caller.pass c.args.pass.now in
    let sum : ℤ = to_z w64 c.loop-number.sum-bits in
    let found = c.hidden-sum.result in
    let bound = c.hidden-sum.ensures.bound in
    let few : n + 1 ≤ 128 = omega (
      arith,
      c.loop-number-test.true,
      c.cpus-number-end.ensures.value,
      c.cpus-number-end.ensures.is_layout.cpus_most,
    ) in
    let more = so_far-next k now old n sum c.loop-number.invariant.0 new found bound c.hidden-sum.ensures.made in
    let found_fits : FitsSigned w64 found = omega (arith, ints, bound) in
    let found_is : sum +ℤ to_z w64 (of_z w64 found) ≡ sum +ℤ found =
    ap (λ (z : ℤ). sum +ℤ z) (to_z-of_z w64 found found_fits) in
    let fits = subst (FitsSigned w64) (sym found_is) (so_far-fits k new old (n + 1) (sum +ℤ found) more few) in (
      subst (λ (z : ℤ). SoFar k new old (n + 1) z)
          (sym (to_z-of_z w64 (sum +ℤ to_z w64 (of_z w64 found)) fits ∙ found_is)) more,
      c.hidden-sum.ensures.volume ∙ c.loop-number.invariant.1,
    )

pub returns-clause-made : goal.returns-clause-made
returns-clause-made g c =
    let shape = c.args.table.now.facts.layout in
    let same : c.layout.result.now.cpus ≡ shape.cpus = ap (λ (s : Shape). s.cpus) c.layout.ensures in
    let all : c.loop-number.number ≡ shape.cpus = omega (
      arith,
      c.loop-number-test.false,
      c.loop-number.auto.«number-end»,
      c.cpus-number-end.ensures.value,
      same,
    ) in
    so_far-all c.args.counter (g.P.Caller.pass c.loop-number.pass) (g.P.Caller.pass c.args.pass.now)
    c.loop-number.number (to_z w64 c.loop-number.sum-bits) c.loop-number.invariant.0 shape all c.clamped.result
    c.clamped.ensures

pub returns-clause-truly : goal.returns-clause-truly
returns-clause-truly g c =
    let k = c.args.counter in
    let facts = c.requires.table.facts in
    let shape = c.args.table.now.facts.layout in
    let same : c.layout.result.now.cpus ≡ shape.cpus = ap (λ (s : Shape). s.cpus) c.layout.ensures in
    let all : c.loop-number.number ≡ shape.cpus = omega (
      arith,
      c.loop-number-test.false,
      c.loop-number.auto.«number-end»,
      c.cpus-number-end.ensures.value,
      same,
    ) in
    so_far-truly k (g.P.Caller.pass c.loop-number.pass) (g.P.Caller.pass c.args.pass.now) c.loop-number.number
    (to_z w64 c.loop-number.sum-bits) c.loop-number.invariant.0
    (all ∙ sym (ap (λ (f : Facts). f.layout.cpus) facts)) c.clamped.result c.clamped.ensures
