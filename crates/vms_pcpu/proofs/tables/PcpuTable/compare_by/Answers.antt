-- The goals were that the sum may be made, and that the steps are those of a comparison, by the count or by the sum.
use Rattle.std.proofs.Common.{◌<◌, ◌≤◌, ◌-ℤ◌, ℤ, unsigned_abs, w8, to_z, of_z, arith}
use Rattle.std.proofs.lemmas.Int.{ints}
use Rattle.vms_pcpu_core.specs.Common.{unknown}
use Rattle.vms_pcpu.proofs.SmallNumbers.{same_difference}
use Rattle.vms_pcpu.proofs.SumSteps.{passed-sign, compare_sum-may, compared_far, compared_near}
use Rattle.vms_pcpu.proofs.tables.PcpuTable.compare_by.Goals as goal

pub returns-then-unsigned_abs-unknown : goal.returns-then-unsigned_abs-unknown
returns-then-unsigned_abs-unknown g c =
    let j = c.args.counter in
    let facts = c.args.self.now.facts in
    let v = c.load_count.result in
    let rhs : ℤ = c.args.rhs in
    let small = c.load_count.ensures.bound in
    let most = c.requires.rhs in
    let fits = same_difference v rhs (omega (arith, small)) (omega (arith, most)) in
    let off : unknown facts j.number < unsigned_abs (v -ℤ rhs) =
    omega (
      arith,
      ints,
      c.unknown.ensures.unknown,
      c.unsigned_abs.ensures.value,
      fits,
      c.if-unsigned_abs-unknown.true,
    ) in
    compared_far c.args.worker.now c.load_count.new.worker j v c.load_count.ensures.made facts rhs off
    (to_z w8 (of_z w8 c.sign.result)) (passed-sign c.sign.result _ (v -ℤ rhs) c.sign.ensures fits)

pub sum_by-requires-clause-calls : goal.sum_by-requires-clause-calls
sum_by-requires-clause-calls g c =
    compare_sum-may c.args.worker.now c.load_count.new.worker c.args.counter c.load_count.result
    c.load_count.ensures.made c.args.self.now.facts c.args.rhs c.requires.calls

pub returns : goal.returns
returns g c =
    let j = c.args.counter in
    let facts = c.args.self.now.facts in
    let v = c.load_count.result in
    let sum = c.in-Ok.sum in
    let rhs : ℤ = c.args.rhs in
    let small = c.load_count.ensures.bound in
    let few = c.in-Ok.ensures.bound in
    let most = c.requires.rhs in
    let fits = same_difference v rhs (omega (arith, small)) (omega (arith, most)) in
    let fits_sum = same_difference sum rhs (omega (arith, few)) (omega (arith, most)) in
    let close : unsigned_abs (v -ℤ rhs) ≤ unknown facts j.number =
    omega (
      arith,
      ints,
      c.unknown.ensures.unknown,
      c.unsigned_abs.ensures.value,
      fits,
      c.if-unsigned_abs-unknown.false,
    ) in
    compared_near c.args.worker.now c.load_count.new.worker j v c.load_count.ensures.made facts rhs close
    c.sum_by.new.worker c.in-Ok.ensures.made.0 sum c.in-Ok.ensures.made.1 c.in-Ok.ensures.made.2
    (to_z w8 (of_z w8 c.sign-in-Ok.result))
    (passed-sign c.sign-in-Ok.result _ (sum -ℤ rhs) c.sign-in-Ok.ensures fits_sum)
