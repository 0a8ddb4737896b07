-- What is pending for one group more, and for all groups.
use Rattle.std.proofs.Common.{◌≡◌, ℕ, suc, ℤ, pos, ◌+◌, ◌*◌, ◌^◌, ◌≤◌, ◌<◌, ◌+ℤ◌, unsigned_abs, to_z, arith, subst, sym}
use Rattle.std.proofs.Common.{◌∙◌, if◌then◌else◌}
use Rattle.std.proofs.lemmas.Int.{ints}
use mir.Syntax.{w128}
use Rattle.vms_history.specs.Common.{sum_below}
use Rattle.vms_group_core.specs.Common.{as_is, in_subtree, pending_of}
use Rattle.vms_group_report.proofs.WideSums.{whole}
use Rattle.vms_group_report.proofs.pendings.pending_under.Goals as goal

pub loop-number-preserved : goal.loop-number-preserved
loop-number-preserved c =
    let tree = c.args.tree.now in
    let f : ℕ → ℤ = λ x. if in_subtree tree c.args.group x then pending_of as_is tree c.args.words.now x else pos 0 in
    let n = c.loop-number.number in
    let sum = to_z w128 c.loop-number.sum-bits in
    let more = c.pending_within-sum.result in
    let few : n < 64 = omega (
      arith,
      c.loop-number-test.true,
      c.len-number-end.ensures.len,
      c.requires.tree.groups_most,
    ) in
    let small : unsigned_abs sum ≤ n * (65 * 2 ^ 63) = c.loop-number.invariant.bound in
    let one : unsigned_abs more ≤ 65 * 2 ^ 63 = c.pending_within-sum.ensures.bound in
    let same = whole sum more (omega (arith, small, few)) (omega (arith, one)) in
    let so_far : sum ≡ sum_below f n = c.loop-number.invariant.total in
    let word : more ≡ f n = c.pending_within-sum.ensures.value in
    let next : suc n ≡ n + 1 = omega arith in
    record {
      total = same ∙ subst (λ (m : ℕ). sum +ℤ more ≡ sum_below f m) next (omega (arith, ints, so_far, word));
      bound = subst (λ (z : ℤ). unsigned_abs z ≤ (n + 1) * (65 * 2 ^ 63)) (sym same) (omega (arith, ints, small, one));
    }
