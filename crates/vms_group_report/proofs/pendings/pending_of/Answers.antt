-- What is pending from one CPU more.
use Rattle.std.proofs.Common.{◌≡◌, ℕ, suc, ℤ, ◌+◌, ◌*◌, ◌^◌, ◌≤◌, ◌<◌, ◌+ℤ◌, unsigned_abs, to_z, arith, subst, sym, ◌∙◌}
use Rattle.std.proofs.lemmas.Int.{ints}
use mir.Syntax.{w128}
use Rattle.vms_history.specs.Common.{sum_below}
use Rattle.vms_group_core.specs.Common.{pending_at, up_at}
use Rattle.vms_group_report.proofs.WideSums.{whole}
use Rattle.vms_group_report.proofs.pendings.pending_of.Goals as goal

pub loop-cpu-preserved : goal.loop-cpu-preserved
loop-cpu-preserved c =
    let f : ℕ → ℤ = λ d. pending_at c.args.tree.now c.args.words.now d c.args.group in
    let up = up_at c.args.words.now c.args.group in
    let n = c.loop-cpu.cpu in
    let sum = to_z w128 c.loop-cpu.sum-bits in
    let more = c.pending_at-sum.result in
    let few : n < 64 = omega (arith, c.loop-cpu-test.true, c.requires.tree.cpus_most) in
    let small : unsigned_abs sum ≤ (n + 1) * 2 ^ 63 = c.loop-cpu.invariant.bound in
    let one : unsigned_abs more ≤ 2 ^ 63 = c.pending_at-sum.ensures.bound in
    let same = whole sum more (omega (arith, small, few)) (omega (arith, one)) in
    let so_far : sum ≡ sum_below f n +ℤ up = c.loop-cpu.invariant.total in
    let word : more ≡ f n = c.pending_at-sum.ensures.value in
    let next : suc n ≡ n + 1 = omega arith in
    record {
      total = same ∙ subst (λ (m : ℕ). sum +ℤ more ≡ sum_below f m +ℤ up) next (omega (arith, ints, so_far, word));
      bound = subst (λ (z : ℤ). unsigned_abs z ≤ (n + 1 + 1) * 2 ^ 63) (sym same) (omega (arith, ints, small, one));
    }
