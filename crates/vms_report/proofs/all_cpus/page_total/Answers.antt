-- A CPU more adds its differential, and all CPUs at the end.
use Rattle.std.proofs.Common.{◌≡◌, ℕ, ◌<◌, ◌+ℤ◌, w64, to_z, subst, arith}
use Rattle.vms_world.specs.Common.{sum_below, value_at, diff_at}
use Rattle.vms_report.proofs.Sums.{added-bound, added-total}
use Rattle.vms_report.proofs.all_cpus.page_total.Goals as goal

pub loop-number-preserved : goal.loop-number-preserved
loop-number-preserved c =
    let n = c.loop-number.number in
    let s = c.args.pages.now in
    let k = c.args.counter.number in
    let few : n < 128 = omega (
      arith,
      c.loop-number-test.true,
      c.cpus-number-end.ensures.value,
      c.cpus-number-end.ensures.is_layout.cpus_most,
    ) in
    record {
      total = added-total (to_z w64 c.loop-number.total-bits) c.differential-total.result (value_at s k)
          (λ d. diff_at s d k) n c.loop-number.invariant.total c.differential-total.ensures.value
          c.loop-number.invariant.bound (omega (arith, c.differential-total.ensures.bound)) few;
      bound = added-bound (to_z w64 c.loop-number.total-bits) c.differential-total.result (value_at s k)
          (λ d. diff_at s d k) n c.loop-number.invariant.total c.differential-total.ensures.value
          c.loop-number.invariant.bound (omega (arith, c.differential-total.ensures.bound)) few;
    }

pub returns : goal.returns
returns c =
    let s = c.args.pages.now in
    let k = c.args.counter.number in
    let cpus : c.loop-number.number ≡ c.args.layout.now.cpus = omega (
      arith,
      c.loop-number-test.false,
      c.loop-number.auto.«number-end»,
      c.cpus-number-end.ensures.value,
    ) in
    subst (λ (m : ℕ). to_z w64 c.loop-number.total-bits ≡ value_at s k +ℤ sum_below (λ d. diff_at s d k) m) cpus
    c.loop-number.invariant.total
