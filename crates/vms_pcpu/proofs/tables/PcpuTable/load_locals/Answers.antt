-- The goals were that the loads so far add up.
use Rattle.std.proofs.Common.{ℤ, ◌+◌, ◌≤◌, List, length, w64, to_z, ap, sym, ◌∙◌, subst, arith}
use Rattle.std.proofs.lemmas.Int.{ints}
use Rattle.vms_history.specs.Common.{CpuState, Online}
use Rattle.vms_pcpu_core.specs.declared.steps.PcpuFacts.{PcpuFacts}
use Rattle.vms_pcpu.proofs.LoadedLocals.{SoFar, so_far-none, so_far-then, so_far-else, so_far-all}
use Rattle.vms_pcpu.proofs.tables.PcpuTable.load_locals.Goals.{then-is_present, else-is_present}
use Rattle.vms_pcpu.proofs.tables.PcpuTable.load_locals.Goals as goal
use Rattle.vms_seats.specs.Common.{Shared}

pub loop-number-init : goal.loop-number-init
loop-number-init c = so_far-none c.args.self.now.facts c.args.counter c.args.worker.now c.is_live.ensures

pub loop-number-preserved : goal.loop-number-preserved
loop-number-preserved c =
    let facts = c.args.self.now.facts in
    let j = c.args.counter in
    let old = c.args.worker.now in
    let now = c.loop-number.worker in
    let n = c.loop-number.number in
    let sum : ℤ = to_z w64 c.loop-number.sum-bits in
    let later_sum : ℤ = to_z w64 c.if-is_present.sum-bits in
    let so_far : SoFar facts j now old n sum = c.loop-number.invariant in
    let states = c.as_slice-state-items.result.now in
    let states_are = c.as_slice-state-items.ensures ∙ ap (λ (f : PcpuFacts). f.cpus)
    (sym c.self.invariant.same ∙ ap (λ (s : Shared PcpuFacts). s.facts) c.self.view_is) in
    let inside = c.loop-number-test.true in
    let before = so_far.bound in
    let long = ap length c.as_slice-state-items.ensures in
    let each = c.self.invariant.base.lengths.one_state_each in
    let most = c.self.invariant.base.layout.cpus_most in
    elim c.if-is_present.branch [
      | then-is_present w ↦
          let small = w.load_local-sum.ensures.bound in
          subst (λ p. SoFar facts j p old (n + 1) later_sum) (sym w.worker-is)
          (so_far-then facts j now old n sum so_far states states_are Online inside
          (sym c.is_present.ensures ∙ w.if-is_present.true) w.load_local-sum.new.worker
          w.load_local-sum.result later_sum
          w.load_local-sum.ensures.made small (omega (arith, ints, w.sum-is, before, small, inside, long, each, most)))
      | else-is_present w ↦
          subst (λ p. SoFar facts j p old (n + 1) later_sum) (sym w.worker-is)
          (so_far-else facts j now old n sum so_far states states_are Online inside
          (sym c.is_present.ensures ∙ w.if-is_present.false) later_sum w.sum-is)
    ]

pub returns-clause-made : goal.returns-clause-made
returns-clause-made c =
    let states_are = c.as_slice-state-items.ensures ∙ ap (λ (f : PcpuFacts). f.cpus)
    (sym c.self.invariant.same ∙ ap (λ (s : Shared PcpuFacts). s.facts) c.self.view_is) in
    so_far-all c.args.self.now.facts c.args.counter c.loop-number.worker c.args.worker.now c.loop-number.number
    (to_z w64 c.loop-number.sum-bits) c.loop-number.invariant
    (subst (λ (xs : List CpuState). length xs ≤ c.loop-number.number) states_are c.loop-number-test.false)

pub returns-clause-bound : goal.returns-clause-bound
returns-clause-bound c =
    let before = c.loop-number.invariant.bound in
    let long = ap length c.as_slice-state-items.ensures in
    let each = c.self.invariant.base.lengths.one_state_each in
    let most = c.self.invariant.base.layout.cpus_most in
    omega (arith, before, long, each, most, c.loop-number.auto.number-end)
