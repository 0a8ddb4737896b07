-- The goals were that the pass is ready again, and that the steps are those of the call.
use Rattle.std.proofs.Common.{[], ◌∷◌, refl, ◌≡◌, ℤ, w64, to_z, of_z, sym, subst, arith}
use Rattle.std.proofs.lemmas.Result.{err_from_is_err_and}
use Rattle.vms_pcpu_core.specs.Common.{IsSum, present_cpus}
use Rattle.vms_pcpu_core.proofs.Common.{sum-adds}
use Rattle.vms_pcpu_core.specs.declared.steps.PcpuStep.TheVariants.{Missed}
use Rattle.vms_pcpu.specs.Common.{GivesUp, CpuPass, MakesCall}
use Rattle.vms_pcpu.proofs.AnswersMean.{sum-means}
use Rattle.vms_pcpu.proofs.HeldTries.{ready-missed}
use Rattle.vms_pcpu.proofs.ReadyPasses.{owns-nothing}
use Rattle.vms_pcpu.proofs.SmallNumbers.{same_word}
use Rattle.vms_pcpu.proofs.tables.PcpuTable.sum_through.Goals as goal

pub invariant_of-pass-2 : goal.invariant_of-pass-2
invariant_of-pass-2 g c =
    let j = c.args.counter in
    owns-nothing c.sum_by.new.worker c.pass.inside.worker j c.in_ok-sum.ensures.made.0 c.in_ok-sum.ensures.made.2
    (sum-adds j (present_cpus c.args.self.now.facts) j c.in_ok-sum.ensures.made.0 c.in_ok-sum.sum
    c.in_ok-sum.ensures.made.1)
    c.pass.inside.cpu c.pass.inside.volume c.pass.invariant

pub returns-clause-made : goal.returns-clause-made
returns-clause-made g c =
    let j = c.args.counter in
    let facts = c.args.self.now.facts in
    let answer : ℤ = c.in_ok-sum.sum in
    let small = c.in_ok-sum.ensures.bound in
    let same : to_z w64 (of_z w64 answer) ≡ answer = same_word answer (omega (arith, small)) in
    subst
    (λ (p : CpuPass). MakesCall c.sum_by.new.worker p.pass
    (λ own steps. IsSum (present_cpus facts) j steps (to_z w64 (of_z w64 answer))))
    c.pass.view_is
    (record {
      cpu = c.pass.inside.cpu;
      owns = c.pass.invariant.owns;
      steps = c.in_ok-sum.ensures.made.0;
      is_call = subst (IsSum (present_cpus facts) j c.in_ok-sum.ensures.made.0) (sym same) c.in_ok-sum.ensures.made.1;
      made = c.in_ok-sum.ensures.made.2;
    })

pub returns-clause-means : goal.returns-clause-means
returns-clause-means g c =
    sum-means c.sum_by.new.worker c.args.pass.now.pass c.args.self.now c.requires.table c.args.counter
    (to_z w64 (of_z w64 c.in_ok-sum.sum)) (returns-clause-made g c)

pub invariant_of-pass : goal.invariant_of-pass
invariant_of-pass g c =
    ready-missed c.args.counter c.sum_by.new.worker c.pass.inside.worker c.pass.inside.cpu c.pass.inside.volume
    c.pass.invariant c.in_err-sum.ensures.held.1

pub returns-in_err-sum-clause-held : goal.returns-in_err-sum-clause-held
returns-in_err-sum-clause-held g c =
    let p = err_from_is_err_and c.from_residual.result c.from_residual.ensures.1 in
    let j = c.args.counter in
    rw p.1
    (subst (λ (p : CpuPass). MakesCall c.sum_by.new.worker p.pass (λ own steps. GivesUp j steps)) c.pass.view_is
    (record {
      cpu = c.pass.inside.cpu;
      owns = c.pass.invariant.owns;
      steps = Missed j ∷ [];
      is_call = refl;
      made = c.in_err-sum.ensures.held.1.all;
    }))
