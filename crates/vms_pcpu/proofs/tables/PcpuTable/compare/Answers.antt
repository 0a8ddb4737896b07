-- The goals were that the pass is ready again, and that the steps are those of the call.
use Rattle.std.proofs.Common.{◌≡◌, ℤ, w64, to_z, of_z, subst}
use Rattle.std.proofs.lemmas.Int.{to_z-of_z}
use Rattle.vms_pcpu_core.specs.Common.{IsCompare, present_cpus, unknown}
use Rattle.vms_pcpu_core.proofs.Common.{compare-adds}
use Rattle.vms_pcpu.specs.Common.{CpuPass, MakesCall}
use Rattle.vms_pcpu.proofs.AnswersMean.{compare-means}
use Rattle.vms_pcpu.proofs.ReadyPasses.{owns-nothing}
use Rattle.vms_pcpu.proofs.tables.PcpuTable.compare.Goals as goal

pub invariant_of-pass : goal.invariant_of-pass
invariant_of-pass g c =
    let j = c.args.counter in
    let facts = c.args.self.now.facts in
    let rhs : ℤ = to_z w64 (of_z w64 c.args.rhs) in
    owns-nothing c.compare_by.new.worker c.pass.inside.worker j c.compare_by.ensures.0 c.compare_by.ensures.2
    (compare-adds j (unknown facts j.number) (present_cpus facts) j rhs c.compare_by.ensures.0 c.compare_by.result
    c.compare_by.ensures.1)
    c.pass.inside.cpu c.pass.inside.volume c.pass.invariant

pub returns-clause-made : goal.returns-clause-made
returns-clause-made g c =
    let j = c.args.counter in
    let facts = c.args.self.now.facts in
    let rhs : ℤ = c.args.rhs in
    let same : to_z w64 (of_z w64 rhs) ≡ rhs = to_z-of_z w64 rhs c.ranges.rhs in
    let steps = c.compare_by.ensures.0 in
    let answer = c.compare_by.result in
    subst
    (λ (p : CpuPass). MakesCall c.compare_by.new.worker p.pass
    (λ own steps. IsCompare (unknown facts j.number) (present_cpus facts) j rhs steps answer))
    c.pass.view_is
    (record {
      cpu = c.pass.inside.cpu;
      owns = c.pass.invariant.owns;
      steps = steps;
      is_call = subst
          (λ (a : ℤ). IsCompare (unknown facts j.number) (present_cpus facts) j a steps answer) same
          c.compare_by.ensures.1;
      made = c.compare_by.ensures.2;
    })

pub returns-clause-means : goal.returns-clause-means
returns-clause-means g c =
    compare-means c.compare_by.new.worker c.args.pass.now.pass c.args.self.now c.requires.table c.args.counter
    c.args.rhs c.compare_by.result (returns-clause-made g c)
