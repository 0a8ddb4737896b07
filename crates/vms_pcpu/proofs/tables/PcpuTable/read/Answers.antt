-- The goals were that the pass is ready again, and that the load is the call's one step.
use Rattle.std.proofs.Common.{[], ◌∷◌, refl, ap, sym, subst, arith, ℤ, w64, to_z, of_z}
use Rattle.vms_pcpu_core.specs.declared.steps.PcpuStep.TheVariants.{LoadC}
use Rattle.vms_pcpu_core.specs.Common.{IsRead}
use Rattle.vms_pcpu_core.proofs.Common.{read-adds}
use Rattle.vms_pcpu.specs.Common.{CpuPass, MakesCall}
use Rattle.vms_pcpu.proofs.ReadyPasses.{owns-nothing}
use Rattle.vms_pcpu.proofs.SmallNumbers.{same_word}
use Rattle.vms_pcpu.proofs.tables.PcpuTable.read.Goals as goal

pub invariant_of-pass : goal.invariant_of-pass
invariant_of-pass c =
    let j = c.args.counter in
    let v = c.load_count.result in
    owns-nothing c.load_count.new.worker c.pass.inside.worker j (LoadC j v ∷ []) c.load_count.ensures.made.all
    (read-adds j j (LoadC j v ∷ []) v refl) c.pass.inside.cpu c.pass.inside.volume c.pass.invariant

pub returns-clause-made : goal.returns-clause-made
returns-clause-made c =
    let j = c.args.counter in
    let v = c.load_count.result in
    let small = c.load_count.ensures.bound in
    subst (λ (p : CpuPass). MakesCall c.load_count.new.worker p.pass
    (λ own steps. IsRead j steps (to_z w64 (of_z w64 v))))
    c.pass.view_is
    (record {
      cpu = c.pass.inside.cpu;
      owns = c.pass.invariant.owns;
      steps = LoadC j v ∷ [];
      is_call = ap (λ (x : ℤ). LoadC j x ∷ []) (sym (same_word v (omega (arith, small))));
      made = c.load_count.ensures.made.all;
    })
