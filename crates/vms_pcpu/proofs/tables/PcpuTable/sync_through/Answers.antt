-- The goals were that the CPU is one of the layout, and that the pass is ready again.
use Rattle.std.proofs.Common.{[], ◌∷◌, refl, subst, ap, ◌∙◌}
use Rattle.vms_history.specs.Common.{IsCpu}
use Rattle.std.proofs.lemmas.Result.{err_from_is_err_and}
use Rattle.vms_pcpu_core.specs.declared.steps.PcpuFacts.{PcpuFacts}
use Rattle.vms_pcpu_core.proofs.Common.{sync-adds}
use Rattle.vms_pcpu_core.specs.declared.steps.PcpuStep.TheVariants.{Missed}
use Rattle.vms_pcpu.specs.Common.{GivesUp, MakesCall, CpuPass}
use Rattle.vms_pcpu.proofs.HeldTries.{ready-missed}
use Rattle.vms_pcpu.proofs.ReadyPasses.{owned-known, owns-nothing}
use Rattle.vms_pcpu.proofs.tables.PcpuTable.sync_through.Goals as goal

pub sync_by-requires-clause-cpu : goal.sync_by-requires-clause-cpu
sync_by-requires-clause-cpu g c =
    let mine = c.pass.invariant in
    subst (λ (f : PcpuFacts). IsCpu f.layout c.pass.inside.cpu.number)
    (ap (λ (p : CpuPass). p.pass.facts) c.pass.view_is ∙ c.requires.table.facts)
    (owned-known c.pass.inside.worker c.pass.inside.cpu mine.ready (mine.ready.live.owner ∙ mine.owns))

pub invariant_of-pass-2 : goal.invariant_of-pass-2
invariant_of-pass-2 g c =
    let j = c.args.counter in
    let cpu = c.pass.inside.cpu in
    owns-nothing c.sync_by.new.worker c.pass.inside.worker j c.in_ok-sync_by.ensures.made.0
    c.in_ok-sync_by.ensures.made.2
    (sync-adds j cpu j c.in_ok-sync_by.ensures.made.0 c.in_ok-sync_by.ensures.made.1) cpu c.pass.inside.volume
    c.pass.invariant

pub invariant_of-pass : goal.invariant_of-pass
invariant_of-pass g c =
    ready-missed c.args.counter c.sync_by.new.worker c.pass.inside.worker c.pass.inside.cpu c.pass.inside.volume
    c.pass.invariant c.in_err-sync_by.ensures.held.1

pub returns-in_err-sync_by-clause-held : goal.returns-in_err-sync_by-clause-held
returns-in_err-sync_by-clause-held g c =
    let p = err_from_is_err_and c.from_residual.result c.from_residual.ensures.1 in
    let j = c.args.counter in
    rw p.1
    (subst (λ (p : CpuPass). MakesCall c.sync_by.new.worker p.pass (λ own steps. GivesUp j steps)) c.pass.view_is
    (record {
      cpu = c.pass.inside.cpu;
      owns = c.pass.invariant.owns;
      steps = Missed j ∷ [];
      is_call = refl;
      made = c.in_err-sync_by.ensures.held.1.all;
    }))
