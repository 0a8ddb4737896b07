-- The goals were that the pass carries nothing, and that it may go on.
use Rattle.std.proofs.Common.{refl, ap, sym, subst, ◌∙◌, arith}
use Rattle.vms_history.specs.Common.{own}
use Rattle.vms_group_core.specs.declared.call_values.GroupAnswer.TheVariants.{Done}
use Rattle.vms_group_core.specs.declared.call_values.GroupCall.TheVariants.{Flush}
use Rattle.vms_group_core.specs.declared.steps.GroupFacts.{GroupFacts}
use Rattle.vms_group_core.specs.Common.{CarriesNothing, IsFlush}
use Rattle.vms_group.specs.Common.{CpuPass}
use Rattle.vms_group.proofs.KnownPasses.{call-leaves}
use Rattle.vms_group.proofs.tables.GroupTable.flush.Goals as goal

pub flush_by-requires-clause-idle : goal.flush_by-requires-clause-idle
flush_by-requires-clause-idle c =
    let pass = c.pass.inside.worker in
    subst (λ (f : GroupFacts). CarriesNothing f.tree (own pass.seen pass.number))
    (ap (λ (p : CpuPass). p.pass.facts) c.pass.view_is ∙ c.requires.table.facts) c.pass.invariant.idle

pub invariant_of-pass : goal.invariant_of-pass
invariant_of-pass c =
    let facts = ap (λ (p : CpuPass). p.pass.facts) c.pass.view_is ∙ c.requires.table.facts in
    let flushed = c.flush_by.ensures in
    let is = subst (λ (f : GroupFacts). IsFlush f.tree c.args.group flushed.found flushed.steps) (sym facts)
    flushed.is in
    call-leaves c.flush_by.new.worker c.pass.inside.worker c.pass.inside.cpu c.pass.inside.volume c.pass.inside.volume
    (Flush c.args.group) flushed.steps Done c.pass.invariant flushed.made (flushed.found, is) refl
    (λ g g_in. omega arith)
