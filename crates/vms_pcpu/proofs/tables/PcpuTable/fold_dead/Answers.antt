-- The goals were that each counter's local part may be moved, that these are the steps of the whole fold, and that
-- nothing is left then.
use Rattle.std.proofs.Common.{◌≡◌, ap, sym, ◌∙◌, subst, arith}
use Rattle.vms_pcpu_core.specs.declared.steps.PcpuFacts.{PcpuFacts}
use Rattle.vms_pcpu_core.specs.declared.steps.PcpuStep.{PcpuStep}
use Rattle.vms_pcpu_core.specs.Common.{counters_of, cpu_at}
use Rattle.vms_pcpu.proofs.FoldedCounters.{folds-none, folds-calls, folds-whose, folds-more, folds-ready, has-folded}
use Rattle.vms_pcpu.proofs.ReadyPasses.{of-after}
use Rattle.vms_pcpu.proofs.tables.PcpuTable.fold_dead.Goals as goal
use Rattle.vms_seats.specs.Common.{Pass, Shared, IsFrom}

pub loop-number-init : goal.loop-number-init
loop-number-init g c = folds-none c.args.dead c.pass.inside.worker c.pass.invariant.0 c.pass.invariant.1

pub sync_by-requires-clause-table : goal.sync_by-requires-clause-table
sync_by-requires-clause-table g c =
    of-after c.loop-number.pass-inside.worker c.pass.inside.worker c.loop-number.invariant.steps c.args.self.now
    c.loop-number.invariant.made
    (subst (λ (p : Pass PcpuFacts PcpuStep). IsFrom p c.args.self.now) (sym c.pass.view_is) c.requires.table)

pub sync_by-requires-clause-calls : goal.sync_by-requires-clause-calls
sync_by-requires-clause-calls g c =
    folds-calls c.args.dead c.pass.inside.worker c.pass.invariant.0 c.pass.invariant.1 c.loop-number.pass-inside.worker
    c.loop-number.number c.loop-number.invariant

pub sync_by-requires-clause-whose : goal.sync_by-requires-clause-whose
sync_by-requires-clause-whose g c =
    folds-whose c.args.dead c.pass.inside.worker c.pass.invariant.0 c.pass.invariant.1 c.loop-number.pass-inside.worker
    c.loop-number.number c.loop-number.invariant
    (ap (λ (f : PcpuFacts). cpu_at f c.args.dead.number)
    (ap (λ (p : Pass PcpuFacts PcpuStep). p.facts) c.pass.view_is ∙ c.requires.table.facts) ∙ c.requires.dead)

pub loop-number-preserved : goal.loop-number-preserved
loop-number-preserved g c =
    folds-more c.args.dead c.pass.inside.worker c.pass.invariant.0 c.pass.invariant.1 c.loop-number.pass-inside.worker
    c.loop-number.number c.loop-number.invariant c.sync_by.new.worker c.in-Ok.ensures.made.0 c.in-Ok.ensures.made.1
    c.in-Ok.ensures.made.2

pub invariant_of-pass : goal.invariant_of-pass
invariant_of-pass g c =
    folds-ready c.args.dead c.pass.inside.worker c.pass.invariant.0 c.pass.invariant.1 c.loop-number.pass-inside.worker
    c.loop-number.number c.loop-number.invariant

pub returns-clause-folded : goal.returns-clause-folded
returns-clause-folded g c =
    let of = subst (λ (p : Pass PcpuFacts PcpuStep). IsFrom p c.args.self.now) (sym c.pass.view_is) c.requires.table in
    let facts : c.self.inside.facts ≡ c.args.self.now.facts =
    sym c.self.invariant.same ∙ ap (λ (s : Shared PcpuFacts). s.facts) c.self.view_is in
    let every = ap (λ (f : PcpuFacts). counters_of f.base) facts in
    has-folded c.loop-number.pass-inside.worker c.pass.inside.worker c.args.self.now c.args.dead c.loop-number.number of
    c.requires.dead (omega (arith, every)) c.loop-number.invariant
