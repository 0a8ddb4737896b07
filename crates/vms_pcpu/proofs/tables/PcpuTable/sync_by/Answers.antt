-- The goals were that the local part may be moved, and that the steps are those of a sync.
use Rattle.std.proofs.Common.{sym, subst}
use Rattle.vms_history.specs.Common.{IsCpu}
use Rattle.vms_pcpu_core.specs.declared.steps.PcpuFacts.{PcpuFacts}
use Rattle.vms_pcpu_core.specs.Common.{IsPcpu}
use Rattle.vms_pcpu.proofs.AddCalls.{sync-may, synced}
use Rattle.vms_pcpu.proofs.tables.PcpuTable.sync_by.Goals as goal

pub move_local-requires-clause-may : goal.move_local-requires-clause-may
move_local-requires-clause-may g c =
    let j = c.args.counter in
    let cpu = c.args.cpu in
    let facts = sym c.requires.table.facts in
    sync-may c.args.worker.now cpu j c.requires.calls
    (subst (λ (f : PcpuFacts). IsPcpu f j.number) facts c.requires.counter)
    (subst (λ (f : PcpuFacts). IsCpu f.layout cpu.number) facts c.requires.cpu) c.requires.whose
    c.lock.new.worker c.in_ok-lock.ensures.won.0 c.in_ok-lock.ensures.won.1 c.in_ok-lock.ensures.won.2

pub returns-clause-made : goal.returns-clause-made
returns-clause-made g c =
    let j = c.args.counter in
    let cpu = c.args.cpu in
    let facts = sym c.requires.table.facts in
    synced c.args.worker.now cpu j c.requires.calls
    (subst (λ (f : PcpuFacts). IsPcpu f j.number) facts c.requires.counter)
    (subst (λ (f : PcpuFacts). IsCpu f.layout cpu.number) facts c.requires.cpu) c.requires.whose
    c.lock.new.worker c.in_ok-lock.ensures.won.0 c.in_ok-lock.ensures.won.1 c.in_ok-lock.ensures.won.2
    c.move_local.new.worker c.move_local.ensures.0
    c.move_local.ensures.1
