-- Passes that have begun are of the tables, carry nothing, and have the volumes that were kept.
use Rattle.std.proofs.Common.{ℕ, List, Some, sym, subst}
use Rattle.vms_event.specs.Common.{IsCpuPass}
use Rattle.vms_tables.specs.Common.{mains_of, passes_of}
use Rattle.vms_tables.specs.declared.passes.CpuPasses.{CpuPasses}
use Rattle.vms_counters.specs.Handles.{volumes_in}
use Rattle.vms_counters.proofs.Between.{between-begun}
use Rattle.vms_counters.proofs.ThreeTables.{event-begun, of-begun, same-volumes}
use Rattle.vms_counters.proofs.passes.begin_passes.Goals as goal

pub returns-clause-of : goal.returns-clause-of
returns-clause-of c =
    let passes : CpuPasses = record {
      page = c.cpu_pass.result;
      event = c.cpu_pass-2.result;
      pcpu = c.cpu_pass-3.result;
    } in
    of-begun c.args.tables.now
    (mains_of (record { page = c.cpu_pass.new.main; event = c.cpu_pass-2.new.main; pcpu = c.cpu_pass-3.new.main }))
    (mains_of c.args.mains.now) (passes_of passes) c.args.cpu c.args.volumes c.requires.mains c.requires.may (record {
      pages = c.cpu_pass.ensures.begun;
      events = c.cpu_pass-2.ensures.begun;
      counters = c.cpu_pass-3.ensures.begun;
    })

pub returns-clause-between : goal.returns-clause-between
returns-clause-between c =
    between-begun c.args.tables.now.pages c.cpu_pass.new.main c.args.mains.now.page c.cpu_pass.result.pass
    (Some c.args.cpu) c.cpu_pass.ensures.begun c.requires.mains.pages

pub returns-clause-event : goal.returns-clause-event
returns-clause-event c =
    let passes : CpuPasses = record {
      page = c.cpu_pass.result;
      event = c.cpu_pass-2.result;
      pcpu = c.cpu_pass-3.result;
    } in
    subst (λ (volume : List ℕ). IsCpuPass c.cpu_pass-2.result.pass c.args.cpu volume)
    (sym c.cpu_pass-2.ensures.volume)
    (event-begun c.args.tables.now
    (mains_of (record { page = c.cpu_pass.new.main; event = c.cpu_pass-2.new.main; pcpu = c.cpu_pass-3.new.main }))
    (mains_of c.args.mains.now) (passes_of passes) c.args.cpu c.args.volumes c.requires.mains c.requires.may (record {
      pages = c.cpu_pass.ensures.begun;
      events = c.cpu_pass-2.ensures.begun;
      counters = c.cpu_pass-3.ensures.begun;
    }))

pub returns-clause-volumes : goal.returns-clause-volumes
returns-clause-volumes c =
    same-volumes
    (volumes_in (record { page = c.cpu_pass.result; event = c.cpu_pass-2.result; pcpu = c.cpu_pass-3.result }))
    c.args.volumes c.cpu_pass.ensures.volume c.cpu_pass-2.ensures.volume c.cpu_pass-3.ensures.volume
