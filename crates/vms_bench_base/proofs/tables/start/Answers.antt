-- The goal was what is known where threads begin to work.
use Rattle.std.proofs.Common.{sym, subst}
use Rattle.vms_calls.specs.Common.{IsLayout}
use Rattle.vms_bench_base.proofs.Counters.{first_counters}
use Rattle.vms_bench_base.proofs.tables.start.Goals as goal

pub returns : goal.returns
returns c =
    let layout : IsLayout c.in_ok-table.table.facts.layout =
    subst IsLayout (sym c.in_ok-table.ensures.layout) c.in_ok-header.ensures.machine.layout in
    record {
      header = record { layout = sym c.in_ok-table.ensures.layout; sizes = sym c.in_ok-table.ensures.sizes };
      passes = c.in_ok-passes.ensures;
      zone = layout.some_zone;
      counters = first_counters c.in_ok-table.table.facts.layout layout;
    }
