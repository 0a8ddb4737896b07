-- The goals were that zeros are a base, and that there are eight counters on CPUs that are online.
use Rattle.std.proofs.Common.{sym, subst, ◌∙◌}
use Rattle.vms_bench.specs.Common.{AreOpen}
use Rattle.vms_bench.proofs.LocalBases.{IsBase-zeros, AreOpen-all}
use Rattle.vms_bench.proofs.locals.make_table.Goals as goal

pub make-requires : goal.make-requires
make-requires c =
    IsBase-zeros c.in_ok-layout.layout c.as_slice.result.now c.in_ok-batch.batch c.in_ok-count.count
    c.in_ok-local.local c.in_ok-layout.ensures.0 c.in_ok-layout.ensures.1 (c.as_slice.ensures ∙ c.in_ok-cpus.ensures)
    c.in_ok-batch.ensures c.in_ok-count.ensures c.in_ok-local.ensures

pub returns-clause-open : goal.returns-clause-open
returns-clause-open c =
    subst AreOpen (sym c.in_ok-made.ensures.table)
    (AreOpen-all c.in_ok-layout.layout c.as_slice.result.now c.in_ok-batch.batch c.in_ok-count.count
    c.in_ok-local.local c.in_ok-layout.ensures.0 c.in_ok-layout.ensures.1 (c.as_slice.ensures ∙ c.in_ok-cpus.ensures)
    c.in_ok-batch.ensures c.in_ok-count.ensures c.in_ok-local.ensures)
