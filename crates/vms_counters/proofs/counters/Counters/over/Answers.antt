-- What the counters keep as they are opened.
use Rattle.std.proofs.Common.{true, List, Option, sym, subst}
use Rattle.vms_world.specs.Common.{CpuVolumes}
use Rattle.vms_tables.specs.Common.{mains_of}
use Rattle.vms_counters.specs.declared.shared.SharedCounters.{SharedCounters}
use Rattle.vms_counters.specs.Opened.{AreCounters}
use Rattle.vms_counters.proofs.ThreeTables.{kept-opened}
use Rattle.vms_counters.proofs.counters.Counters.over.Goals as goal

pub invariant_of-result : goal.invariant_of-result
invariant_of-result c =
    let given = c.requires in
    let header = c.args.header in
    let tables = c.args.tables in
    let world = c.args.world in
    let mains = mains_of c.args.mains in
    subst (λ (shared : SharedCounters). AreCounters shared.header shared.tables world mains c.args.volumes.items true)
    (sym c.in_ok-shared.ensures.ok)
    (subst (λ (items : List (Option CpuVolumes)). AreCounters header tables world mains items true) (sym given.volumes)
    (kept-opened header given.valid world given.world tables given.tables given.made mains given.of given.nothing))
