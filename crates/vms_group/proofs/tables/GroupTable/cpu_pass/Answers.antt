-- The goal was that the pass carries nothing, and that the volumes hold what its CPU has spent.
use Rattle.vms_group.proofs.KnownPasses.{begun-owns}
use Rattle.vms_group.proofs.tables.GroupTable.cpu_pass.Goals as goal

pub invariant_of-result : goal.invariant_of-result
invariant_of-result c = begun-owns c.begin-worker.new.self c.args.main.now c.begin-worker.result c.args.cpu
    c.args.volume
    c.begin-worker.ensures c.requires.free c.requires.volume
