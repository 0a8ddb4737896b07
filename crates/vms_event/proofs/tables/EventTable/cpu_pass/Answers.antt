-- The goal was that the volumes cover what the CPU has counted.
use Rattle.vms_event.proofs.KnownSpending.{begun-covers}
use Rattle.vms_event.proofs.tables.EventTable.cpu_pass.Goals as goal

pub invariant_of-result : goal.invariant_of-result
invariant_of-result c = begun-covers
    c.begin-worker.new.self c.args.main.now c.begin-worker.result c.args.cpu c.args.volume
    c.begin-worker.ensures c.requires.free c.requires.volume
