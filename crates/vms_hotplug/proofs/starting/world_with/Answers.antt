-- What counts nothing is the same beside all page counters.
use Rattle.vms_hotplug.proofs.starting.world_with.Goals as goal

pub returns : goal.returns
returns c =
    let s = c.args.pages in
    cc (c.in_ok-events.ensures s, c.in_ok-counters.ensures s, c.in_ok-volumes.ensures s)
