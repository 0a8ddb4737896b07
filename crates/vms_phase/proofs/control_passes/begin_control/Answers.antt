-- No control pass lives where the control lane is apart from the lanes begun.
use Rattle.vms_file_order.specs.Common.{event_passes, page_passes, pcpu_passes}
use Rattle.vms_world.specs.Common.{Control}
use Rattle.vms_phase.proofs.BegunLanes.{free-lane}
use Rattle.vms_phase.proofs.control_passes.begin_control.Goals as goal

pub control_pass-requires-clause-free : goal.control_pass-requires-clause-free
control_pass-requires-clause-free c =
    let apart = c.requires.apart in
    free-lane page_passes apart.0 Control c.args.mains.now.page.seen apart.2 apart.3 apart.1.pages.own_events

pub control_pass-requires-2-clause-free : goal.control_pass-requires-2-clause-free
control_pass-requires-2-clause-free c =
    let apart = c.requires.apart in
    free-lane event_passes apart.0 Control c.args.mains.now.event.seen apart.2 apart.3 apart.1.events.own_events

pub control_pass-requires-3-clause-free : goal.control_pass-requires-3-clause-free
control_pass-requires-3-clause-free c =
    let apart = c.requires.apart in
    free-lane pcpu_passes apart.0 Control c.args.mains.now.pcpu.seen apart.2 apart.3 apart.1.counters.own_events
