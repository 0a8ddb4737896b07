-- All lanes have begun, none has ended, and each result is of its lane.
use Rattle.vms_tables.specs.Common.{mains_of}
use Rattle.vms_world.specs.Common.{lanes_of}
use Rattle.vms_phase.proofs.JoinedLanes.{HaveJoinedLanes-none, HaveRunLanes-jobs}
use Rattle.vms_phase.proofs.runs.join_run_jobs.Goals as goal

pub join_lanes-requires : goal.join_lanes-requires
join_lanes-requires g c =
    let plan = c.args.plan.now in
    let header = plan.header.now in
    let tables = plan.tables.now in
    let w = plan.world.now in
    let items = plan.lines.now in
    let pressure = g.P.Rule.answers c.args.rules.now.pressure in
    let normal = g.N.Rule.answers c.args.rules.now.normal in
    let lanes = lanes_of header.layout items in
    let mains = mains_of c.args.mains.now in
    let jobs = c.requires.run.0 in
    let begun = c.requires.run.1 in
    HaveJoinedLanes-none header pressure normal tables w items lanes mains c.args.results.items begun.of
    (c.lanes_go_in_turn.ensures.none lanes mains begun.begun)
    (HaveRunLanes-jobs header pressure normal tables w items c.requires.made 1 lanes jobs c.args.results.items
    begun.each c.requires.run.2)
