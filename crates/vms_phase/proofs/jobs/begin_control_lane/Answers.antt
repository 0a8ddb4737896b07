-- The control lane's passes may begin, and its job stands next.
use Rattle.std.proofs.Common.{◌<◌, ◌≤◌, List, length, ap, sym, subst, arith, ◌∷◌, [], ◌++◌}
use Rattle.vms_world.specs.Common.{IsLaneScript, lane_items, Lane, Control, lanes_below, lanes_of}
use Rattle.vms_script.proofs.Common.{IsLaneScript-of}
use Rattle.vms_tables.specs.Common.{mains_of}
use Rattle.vms_lane.specs.declared.passes.LanePasses.TheVariants.{Control as OfControl}
use Rattle.vms_phase.specs.declared.jobs.LaneJob.{LaneJob}
use Rattle.vms_phase.specs.Common.{HaveBegunJobs}
use Rattle.vms_phase.proofs.ControlJobs.{HaveBegunJobs-control}
use Rattle.vms_phase.proofs.JobLists.{control-apart, control-more, control-once, control-skip, no-lines, some-lines}
use Rattle.vms_phase.proofs.jobs.begin_control_lane.Goals as goal

pub begin_control-passes-requires-clause-apart : goal.begin_control-passes-requires-clause-apart
begin_control-passes-requires-clause-apart c =
    let plan = c.args.plan.now in
    let header = plan.header.now in
    let items = plan.lines.now in
    let some : 0 < length (lane_items Control items) = some-lines (lane_items Control items) c.of-lines.result
    c.is_empty.result c.of-lines.ensures.lines c.is_empty.ensures c.if-not-is_empty.true in
    let apart = control-apart header plan.tables.now plan.world.now items some in
    (lanes_below header.layout.cpus items, c.requires.below.begun, apart.0, apart.1)

pub returns-in_ok-push : goal.returns-in_ok-push
returns-in_ok-push c =
    let plan = c.args.plan.now in
    let header = plan.header.now in
    let tables = plan.tables.now in
    let w = plan.world.now in
    let items = plan.lines.now in
    let some : 0 < length (lane_items Control items) = some-lines (lane_items Control items) c.of-lines.result
    c.is_empty.result c.of-lines.ensures.lines c.is_empty.ensures c.if-not-is_empty.true in
    let lanes = lanes_below header.layout.cpus items in
    let new = mains_of c.begin_control-passes.new.mains in
    let kept : IsLaneScript (lane_items Control items) = IsLaneScript-of Control items c.of-lines.ensures.kept in
    let few : length c.of-lines.result ≤ 1000000 = omega (arith, kept.few, ap length c.of-lines.ensures.lines) in
    let start = c.requires.start in
    let job : LaneJob =
    record { lane = Control; passes = OfControl c.begin_control-passes.result; lines = c.of-lines.result } in
    subst (λ (jobs : List LaneJob). HaveBegunJobs header tables w items (lanes_of header.layout items) new jobs)
    (sym c.in_ok-push.ensures.items)
    (subst (λ (ls : List Lane). HaveBegunJobs header tables w items ls new (c.args.jobs.now.items ++ job ∷ []))
    (control-more header tables w items some)
    (HaveBegunJobs-control header tables w items c.requires.made start.0 start.1 start.2 lanes
    (mains_of c.args.mains.now) c.args.jobs.now.items c.requires.below new c.begin_control-passes.result
    c.begin_control-passes.ensures.begun c.of-lines.result c.of-lines.ensures.lines
    (control-once header tables w items some) few
    (record { of = c.begin_control-passes.ensures.of; nothing = c.begin_control-passes.ensures.nothing })))

pub returns-else-not-is_empty : goal.returns-else-not-is_empty
returns-else-not-is_empty c =
    let plan = c.args.plan.now in
    let none : length (lane_items Control plan.lines.now) ≤ 0 =
    no-lines (lane_items Control plan.lines.now) c.of-lines.result c.is_empty.result c.of-lines.ensures.lines
    c.is_empty.ensures c.if-not-is_empty.false in
    control-skip plan.header.now plan.tables.now plan.world.now plan.lines.now (mains_of c.args.mains.now)
    c.args.jobs.now.items c.requires.below none
