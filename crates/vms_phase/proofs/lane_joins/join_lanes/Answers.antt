-- Each lane in turn ends next, and stands next among those that have ended.
use Rattle.std.proofs.Common.{List, length, sym, ap, subst, arith}
use Rattle.std.specs.Vec.Iter.{into_iter_items}
use Rattle.vms_tables.specs.Common.{mains_of}
use Rattle.vms_world.specs.Common.{lanes_of}
use Rattle.vms_lane.specs.Common.{passes_in}
use Rattle.vms_phase.specs.declared.jobs.LaneDone.{LaneDone}
use Rattle.vms_phase.specs.declared.lane_joins.JoinedLane.{JoinedLane}
use Rattle.vms_phase.specs.Common.{HaveJoinedLanes}
use Rattle.vms_phase.proofs.JoinedLanes.{HaveJoinedLanes-next, ends-next, have-next, next-below, next-number}
use Rattle.vms_phase.proofs.lane_joins.join_lanes.Goals as goal

pub join_lane-joined-requires-clause-ready : goal.join_lane-joined-requires-clause-ready
join_lane-joined-requires-clause-ready g c =
    let header = c.args.plan.now.header.now in
    let pressure = g.P.Rule.answers c.args.rules.now.pressure in
    let normal = g.N.Rule.answers c.args.rules.now.normal in
    let tables = c.args.plan.now.tables.now in
    let w = c.args.plan.now.world.now in
    let items = c.args.plan.now.lines.now in
    let lanes = lanes_of header.layout items in
    let old = mains_of c.loop-result.mains in
    let joined = c.loop-result.lanes.items in
    let rest = into_iter_items c.next.new.self in
    let done : LaneDone = c.in_ok-result.field-0 in
    let have = have-next header pressure normal tables w items lanes old joined
    (into_iter_items c.loop-result.result-iterator) rest c.in-Some.result done c.in-Some.ensures.steps.0
    c.in_ok-result.was c.loop-result.invariant.0 in
    let next = ends-next header pressure normal tables w items lanes old joined done rest have in
    (next.lane, next.run.ready)

pub loop-result-preserved : goal.loop-result-preserved
loop-result-preserved g c =
    let header = c.args.plan.now.header.now in
    let pressure = g.P.Rule.answers c.args.rules.now.pressure in
    let normal = g.N.Rule.answers c.args.rules.now.normal in
    let tables = c.args.plan.now.tables.now in
    let w = c.args.plan.now.world.now in
    let items = c.args.plan.now.lines.now in
    let lanes = lanes_of header.layout items in
    let old = mains_of c.loop-result.mains in
    let new = mains_of c.join_lane-joined.new.mains in
    let joined = c.loop-result.lanes.items in
    let rest = into_iter_items c.next.new.self in
    let done : LaneDone = c.in_ok-result.field-0 in
    let have = have-next header pressure normal tables w items lanes old joined
    (into_iter_items c.loop-result.result-iterator) rest c.in-Some.result done c.in-Some.ensures.steps.0
    c.in_ok-result.was c.loop-result.invariant.0 in
    let one : JoinedLane = c.join_lane-joined.result in
    let ends = c.join_lane-joined.ensures in
    let more = c.lanes_go_in_turn.ensures.ended lanes (length have.over) new old (passes_in done.passes)
    (next-below header pressure normal tables w items lanes old joined done rest have) have.ended
    (next-number header pressure normal tables w items lanes old joined done rest have) ends.ended in
    let was = c.loop-result.invariant.1 in
    let gone = c.in-Some.ensures.steps.1 in
    let short = ap length c.in-Some.ensures.steps.0 in (
      subst (λ (list : List JoinedLane). HaveJoinedLanes header pressure normal tables w items lanes new list rest)
          (sym c.in_ok-push.ensures.items)
          (HaveJoinedLanes-next header pressure normal tables w items lanes old joined done rest have new ends.ended one
          ends.lane ends.answers ends.volumes more),
      omega (arith, was, gone, short),
    )
