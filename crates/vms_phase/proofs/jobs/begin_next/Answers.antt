-- The lane's passes may begin, and its job stands next.
use Rattle.std.proofs.Common.{suc, ◌<◌, ◌≤◌, List, length, refl, sym, subst, [], ◌∷◌, ◌++◌}
use Rattle.vms_world.specs.Common.{lane_items, Lane, Cpu, lanes_below}
use Rattle.vms_tables.specs.Common.{mains_of}
use Rattle.vms_lane.specs.declared.passes.LanePasses.TheVariants.{Cpu as OfCpu}
use Rattle.vms_phase.specs.declared.jobs.LaneJob.{LaneJob}
use Rattle.vms_phase.specs.Common.{HaveBegunJobs, IsJob}
use Rattle.vms_phase.proofs.JobLists.{AreFresh-next, HaveBegunBelow-skip, HaveBegunJobs-next, MayBeginLane-next}
use Rattle.vms_phase.proofs.JobLists.{lanes-more, no-lines, some-lines}
use Rattle.vms_phase.proofs.ReadyJobs.{MayRunJob-fitting}
use Rattle.vms_phase.proofs.jobs.begin_next.Goals as goal

pub begin_cpu-requires-clause-may : goal.begin_cpu-requires-clause-may
begin_cpu-requires-clause-may c =
    let plan = c.args.plan.now in
    let some : 0 < length (lane_items (Cpu c.args.cpu) plan.lines.now) =
    some-lines (lane_items (Cpu c.args.cpu) plan.lines.now) c.of-lines.result c.is_empty.result c.of-lines.ensures.lines
    c.is_empty.ensures c.if-not-is_empty.true in
    let start = c.requires.start in (
      lanes_below c.args.cpu.number plan.lines.now,
      MayBeginLane-next plan.header.now plan.tables.now plan.world.now plan.lines.now c.args.cpu
          (mains_of c.args.mains.now) c.args.jobs.now.items c.requires.below some c.requires.made start.0 start.1
          start.2 c.requires.cpu,
    )

pub returns-in_ok-push : goal.returns-in_ok-push
returns-in_ok-push c =
    let plan = c.args.plan.now in
    let header = plan.header.now in
    let tables = plan.tables.now in
    let w = plan.world.now in
    let items = plan.lines.now in
    let some : 0 < length (lane_items (Cpu c.args.cpu) items) =
    some-lines (lane_items (Cpu c.args.cpu) items) c.of-lines.result c.is_empty.result c.of-lines.ensures.lines
    c.is_empty.ensures c.if-not-is_empty.true in
    let lanes = lanes_below c.args.cpu.number items in
    let mains = mains_of c.args.mains.now in
    let new = mains_of c.begin_cpu.new.mains in
    let job : LaneJob =
    record { lane = Cpu c.args.cpu; passes = OfCpu c.in_ok-passes.passes; lines = c.of-lines.result } in
    let start = c.requires.start in
    let is : IsJob header tables w items (suc (length lanes)) (Cpu c.args.cpu) job = record {
      is = refl;
      lines = c.of-lines.ensures.lines;
      fresh = AreFresh-next header tables w items lanes mains c.args.jobs.now.items c.requires.below (Cpu c.args.cpu)
          new job c.in_ok-passes.ensures.begun;
      ready = c.in_ok-passes.ensures.ready;
      volumes = c.in_ok-passes.ensures.volumes;
    } in
    subst (λ (jobs : List LaneJob). HaveBegunJobs header tables w items (lanes_below (suc c.args.cpu.number) items) new
    jobs) (sym c.in_ok-push.ensures.items)
    (subst (λ (ls : List Lane). HaveBegunJobs header tables w items ls new (c.args.jobs.now.items ++ job ∷ []))
    (lanes-more header tables w items c.args.cpu mains c.args.jobs.now.items c.requires.below some)
    (HaveBegunJobs-next header tables w items lanes mains c.args.jobs.now.items c.requires.below (Cpu c.args.cpu) new
    job c.in_ok-passes.ensures.begun is
    (MayRunJob-fitting header tables w start.0 items (suc (length lanes)) c.args.cpu job start.1 start.2
    c.requires.cpu is)))

pub returns-else-not-is_empty : goal.returns-else-not-is_empty
returns-else-not-is_empty c =
    let plan = c.args.plan.now in
    let none : length (lane_items (Cpu c.args.cpu) plan.lines.now) ≤ 0 =
    no-lines (lane_items (Cpu c.args.cpu) plan.lines.now) c.of-lines.result c.is_empty.result c.of-lines.ensures.lines
    c.is_empty.ensures c.if-not-is_empty.false in
    HaveBegunBelow-skip plan.header.now plan.tables.now plan.world.now plan.lines.now c.args.cpu
    (mains_of c.args.mains.now) c.args.jobs.now.items c.requires.below none
