-- The jobs that are handed over are those of the lanes that have begun, and what comes back is of them.
use Rattle.std.proofs.Common.{◌≡◌, List, [], All, subst, sym}
use Rattle.std.specs.Prelude.{IfOk}
use Rattle.std.proofs.lemmas.List.Elements.{All-weaker}
use Rattle.vms_tables.specs.Common.{mains_of}
use Rattle.vms_world.specs.Common.{Fits, IsLaneOf, IsLineOf, Item, RulePair, Start, lane_items, lanes_of, line_of}
use Rattle.vms_file_order.specs.Common.{IsStartOf}
use Rattle.vms_phase.specs.declared.jobs.LaneJob.{LaneJob}
use Rattle.vms_phase.specs.Common.{HaveJoinedLanes, HaveRunJobs}
use Rattle.vms_standing.specs.Common.{Pairs}
use Rattle.vms_standing_phase.proofs.StandingLanes.{Stands, have-run, lines-own, may-stand}
use Rattle.vms_standing_phase.proofs.phases.run_lanes.Goals as goal

pub of-requires : goal.of-requires
of-requires g c =
    let share = c.args.share.now in
    record {
      lanes = All-weaker (λ (item : Item). IsLineOf share.header (line_of item))
          (λ (item : Item). IsLaneOf share.header item.lane) (λ item is. is.0) share.script c.requires.start.2.known;
    }

pub begin_lanes-requires-clause-start : goal.begin_lanes-requires-clause-start
begin_lanes-requires-clause-start g c =
    let share = c.args.share.now in
    let w = c.args.world.now in
    subst (λ (items : List Item). (start : Start) × IsStartOf share.header start w × Fits share.header start items)
    (sym c.in_ok-lines.ensures) c.requires.start

pub standing_jobs-requires : goal.standing_jobs-requires
standing_jobs-requires g c =
    let share = c.args.share.now in
    let items = c.in_ok-lines.lines in
    let jobs = c.in_ok-jobs.jobs.items in
    let own = lines-own share.header share.tables c.args.world.now items 1 (lanes_of share.header.layout items) jobs
    c.in_ok-jobs.ensures.each in
    subst (λ s. All (λ (job : LaneJob). job.lines ≡ lane_items job.lane s.script) jobs) c.requires.same
    (subst (λ (is : List Item). All (λ (job : LaneJob). job.lines ≡ lane_items job.lane is) jobs)
    c.in_ok-lines.ensures own)

pub make_all-requires : goal.make_all-requires
make_all-requires g c =
    let share = c.args.share.now in
    let jobs = c.in_ok-jobs.jobs.items in
    let made = c.in_ok-standing.standing.items in
    let stand : Pairs (Stands share) jobs made =
    subst (λ s. Pairs (Stands s) jobs made) (sym c.requires.same) c.in_ok-standing.ensures in
    may-stand share g.N.Rule.accepts g.N.Rule.answers g.P.Rule.accepts g.P.Rule.answers c.requires.normal
    c.requires.pressure c.requires.header c.requires.tables jobs made stand c.in_ok-jobs.ensures.may

pub join_run_jobs-requires-clause-run : goal.join_run_jobs-requires-clause-run
join_run_jobs-requires-clause-run g c =
    let share = c.args.share.now in
    let jobs = c.in_ok-jobs.jobs.items in
    let made = c.in_ok-standing.standing.items in
    let results = c.in_ok-results.results.items in
    let stand : Pairs (Stands share) jobs made =
    subst (λ s. Pairs (Stands s) jobs made) (sym c.requires.same) c.in_ok-standing.ensures in (
      jobs,
      c.in_ok-jobs.ensures,
      subst (λ (rules : RulePair _ _). HaveRunJobs share.header (g.P.Rule.answers rules.pressure)
          (g.N.Rule.answers rules.normal) share.tables jobs results) (sym c.make-rules.ensures)
          (have-run share g.P.Rule.answers g.N.Rule.answers jobs made results stand c.in_ok-results.ensures),
    )

pub returns : goal.returns
returns g c =
    let share = c.args.share.now in
    subst (λ (rules : RulePair _ _). IfOk c.join_run_jobs.result (λ joined. HaveJoinedLanes share.header
    (g.P.Rule.answers rules.pressure) (g.N.Rule.answers rules.normal) share.tables c.args.world.now share.script
    (lanes_of share.header.layout share.script) (mains_of c.join_run_jobs.new.mains) joined.items []))
    c.make-rules.ensures
    (subst (λ (items : List Item). IfOk c.join_run_jobs.result (λ joined. HaveJoinedLanes share.header
    (g.P.Rule.answers c.make-rules.result.pressure) (g.N.Rule.answers c.make-rules.result.normal) share.tables
    c.args.world.now items (lanes_of share.header.layout items) (mains_of c.join_run_jobs.new.mains) joined.items []))
    c.in_ok-lines.ensures c.join_run_jobs.ensures)
