-- The lines of a script that fits are of lanes, and the counted lines are those of the script.
use Rattle.std.proofs.Common.{List, [], subst, sym}
use Rattle.std.specs.Prelude.{IfOk}
use Rattle.std.proofs.lemmas.List.Elements.{All-weaker}
use Rattle.vms_tables.specs.Common.{mains_of}
use Rattle.vms_world.specs.Common.{Fits, IsLaneOf, IsLineOf, Item, Start, lanes_of, line_of}
use Rattle.vms_file_order.specs.Common.{IsStartOf}
use Rattle.vms_phase.specs.Common.{HaveJoinedLanes}
use Rattle.vms_phase.proofs.runs.run_lanes.Goals as goal

pub of-requires : goal.of-requires
of-requires g c =
    let header = c.args.header.now in
    record {
      lanes = All-weaker (λ (item : Item). IsLineOf header (line_of item)) (λ (item : Item). IsLaneOf header item.lane)
          (λ item is. is.0) c.args.script.now c.requires.start.2.known;
    }

pub begin_lanes-requires-clause-start : goal.begin_lanes-requires-clause-start
begin_lanes-requires-clause-start g c =
    let header = c.args.header.now in
    let w = c.args.world.now in
    subst (λ (items : List Item). (start : Start) × IsStartOf header start w × Fits header start items)
    (sym c.in_ok-lines.ensures) c.requires.start

pub join_run_jobs-requires-clause-run : goal.join_run_jobs-requires-clause-run
join_run_jobs-requires-clause-run g c = (c.in_ok-jobs.jobs.items, c.in_ok-jobs.ensures, c.in_ok-results.ensures)

pub returns : goal.returns
returns g c =
    let header = c.args.header.now in
    let pressure = g.P.Rule.answers c.args.rules.now.pressure in
    let normal = g.N.Rule.answers c.args.rules.now.normal in
    subst (λ (items : List Item). IfOk c.join_run_jobs.result (λ joined. HaveJoinedLanes header pressure normal
    c.args.tables.now c.args.world.now items (lanes_of header.layout items) (mains_of c.join_run_jobs.new.mains)
    joined.items [])) c.in_ok-lines.ensures c.join_run_jobs.ensures
