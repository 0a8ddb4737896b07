-- All passes have ended when the tables are closed, and the closed histories are what the main passes have seen.
use Rattle.std.proofs.Common.{List, sym, subst}
use Rattle.std.specs.Prelude.{All}
use Rattle.vms_tables.specs.Common.{mains_of}
use Rattle.vms_world.specs.Common.{lanes_of, TableHistories}
use Rattle.vms_phase.specs.declared.lane_joins.JoinedLane.{JoinedLane}
use Rattle.vms_phase.specs.Common.{AreGivenBack, HasOwn, HaveAll, AreMadeByLanes}
use Rattle.vms_phase.proofs.JoinedPhases.{all-joined}
use Rattle.vms_phase.proofs.KeptVolumes.{own-all, volumes-given_back}
use Rattle.vms_phase.proofs.SideBySide.{closed-complete, closed-facts, closed-seen, closed-tables, shaped-there}
use Rattle.vms_phase.proofs.SideBySide.{words-there}
use Rattle.vms_phase.proofs.side_by_side.close_lanes.Goals as goal

pub close-histories-requires-clause-ended : goal.close-histories-requires-clause-ended
close-histories-requires-clause-ended g c =
    let header = c.args.header.now in
    let tables = c.args.tables in
    let w = c.args.world.now in
    let items = c.args.script.now in
    let mains = mains_of c.args.mains in
    let joined = c.args.lanes.items in
    let have = c.requires.joined in
    let start = c.requires.start in
    c.fitting_lanes_have_ended.ensures header tables w start.0 items mains c.requires.tables c.requires.from have.of
    start.1 start.2 (c.joined_lanes_are_made.ensures.ended header tables w items mains joined have)

pub close-histories-requires-clause-shaped : goal.close-histories-requires-clause-shaped
close-histories-requires-clause-shaped g c =
    shaped-there c.args.header.now c.args.tables c.args.world.now c.requires.tables c.requires.from
    c.requires.start.1.world

pub close-histories-requires-clause-words : goal.close-histories-requires-clause-words
close-histories-requires-clause-words g c =
    words-there c.args.header.now c.args.tables c.args.world.now c.requires.tables c.requires.from

pub returns-clause-made : goal.returns-clause-made
returns-clause-made g c told tells =
    let header = c.args.header.now in
    let tables = c.args.tables in
    let w = c.args.world.now in
    let items = c.args.script.now in
    let mains = mains_of c.args.mains in
    let joined = c.args.lanes.items in
    let have = c.requires.joined in
    let closed = c.close-histories.result in
    let ends = c.close-histories.ensures in
    let all = c.are_complete.ensures in
    let complete = closed-complete header tables w c.requires.tables c.requires.from mains closed ends.page_history
    ends.event_history ends.pcpu_history all.pages all.events all.counters in
    subst (λ (hs : TableHistories). AreMadeByLanes header (g.P.Rule.answers c.args.rules.now.pressure)
    (g.N.Rule.answers c.args.rules.now.normal) w items hs told)
    (sym (closed-seen header tables w c.requires.tables c.requires.from mains closed ends.page_history
    ends.event_history ends.pcpu_history))
    (c.joined_lanes_are_made.ensures.made header tables w items mains joined told have tells complete)

pub returns-clause-lanes : goal.returns-clause-lanes
returns-clause-lanes g c =
    c.joined_lanes_are_made.ensures.lanes c.args.header.now c.args.tables c.args.world.now c.args.script.now
    (mains_of c.args.mains) c.args.lanes.items c.requires.joined

pub returns-clause-told : goal.returns-clause-told
returns-clause-told g c =
    c.joined_lanes_are_made.ensures.told c.args.header.now c.args.tables c.args.world.now c.args.script.now
    (mains_of c.args.mains) c.args.lanes.items c.requires.joined

pub returns-clause-tables : goal.returns-clause-tables
returns-clause-tables g c =
    let ends = c.close-histories.ensures in
    let closed = closed-tables c.args.header.now c.args.tables c.args.world.now c.requires.tables c.requires.from
    (mains_of c.args.mains) c.close-histories.result ends.page_history ends.event_history ends.pcpu_history
    c.close-histories.new.world ends.pages ends.events ends.counters in
    record { pages = closed.pages; events = closed.events; counters = closed.counters }

pub returns-clause-facts : goal.returns-clause-facts
returns-clause-facts g c =
    let ends = c.close-histories.ensures in
    let facts = closed-facts c.args.header.now c.args.tables c.args.world.now c.requires.tables c.requires.from
    (mains_of c.args.mains) c.close-histories.result ends.page_history ends.event_history
    ends.pcpu_history in
    record { pages = facts.pages; events = facts.events; counters = facts.counters }

pub keep_volumes-requires-clause-all : goal.keep_volumes-requires-clause-all
keep_volumes-requires-clause-all g c =
    let world = c.requires.start.1.world in
    subst (HaveAll c.args.header.now) (sym c.close-histories.ensures.volumes) (record {
      pages = world.page_volumes.one_each;
      events = world.event_volumes.one_each;
      counters = world.pcpu_volumes.one_each;
    })

pub keep_volumes-requires-clause-own : goal.keep_volumes-requires-clause-own
keep_volumes-requires-clause-own g c =
    let header = c.args.header.now in
    let w = c.args.world.now in
    let items = c.args.script.now in
    let pressure = g.P.Rule.answers c.args.rules.now.pressure in
    let normal = g.N.Rule.answers c.args.rules.now.normal in
    let mains = mains_of c.args.mains in
    let joined = c.args.lanes.items in
    let all = all-joined header pressure normal c.args.tables w items mains (lanes_of header.layout items) joined
    c.requires.joined in
    subst (All (λ (one : JoinedLane). HasOwn header one.lane one.volumes)) (sym c.as_slice.ensures.value)
    (own-all header pressure normal w items mains joined all.each)

pub returns-clause-volumes : goal.returns-clause-volumes
returns-clause-volumes g c =
    let header = c.args.header.now in
    let w = c.args.world.now in
    let items = c.args.script.now in
    let pressure = g.P.Rule.answers c.args.rules.now.pressure in
    let normal = g.N.Rule.answers c.args.rules.now.normal in
    let mains = mains_of c.args.mains in
    let joined = c.args.lanes.items in
    let all = all-joined header pressure normal c.args.tables w items mains (lanes_of header.layout items) joined
    c.requires.joined in
    let new = c.keep_volumes.new.volumes in
    volumes-given_back header pressure normal w items mains joined new all.each
    (subst (λ (lanes : List JoinedLane). AreGivenBack header lanes new w.volumes) c.as_slice.ensures.value
    (subst (AreGivenBack header c.as_slice.result.now new) c.close-histories.ensures.volumes c.keep_volumes.ensures))
