-- The lanes were told what stands in their places, and the world is the one in which the histories were closed.
use Rattle.std.proofs.Common.{◌∙◌, List, sym}
use Rattle.std.specs.Prelude.{All}
use Rattle.std.proofs.lemmas.List.Elements.{All-weaker}
use Rattle.vms_world.specs.Common.{Header, IsLaneOf, IsLineOf, Fits, Start, line_of, Item}
use Rattle.vms_answers.specs.Common.{told_by}
use Rattle.vms_answers.proofs.Common.{merged-everywhere}
use Rattle.vms_phase.specs.Common.{told_of, histories_of}
use Rattle.vms_phase.proofs.PlacedAnswers.{lanes-known, places-known}
use Rattle.vms_phase.proofs.phases.end_phase.Goals as goal

-- the lanes of lines that fit are lanes of the header
items-known : (header : Header) (start : Start) (items : List Item) → Fits header start items
    → All (λ (item : Item). IsLaneOf header item.lane) items
items-known header start items fits =
    All-weaker (λ (item : Item). IsLineOf header (line_of item)) (λ (item : Item). IsLaneOf header item.lane)
    (λ item is. is.0) items fits.known

pub place_answers-requires : goal.place_answers-requires
place_answers-requires g c = record {
  known = lanes-known c.args.header.now c.args.script.now c.close_lanes-lanes.result.lanes.items c.close_lanes-lanes.ensures.lanes;
}

pub returns-clause-world : goal.returns-clause-world
returns-clause-world g c =
    let ends = c.close_lanes-lanes.ensures in
    c.fitting_lanes_make_phases.ensures.left c.args.header.now c.args.world c.args.script.now
    (histories_of c.close_lanes-lanes.result.histories) c.close_lanes-lanes.new.world
    (record {
      pages = ends.tables.pages;
      events = ends.tables.events;
      counters = ends.tables.counters;
      volumes = ends.volumes;
    })

pub returns-clause-phase : goal.returns-clause-phase
returns-clause-phase g c =
    let made = c.close_lanes-lanes.result in
    let ends = c.close_lanes-lanes.ensures in
    let told = told_of made.lanes.items in
    c.lanes_make_phases_by.ensures.makes c.args.header.now c.args.world c.args.script.now (histories_of made.histories)
    told (ends.made told ends.told)

pub returns-clause-answers : goal.returns-clause-answers
returns-clause-answers g c =
    let made = c.close_lanes-lanes.result in
    let ends = c.close_lanes-lanes.ensures in
    let told = told_of made.lanes.items in
    let header = c.args.header.now in
    let items = c.args.script.now in
    let start = c.requires.start in
    c.lanes_make_phases_by.ensures.answers header c.args.world items (histories_of made.histories) told
    (ends.made told ends.told) start.2.ascend (items-known header start.0 items start.2)
    ∙ merged-everywhere items told (told_by c.in_ok-lanes.lanes.items) (λ lane. sym (c.in_ok-lanes.ensures.told lane))

pub returns-clause-places : goal.returns-clause-places
returns-clause-places g c =
    places-known c.args.header.now c.in_ok-lanes.lanes.items c.args.script.now c.in_ok-lanes.ensures.one_each
    (items-known c.args.header.now c.requires.start.0 c.args.script.now c.requires.start.2)
