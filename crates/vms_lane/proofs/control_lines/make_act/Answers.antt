-- Each act of the control lane, by whether it makes a call on the event counters.
use Rattle.std.proofs.Common.{◌+◌, ◌≤◌, sym, arith}
use Rattle.vms_core.specs.Pages.{state_after}
use Rattle.vms_world.specs.Common.{most_sets}
use Rattle.vms_words.specs.Common.{largest_sets}
use Rattle.vms_lane.proofs.MadeByControl.{pages-by_control, pages-nothing}
use Rattle.vms_lane.proofs.control_lines.make_act.Goals as goal

pub make_event_call-requires : goal.make_event_call-requires
make_event_call-requires g c = record {
  header = c.requires.header;
  tables = c.requires.tables;
  passes = c.requires.passes;
  act = c.requires.act;
  call = sym c.in-Some.ensures;
  may = c.requires.may;
}

pub run_control_act-requires : goal.run_control_act-requires
run_control_act-requires g c =
    let facts = c.args.tables.now.pages.facts in
    let room : 2 + largest_sets facts.layout (state_after facts c.args.passes.now.page.seen) ≤ most_sets =
    c.requires.may.sets in
    record {
      header = c.requires.header;
      table = c.requires.passes.of.pages;
      facts = c.requires.tables.pages;
      owner = c.args.passes.now.owns_none;
      nothing = c.requires.passes.nothing;
      act = c.requires.act;
      no_events = sym c.in-None.ensures;
      room = omega (arith, room);
    }

pub returns-in-None : goal.returns-in-None
returns-in-None g c =
    let header = c.args.header.now in
    let pressure = g.P.Rule.answers c.args.rules.now.pressure in
    let normal = g.N.Rule.answers c.args.rules.now.normal in
    let answer = c.run_control_act.result in
    let pass = c.run_control_act.new.pass in
    record {
      makes = pages-by_control header pressure normal c.args.tables.now c.requires.tables c.args.passes.now
          c.control_passes_are_live.ensures c.args.act answer pass c.run_control_act.ensures.made
          (sym c.in-None.ensures);
      nothing = pages-nothing header pressure normal c.args.tables.now c.requires.tables c.args.passes.now c.args.act
          answer pass c.run_control_act.ensures.made;
      sets = c.run_control_act.ensures.sets;
    }
