-- The call makes the steps of a burial in the three tables.
use Rattle.std.proofs.Common.{◌+◌, ◌≤◌, sym, ap, subst, arith}
use Rattle.vms_world.specs.Common.{IsCpu, Shape, Facts, most_sets}
use Rattle.vms_core.specs.Pages.{state_after}
use Rattle.vms_words.specs.Common.{largest_sets}
use Rattle.vms_lane.proofs.MadeByControl.{burial-by_control}
use Rattle.vms_lane.proofs.control_lines.bury_dead.Goals as goal

pub bury-requires : goal.bury-requires
bury-requires g c =
    let facts = c.args.tables.now.pages.facts in
    let room : 2 + largest_sets facts.layout (state_after facts c.args.passes.now.page.seen) ≤ most_sets =
    c.requires.may.sets in
    record {
      header = c.requires.header;
      tables = c.requires.tables;
      passes = c.requires.passes.of;
      cpu = subst (λ (shape : Shape). IsCpu shape c.args.cpu.number)
          (sym (ap (λ (f : Facts). f.layout) c.requires.tables.pages)) c.requires.cpu;
      dead = c.requires.may.buries.0;
      nothing = c.requires.passes.nothing;
      room = omega (arith, room);
    }

pub returns : goal.returns
returns g c = record {
  makes = burial-by_control c.args.header.now (g.P.Rule.answers c.args.rules.now.pressure)
      (g.N.Rule.answers c.args.rules.now.normal) c.args.tables.now c.requires.tables c.args.passes.now
      c.answers_are_read.ensures.call c.requires.passes.of c.args.cpu c.bury.new.passes c.bury.ensures.page
      c.bury.ensures.event c.bury.ensures.pcpu;
  nothing = c.bury.ensures.carries;
  sets = omega (arith, c.bury.ensures.sets);
}
