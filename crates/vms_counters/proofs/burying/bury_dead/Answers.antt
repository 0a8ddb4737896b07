-- A load of the CPU's state leaves the handle as it is between two calls; and what a burial makes.
use Rattle.std.proofs.Common.{refl, rules}
use Rattle.vms_counters.specs.Handles.{IsBetweenCalls}
use Rattle.vms_counters.proofs.FoundStates.{between-found}
use Rattle.vms_counters.proofs.burying.bury_dead.Goals as goal

pub returns-then-not-is_dead-clause-between : goal.returns-then-not-is_dead-clause-between
returns-then-not-is_dead-clause-between g c = record {
  valid = c.requires.valid;
  between = between-found c.args.shared.now.tables.pages c.load_state.new.pass c.args.passes.now.page c.args.cpu
      c.load_state.result c.load_state.ensures.made c.requires.between;
  of_event = c.requires.of_event;
  of_pcpu = c.requires.of_pcpu;
}

pub returns-then-most_sets-ge-MOST_SETS-clause-between :
    goal.returns-then-most_sets-ge-MOST_SETS-clause-between
returns-then-most_sets-ge-MOST_SETS-clause-between g c = record {
  valid = c.requires.valid;
  between = between-found c.args.shared.now.tables.pages c.load_state.new.pass c.args.passes.now.page c.args.cpu
      c.load_state.result c.load_state.ensures.made c.requires.between;
  of_event = c.requires.of_event;
  of_pcpu = c.requires.of_pcpu;
}

pub bury-requires-clause-nothing : goal.bury-requires-clause-nothing
bury-requires-clause-nothing g c =
    let between : IsBetweenCalls c.args.shared.now.tables.pages c.load_state.new.pass = between-found
    c.args.shared.now.tables.pages c.load_state.new.pass c.args.passes.now.page c.args.cpu c.load_state.result
    c.load_state.ensures.made c.requires.between in
    between.nothing

pub returns-clause-made : goal.returns-clause-made
returns-clause-made g c = record {
  known = search rules;
  tables = refl;
  header = refl;
  found = c.load_state.new.pass;
  dead = search rules;
  steps = c.bury.ensures.page.0;
  buries = search rules;
  made = c.bury.ensures.page.2;
  events = search rules;
  counters = search rules;
  passes = c.bury.new.passes;
  are = refl;
  buried = c.bury.ensures.buried;
}
