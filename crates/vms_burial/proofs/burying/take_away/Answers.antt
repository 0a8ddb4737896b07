-- The goals were that the CPU is dead in all tables, that it may become absent, and what stands at the end.
use Rattle.std.proofs.Common.{ap, ◌∙◌}
use Rattle.vms_world.specs.Common.{state_at}
use Rattle.vms_burial.proofs.TakenAway.{absent-carries, dead-base, gone-now, is-fold, made-both, may-be_absent}
use Rattle.vms_burial.proofs.TakenAway.{sets-still}
use Rattle.vms_burial.proofs.AbsentCpus.{one-gives}
use Rattle.vms_burial.proofs.burying.take_away.Goals as goal

pub fold_events-requires-clause-dead : goal.fold_events-requires-clause-dead
fold_events-requires-clause-dead g c =
    ap (λ states. state_at states c.args.cpu.number) c.requires.alike.events
    ∙ dead-base c.laws_are_kept.ensures c.args.tables.now.pages c.args.passes.now.page c.args.cpu
    c.requires.passes.pages c.args.passes.now.owns_none c.is_live.ensures c.requires.cpu c.requires.dead

pub fold_dead-requires-clause-dead : goal.fold_dead-requires-clause-dead
fold_dead-requires-clause-dead g c =
    ap (λ states. state_at states c.args.cpu.number) c.requires.alike.counters
    ∙ dead-base c.laws_are_kept.ensures c.args.tables.now.pages c.args.passes.now.page c.args.cpu
    c.requires.passes.pages c.args.passes.now.owns_none c.is_live.ensures c.requires.cpu c.requires.dead

pub set_absent-requires-clause-sets : goal.set_absent-requires-clause-sets
set_absent-requires-clause-sets g c =
    may-be_absent c.laws_are_kept.ensures c.args.tables.now.pages c.args.passes.now.page c.args.cpu
    c.requires.passes.pages c.args.passes.now.owns_none c.is_live.ensures c.requires.cpu c.requires.dead
    c.fold.new.pass c.fold.ensures.folds (c.thresholds_may_be_set.ensures.burial one-gives) c.requires.nothing

pub returns-clause-page : goal.returns-clause-page
returns-clause-page g c = (
  c.fold.ensures.folds.steps,
  is-fold c.laws_are_kept.ensures c.args.tables.now.pages c.args.passes.now.page c.args.cpu
      c.requires.passes.pages c.args.passes.now.owns_none c.is_live.ensures c.requires.cpu c.requires.dead
      c.fold.new.pass c.fold.ensures.folds,
  made-both c.laws_are_kept.ensures c.args.tables.now.pages c.args.passes.now.page c.args.cpu
      c.requires.passes.pages c.args.passes.now.owns_none c.is_live.ensures c.requires.cpu c.requires.dead
      c.fold.new.pass c.fold.ensures.folds c.set_absent.new.pass c.set_absent.ensures,
)

pub returns-clause-event : goal.returns-clause-event
returns-clause-event g c =
    let moved = c.fold_events.ensures.made in record {
      into = moved.0;
      is_lowest = moved.3;
      found = moved.1;
      steps = moved.2;
      folds = moved.4;
      made = moved.5;
    }

pub returns-clause-pcpu : goal.returns-clause-pcpu
returns-clause-pcpu g c =
    let moved = c.fold_dead.ensures.made in record { steps = moved.0; folds = moved.1; made = moved.2 }

pub returns-clause-buried : goal.returns-clause-buried
returns-clause-buried g c =
    let gone = gone-now c.laws_are_kept.ensures c.args.tables.now.pages c.args.passes.now.page c.args.cpu
    c.requires.passes.pages c.args.passes.now.owns_none c.is_live.ensures c.requires.cpu c.requires.dead
    c.fold.new.pass c.fold.ensures.folds c.set_absent.new.pass c.set_absent.ensures in
    record {
      absent = gone.absent;
      none_left = gone.none_left;
      moved_once = gone.moved_once;
      events = c.fold_events.ensures.folded;
      counters = c.fold_dead.ensures.folded;
    }

pub returns-clause-carries : goal.returns-clause-carries
returns-clause-carries g c =
    absent-carries c.args.tables.now.pages.facts.layout c.set_absent.new.pass c.fold.new.pass c.args.cpu
    c.set_absent.ensures.all c.fold.ensures.carries

pub returns-clause-sets : goal.returns-clause-sets
returns-clause-sets g c =
    sets-still c.laws_are_kept.ensures c.args.tables.now.pages c.args.passes.now.page c.args.cpu
    c.requires.passes.pages c.args.passes.now.owns_none c.is_live.ensures c.requires.cpu c.requires.dead
    c.fold.new.pass c.fold.ensures.folds c.set_absent.new.pass c.set_absent.ensures
