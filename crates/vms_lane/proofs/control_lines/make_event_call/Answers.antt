-- A sum by its call, and a burial.
use Rattle.std.proofs.Common.{◌≡◌, [], ◌∷◌, Some, None, sym, ap, subst, ◌∙◌, arith}
use Rattle.vms_burial.specs.Common.{passes_of}
use Rattle.vms_world.specs.Common.{Total, EventCall, IsActOf, Act, Control, event_call}
use Rattle.vms_event_core.specs.declared.call_values.EventCall.TheVariants.{Sum}
use Rattle.vms_tables.specs.Common.{world_of}
use Rattle.vms_world.proofs.Common.{alone-no_burial, control-counts_none, folds-burial, sum-known}
use Rattle.vms_answers.specs.Common.{event_told}
use Rattle.vms_lane.specs.Common.{MayControl, MakeAct}
use Rattle.vms_lane.proofs.MadeByControl.{sum-by_control}
use Rattle.vms_lane.proofs.MadeOnEvents.{call-made}
use Rattle.vms_lane.proofs.control_lines.make_event_call.Goals as goal

pub all_events-requires : goal.all_events-requires
all_events-requires g c =
    let on : event_call Control c.args.act ≡ Some (Sum c.in-Sum.event) =
    c.requires.call ∙ ap (λ (call : EventCall). Some call) c.in-Sum.is in
    record {
      table = c.requires.passes.of.events;
      event = sum-known c.args.header.now Control c.args.act c.in-Sum.event c.requires.act on;
    }

pub returns-in-Sum : goal.returns-in-Sum
returns-in-Sum g c =
    let k = c.in-Sum.event in
    let on : event_call Control c.args.act ≡ Some (Sum k) =
    c.requires.call ∙ ap (λ (call : EventCall). Some call) c.in-Sum.is in
    let alone = alone-no_burial Control c.args.act (Sum k) on (λ d same. cc) in
    let made = c.all_events.ensures.made in
    let facts = c.args.tables.now.events.facts in
    record {
      makes = sum-by_control c.args.header.now (g.P.Rule.answers c.args.rules.now.pressure)
          (g.N.Rule.answers c.args.rules.now.normal) c.args.tables.now c.requires.tables c.args.passes.now
          c.control_passes_are_live.ensures c.args.act (Sum k) (event_told (Total c.all_events.result))
          c.all_events.new.pass on alone
          (call-made c.event_acts_tell_answers.ensures c.args.header.now facts Control c.args.act (Sum k)
          (Total c.all_events.result) c.all_events.new.pass c.args.passes.now.event on alone
          (made.1, (made.0, made.2), made.3));
      nothing = c.requires.passes.nothing;
      sets = omega arith;
    }

pub bury_dead-requires : goal.bury_dead-requires
bury_dead-requires g c =
    let dead = (folds-burial Control c.args.act c.in-FoldDead.cpu
    (c.requires.call ∙ ap (λ (call : EventCall). Some call) c.in-FoldDead.is)).1 in
    let act = subst (λ (a : Act). IsActOf c.args.header.now Control a) dead c.requires.act in
    record {
      header = c.requires.header;
      tables = c.requires.tables;
      passes = c.requires.passes;
      cpu = act.1;
      may = subst (λ (a : Act). MayControl c.args.tables.now.pages.facts (a ∷ []) c.args.passes.now.page.seen) dead
          c.requires.may;
    }

pub returns-in-FoldDead : goal.returns-in-FoldDead
returns-in-FoldDead g c =
    let dead = (folds-burial Control c.args.act c.in-FoldDead.cpu
    (c.requires.call ∙ ap (λ (call : EventCall). Some call) c.in-FoldDead.is)).1 in
    record {
      makes = subst (λ (a : Act). MakeAct c.args.header.now (g.P.Rule.answers c.args.rules.now.pressure)
          (g.N.Rule.answers c.args.rules.now.normal) (world_of c.args.tables.now) Control a
          (passes_of c.bury_dead.new.passes) (passes_of c.args.passes.now) None) (sym dead) c.bury_dead.ensures.makes;
      nothing = c.bury_dead.ensures.nothing;
      sets = c.bury_dead.ensures.sets;
    }

pub returns-in-Count : goal.returns-in-Count
returns-in-Count g c =
    absurd (control-counts_none c.args.act _ _ (c.requires.call ∙ ap (λ (call : EventCall). Some call) c.in-Count.is))
