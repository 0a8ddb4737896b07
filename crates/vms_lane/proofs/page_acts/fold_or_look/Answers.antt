-- Each call that every pass may make.
use Rattle.std.proofs.Common.{sym, ap, subst}
use Rattle.vms_calls.specs.declared.page_calls.PageAnswer.TheVariants as answer
use Rattle.vms_calls.specs.declared.page_calls.PageCall.{PageCall}
use Rattle.vms_world.specs.Common.{IsCounter, IsCpu, IsItem, IsZone, Shape, IsSnapshot, Facts}
use Rattle.vms_lane.specs.Common.{HasCalled, IsFoldOrLook}
use Rattle.vms_lane.proofs.ActKinds.{looks-none}
use Rattle.vms_lane.proofs.MadeOnPages.{fold-called}
use Rattle.vms_lane.proofs.page_acts.fold_or_look.Goals as goal

pub fold-requires : goal.fold-requires
fold-requires g c =
    let known = subst (IsFoldOrLook c.args.header.now) c.in-Fold.is c.requires.call in
    record {
      table = c.requires.table;
      cpu = subst (λ (f : Facts). IsCpu f.layout c.in-Fold.cpu.number) (sym c.requires.facts) known;
      nothing = c.requires.nothing;
    }

pub returns-in-Fold-clause-made : goal.returns-in-Fold-clause-made
returns-in-Fold-clause-made g c =
    let pressure = g.P.Rule.answers c.args.rules.now.pressure in
    let normal = g.N.Rule.answers c.args.rules.now.normal in
    let header = c.args.header.now in
    let facts = c.args.table.now.facts in
    let new = g.C.Caller.pass c.fold.new.pass in
    let old = g.C.Caller.pass c.args.pass.now in
    subst (λ (call : PageCall). HasCalled header pressure normal facts.base call new old answer.Done) (sym c.in-Fold.is)
    (fold-called header pressure normal facts c.requires.facts new old c.in-Fold.cpu c.fold.ensures.folds)

pub watermark_ok-requires : goal.watermark_ok-requires
watermark_ok-requires g c =
    let known = subst (IsFoldOrLook c.args.header.now) c.in-Test.is c.requires.call in
    record {
      table = c.requires.table;
      layout = sym (ap (λ (f : Facts). f.layout) c.requires.facts);
      sizes = sym (ap (λ (f : Facts). f.sizes) c.requires.facts);
      zone = subst (λ (f : Facts). IsZone f.layout c.in-Test.zone.number) (sym c.requires.facts) known.0;
      most = known.1;
    }

pub returns-in-Test-clause-made : goal.returns-in-Test-clause-made
returns-in-Test-clause-made g c =
    let pressure = g.P.Rule.answers c.args.rules.now.pressure in
    let normal = g.N.Rule.answers c.args.rules.now.normal in
    let made = c.watermark_ok.ensures.made in
    subst (λ (call : PageCall). HasCalled c.args.header.now pressure normal c.args.table.now.facts.base call
    (g.C.Caller.pass c.watermark_ok.new.pass) (g.C.Caller.pass c.args.pass.now) (answer.Tested c.watermark_ok.result))
    (sym c.in-Test.is) (record { steps = made.0; is_call = made.1; made = made.2; asked = λ asks. absurd cc })

pub place_value-requires : goal.place_value-requires
place_value-requires g c =
    let known = subst (IsFoldOrLook c.args.header.now) c.in-Value.is c.requires.call in
    record {
      table = c.requires.table;
      counter = subst (λ (f : Facts). IsCounter f.layout c.in-Value.counter.number) (sym c.requires.facts) known;
    }

pub returns-in-Value-clause-made : goal.returns-in-Value-clause-made
returns-in-Value-clause-made g c =
    let pressure = g.P.Rule.answers c.args.rules.now.pressure in
    let normal = g.N.Rule.answers c.args.rules.now.normal in
    let made = c.place_value.ensures.made in
    subst (λ (call : PageCall). HasCalled c.args.header.now pressure normal c.args.table.now.facts.base call
    (g.C.Caller.pass c.place_value.new.pass) (g.C.Caller.pass c.args.pass.now) (answer.Value c.place_value.result))
    (sym c.in-Value.is) (record { steps = made.0; is_call = made.1; made = made.2; asked = λ asks. absurd cc })

pub snapshot-requires : goal.snapshot-requires
snapshot-requires g c =
    let known = subst (IsFoldOrLook c.args.header.now) c.in-Snapshot.is c.requires.call in
    record {
      table = c.requires.table;
      counter = subst (λ (f : Facts). IsCounter f.layout c.in-Snapshot.counter.number) (sym c.requires.facts) known;
    }

pub returns-in-Snapshot-clause-made : goal.returns-in-Snapshot-clause-made
returns-in-Snapshot-clause-made g c =
    let pressure = g.P.Rule.answers c.args.rules.now.pressure in
    let normal = g.N.Rule.answers c.args.rules.now.normal in
    let made = c.snapshot.ensures.made in
    let snapshot = subst (λ (shape : Shape). IsSnapshot shape c.in-Snapshot.counter made.0 c.snapshot.result)
    (ap (λ (f : Facts). f.layout) c.requires.facts) made.1 in
    subst (λ (call : PageCall). HasCalled c.args.header.now pressure normal c.args.table.now.facts.base call
    (g.C.Caller.pass c.snapshot.new.pass) (g.C.Caller.pass c.args.pass.now) (answer.Snapshot c.snapshot.result))
    (sym c.in-Snapshot.is) (record { steps = made.0; is_call = snapshot; made = made.2; asked = λ asks. absurd cc })

pub system_value-requires : goal.system_value-requires
system_value-requires g c =
    let known = subst (IsFoldOrLook c.args.header.now) c.in-System.is c.requires.call in
    record {
      table = c.requires.table;
      item = subst (λ (f : Facts). IsItem f.layout c.in-System.item.number) (sym c.requires.facts) known;
    }

pub returns-in-System-clause-made : goal.returns-in-System-clause-made
returns-in-System-clause-made g c =
    let pressure = g.P.Rule.answers c.args.rules.now.pressure in
    let normal = g.N.Rule.answers c.args.rules.now.normal in
    let made = c.system_value.ensures.made in
    subst (λ (call : PageCall). HasCalled c.args.header.now pressure normal c.args.table.now.facts.base call
    (g.C.Caller.pass c.system_value.new.pass) (g.C.Caller.pass c.args.pass.now) (answer.System c.system_value.result))
    (sym c.in-System.is) (record { steps = made.0; is_call = made.1; made = made.2; asked = λ asks. absurd cc })

pub returns-in_default : goal.returns-in_default
returns-in_default g c =
    absurd (looks-none c.args.header.now c.args.call c.requires.call c.in_default.not-Fold c.in_default.not-Test
    c.in_default.not-Value c.in_default.not-Snapshot c.in_default.not-System)
