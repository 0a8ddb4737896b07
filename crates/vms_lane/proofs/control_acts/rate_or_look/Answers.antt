-- Each call of the control pass.
use Rattle.std.proofs.Common.{sym, ap, subst, arith}
use Rattle.vms_calls.specs.declared.page_calls.PageAnswer.TheVariants.{Done, Balanced}
use Rattle.vms_calls.specs.declared.page_calls.PageCall.{PageCall}
use Rattle.vms_world.specs.Common.{Facts}
use Rattle.vms_lane.specs.Common.{HasCalled, IsCallOfControl}
use Rattle.vms_lane.proofs.ActKinds.{control-looks}
use Rattle.vms_lane.proofs.RatedByControl.{looks-sets, node-in, normal-called, pressure-called, turn-called}
use Rattle.vms_lane.proofs.control_acts.rate_or_look.Goals as goal

pub set_pressure-requires : goal.set_pressure-requires
set_pressure-requires g c =
    let known = subst (IsCallOfControl c.args.header.now) c.in-SetPressure.is c.requires.call in
    record {
      table = c.requires.table;
      sizes = sym (ap (λ (f : Facts). f.sizes) c.requires.facts);
      node = node-in c.args.header.now c.args.table.now.facts c.requires.facts c.in-SetPressure.node.number known;
      room = omega (arith, c.requires.room);
    }

pub returns-in-SetPressure : goal.returns-in-SetPressure
returns-in-SetPressure g c =
    let header = c.args.header.now in
    let pressure = g.P.Rule.answers c.args.rules.now.pressure in
    let normal = g.N.Rule.answers c.args.rules.now.normal in
    let table = c.args.table.now in
    let new = c.set_pressure.new.pass in
    let old = c.args.pass.now in
    let made = c.set_pressure.ensures.made in
    record {
      made = subst (λ (call : PageCall). HasCalled header pressure normal table.facts.base call new old Done)
          (sym c.in-SetPressure.is)
          (pressure-called header pressure normal table c.requires.facts new old c.requires.table c.requires.owner
          c.in-SetPressure.node made.0 made.1 made.2);
      sets = omega (arith, c.set_pressure.ensures.sets);
    }

pub set_normal-requires : goal.set_normal-requires
set_normal-requires g c =
    let known = subst (IsCallOfControl c.args.header.now) c.in-SetNormal.is c.requires.call in
    record {
      table = c.requires.table;
      sizes = sym (ap (λ (f : Facts). f.sizes) c.requires.facts);
      node = node-in c.args.header.now c.args.table.now.facts c.requires.facts c.in-SetNormal.node.number known;
      room = omega (arith, c.requires.room);
    }

pub returns-in-SetNormal : goal.returns-in-SetNormal
returns-in-SetNormal g c =
    let header = c.args.header.now in
    let pressure = g.P.Rule.answers c.args.rules.now.pressure in
    let normal = g.N.Rule.answers c.args.rules.now.normal in
    let table = c.args.table.now in
    let new = c.set_normal.new.pass in
    let old = c.args.pass.now in
    let made = c.set_normal.ensures.made in
    record {
      made = subst (λ (call : PageCall). HasCalled header pressure normal table.facts.base call new old Done)
          (sym c.in-SetNormal.is)
          (normal-called header pressure normal table c.requires.facts new old c.requires.table c.requires.owner
          c.in-SetNormal.node made.0 made.1 made.2);
      sets = omega (arith, c.set_normal.ensures.sets);
    }

pub kswapd_turn-requires : goal.kswapd_turn-requires
kswapd_turn-requires g c =
    let known = subst (IsCallOfControl c.args.header.now) c.in-Turn.is c.requires.call in
    record {
      table = c.requires.table;
      header = c.requires.header;
      layout = sym (ap (λ (f : Facts). f.layout) c.requires.facts);
      sizes = sym (ap (λ (f : Facts). f.sizes) c.requires.facts);
      node = known.0;
      order = known.1;
      most = known.2;
      room = omega (arith, c.requires.room);
    }

pub returns-in-Turn : goal.returns-in-Turn
returns-in-Turn g c =
    let header = c.args.header.now in
    let pressure = g.P.Rule.answers c.args.rules.now.pressure in
    let normal = g.N.Rule.answers c.args.rules.now.normal in
    let table = c.args.table.now in
    let new = c.kswapd_turn.new.pass in
    let old = c.args.pass.now in
    let made = c.kswapd_turn.ensures.made in
    record {
      made = subst (λ (call : PageCall). HasCalled header pressure normal table.facts.base call new old
          (Balanced c.kswapd_turn.result)) (sym c.in-Turn.is)
          (turn-called header pressure normal table c.requires.facts new old c.requires.table c.requires.owner
          c.in-Turn.node c.in-Turn.order c.in-Turn.most c.kswapd_turn.result made.0 made.1 made.2);
      sets = omega (arith, c.kswapd_turn.ensures.sets);
    }

pub fold_or_look-requires-clause-call : goal.fold_or_look-requires-clause-call
fold_or_look-requires-clause-call g c =
    control-looks c.args.header.now c.args.call c.requires.call c.in_default.not-SetPressure
    c.in_default.not-SetNormal c.in_default.not-Turn

pub returns-in_default : goal.returns-in_default
returns-in_default g c =
    let pressure = g.P.Rule.answers c.args.rules.now.pressure in
    let normal = g.N.Rule.answers c.args.rules.now.normal in
    let made = c.fold_or_look.ensures.made in
    record {
      made = made;
      sets = looks-sets c.args.header.now pressure normal c.args.table.now c.fold_or_look.new.pass c.args.pass.now
          c.requires.table c.is_live.ensures c.requires.owner c.args.call
          (control-looks c.args.header.now c.args.call c.requires.call c.in_default.not-SetPressure
          c.in_default.not-SetNormal c.in_default.not-Turn) c.fold_or_look.result made;
    }
