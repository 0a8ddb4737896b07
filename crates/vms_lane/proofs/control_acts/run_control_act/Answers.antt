-- An act by its call.
use Rattle.std.proofs.Common.{◌≡◌, ◌≢◌, Option, Some, sym, subst}
use Rattle.vms_calls.specs.declared.page_calls.PageCall.TheVariants.{Bury}
use Rattle.vms_world.specs.Common.{CpuId, Control, page_call}
use Rattle.vms_answers.specs.declared.answers.Answer.{Answer}
use Rattle.vms_lane.specs.Common.{IsCallOfControl, MakesOnPages}
use Rattle.vms_lane.proofs.MadeOnPages.{act-made, control-calls, control-some}
use Rattle.vms_lane.proofs.control_acts.run_control_act.Goals as goal

pub rate_or_look-requires : goal.rate_or_look-requires
rate_or_look-requires g c = record {
  header = c.requires.header;
  table = c.requires.table;
  facts = c.requires.facts;
  owner = c.requires.owner;
  nothing = c.requires.nothing;
  call = control-calls c.args.header.now c.requires.header c.args.act c.requires.act c.requires.no_events c.in-Some.call
      (sym c.in-Some.ensures);
  room = c.requires.room;
}

pub returns-in-Some : goal.returns-in-Some
returns-in-Some g c =
    let header = c.args.header.now in
    let pressure = g.P.Rule.answers c.args.rules.now.pressure in
    let normal = g.N.Rule.answers c.args.rules.now.normal in
    let call = c.in-Some.call in
    let act = c.args.act in
    let facts = c.args.table.now.facts in
    let new = c.rate_or_look.new.pass in
    let old = c.args.pass.now in
    let on : page_call Control act ≡ Some call = sym c.in-Some.ensures in
    let known = control-calls header c.requires.header act c.requires.act c.requires.no_events call on in
    let no_burial : (d : CpuId) → call ≢ Bury d = λ d same. subst (IsCallOfControl header) same known in
    record {
      made = subst (λ (answer : Option Answer). MakesOnPages header pressure normal facts.base Control act new old
          answer) (sym c.page_told.ensures)
          (act-made header pressure normal facts c.requires.facts new old c.requires.header Control c.requires.owner act
          call on no_burial c.rate_or_look.result c.rate_or_look.ensures.made c.requires.nothing);
      sets = c.rate_or_look.ensures.sets;
    }

pub returns-in-None : goal.returns-in-None
returns-in-None g c =
    absurd (control-some c.args.header.now c.args.act c.requires.act c.requires.no_events (sym c.in-None.ensures))
