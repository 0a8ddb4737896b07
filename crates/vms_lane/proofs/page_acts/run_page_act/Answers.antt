-- An act by its call.
use Rattle.std.proofs.Common.{◌≡◌, ◌≢◌, Option, Some, sym, subst}
use Rattle.vms_calls.specs.PageCalls.{page_spent}
use Rattle.vms_calls.specs.declared.page_calls.PageCall.TheVariants.{Bury}
use Rattle.vms_world.specs.Common.{CpuId, spent_on_counter, Cpu, page_call}
use Rattle.vms_answers.specs.declared.answers.Answer.{Answer}
use Rattle.vms_lane.specs.Common.{IsCallOfCpu, MakesOnPages}
use Rattle.vms_lane.proofs.GrownVolumes.{grown-same, room-same}
use Rattle.vms_lane.proofs.MadeOnPages.{act-made, cpu-calls, cpu-some, spent-page}
use Rattle.vms_lane.proofs.page_acts.run_page_act.Goals as goal

pub call_own-requires : goal.call_own-requires
call_own-requires g c =
    let call = c.in-Some.call in
    let act = c.args.act in
    let on : page_call (Cpu c.args.cpu) act ≡ Some call = sym c.in-Some.ensures in
    record {
      table = c.requires.table;
      facts = c.requires.facts;
      nothing = c.requires.nothing;
      one_each = c.requires.one_each;
      call = cpu-calls c.args.header.now c.requires.header c.args.cpu act c.requires.act call on;
      room = room-same (λ k. spent_on_counter k act) (page_spent call) (spent-page c.args.cpu act call on)
          c.args.pass.now.volume c.requires.room;
    }

pub returns-in-Some : goal.returns-in-Some
returns-in-Some g c =
    let pressure = g.P.Rule.answers c.args.rules.now.pressure in
    let normal = g.N.Rule.answers c.args.rules.now.normal in
    let header = c.args.header.now in
    let call = c.in-Some.call in
    let act = c.args.act in
    let facts = c.args.table.now.facts in
    let new = c.call_own.new.pass in
    let old = c.args.pass.now in
    let on : page_call (Cpu c.args.cpu) act ≡ Some call = sym c.in-Some.ensures in
    let known = cpu-calls header c.requires.header c.args.cpu act c.requires.act call on in
    let no_burial : (d : CpuId) → call ≢ Bury d = λ d same. subst (IsCallOfCpu header) same known in
    record {
      made = subst (λ (answer : Option Answer). MakesOnPages header pressure normal facts.base
          (Cpu c.args.cpu) act new.pass old.pass answer) (sym c.page_told.ensures)
          (act-made header pressure normal facts c.requires.facts new.pass old.pass c.requires.header (Cpu c.args.cpu)
          c.requires.owner act call on no_burial c.call_own.result c.call_own.ensures.made
          c.requires.nothing);
      grown = grown-same (λ k. spent_on_counter k act) (page_spent call) (spent-page c.args.cpu act call on) new.volume
          old.volume c.call_own.ensures.grown;
    }

pub returns-in-None : goal.returns-in-None
returns-in-None g c =
    absurd (cpu-some c.args.header.now c.args.cpu c.args.act c.requires.act c.requires.no_events c.requires.no_call
    (sym c.in-None.ensures))
