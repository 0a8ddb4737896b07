-- A line is made on the table that its act concerns.
use Rattle.std.proofs.Common.{◌≡◌, ℕ, List, Option, Some, None, sym, subst}
use Rattle.vms_answers.specs.declared.answers.Answer.{Answer}
use Rattle.vms_pcpu.specs.Common.{with_spent}
use Rattle.vms_world.specs.Common.{pcpu_spent, spent_on_pcpu, Cpu, event_call, pcpu_call}
use Rattle.vms_world.proofs.Common.{known-call, spent-by_call, call-known, events-no_burial}
use Rattle.vms_lane.specs.Common.{HasGrown, MakesOnCounters, MakesOnEvents}
use Rattle.vms_lane.proofs.GrownVolumes.{call-grown, call-room, grown-call, grown-same, room-call, room-same}
use Rattle.vms_lane.proofs.MadeOnCounters.{call-made as counters-made}
use Rattle.vms_lane.proofs.MadeOnEvents.{call-made as events-made}
use Rattle.vms_lane.proofs.MadeLines.{event-made, event-spent, page-made, page-nothing, page-spent, pcpu-made}
use Rattle.vms_lane.proofs.MadeLines.{pcpu-spent, ready-after}
use Rattle.vms_lane.proofs.cpu_lines.run_cpu_line.Goals as goal

pub call-requires : goal.call-requires
call-requires g c =
    let known = call-known c.args.header.now c.args.cpu c.args.act c.in-Some.call c.requires.act
    (sym c.in-Some.ensures) in
    record {
      table = c.requires.passes.of.events;
      call = known;
      room = call-room c.args.cpu c.args.act c.in-Some.call (sym c.in-Some.ensures) c.args.passes.now.event.volume
          c.requires.passes.volumes.event known c.requires.room.event;
    }

pub returns-in-Some : goal.returns-in-Some
returns-in-Some g c =
    let header = c.args.header.now in
    let tables = c.args.tables.now in
    let pressure = g.P.Rule.answers c.args.rules.now.pressure in
    let normal = g.N.Rule.answers c.args.rules.now.normal in
    let old = c.args.passes.now in
    let call = c.in-Some.call in
    let answer = c.event_told.result in
    let on : event_call (Cpu c.args.cpu) c.args.act ≡ Some call = sym c.in-Some.ensures in
    let pass = c.call.new.pass in
    let new = record old { event = pass } in
    let made : MakesOnEvents header tables.events.facts (Cpu c.args.cpu) c.args.act pass.pass old.event.pass answer =
    subst (λ (told : Option Answer). MakesOnEvents header tables.events.facts (Cpu c.args.cpu) c.args.act pass.pass
    old.event.pass told) (sym c.event_told.ensures)
    (events-made c.event_acts_tell_answers.ensures header tables.events.facts (Cpu c.args.cpu) c.args.act call
    c.call.result pass.pass old.event.pass on (events-no_burial c.args.cpu c.args.act call on) c.call.ensures.made) in
    let grown = call-grown c.args.cpu c.args.act call on pass.volume old.event.volume
    c.requires.passes.volumes.event (call-known header c.args.cpu c.args.act call c.requires.act on)
    c.call.ensures.volume in
    let makes = event-made header pressure normal tables c.requires.tables c.args.cpu c.args.act old answer
    c.are_live.ensures call on pass made in
    let spends = event-spent header pressure normal tables c.requires.tables c.args.cpu c.args.act old answer
    c.are_live.ensures call on pass grown in
    record {
      makes = makes;
      spends = spends;
      ready = ready-after header pressure normal tables c.requires.tables c.args.cpu c.args.act old answer
          c.requires.passes new makes spends c.requires.passes.nothing;
    }

pub call-requires-in-Some-pcpu_call : goal.call-requires-in-Some-pcpu_call
call-requires-in-Some-pcpu_call g c =
    let header = c.args.header.now in
    let facts = c.args.tables.now.counters.facts in
    let cpu = c.args.cpu in
    let act = c.args.act in
    let call = c.in-Some-pcpu_call.call in
    let volume = c.args.passes.now.pcpu.volume in
    let is : pcpu_call (Cpu cpu) act ≡ Some call = sym c.in-Some-pcpu_call.ensures in
    let known = known-call header facts c.requires.tables.declared cpu act c.requires.act call is in
    record {
      table = c.requires.passes.of.counters;
      known = known.known;
      within = known.within;
      owners = known.owners;
      room = room-call facts volume c.requires.passes.volumes.pcpu call known.known
          (room-same (λ j. spent_on_pcpu j act) (pcpu_spent call) (λ j. spent-by_call cpu call act is j) volume
          c.requires.room.pcpu);
    }

pub returns-in-Some-pcpu_call : goal.returns-in-Some-pcpu_call
returns-in-Some-pcpu_call g c =
    let header = c.args.header.now in
    let tables = c.args.tables.now in
    let facts = tables.counters.facts in
    let pressure = g.P.Rule.answers c.args.rules.now.pressure in
    let normal = g.N.Rule.answers c.args.rules.now.normal in
    let old = c.args.passes.now in
    let cpu = c.args.cpu in
    let act = c.args.act in
    let call = c.in-Some-pcpu_call.call in
    let answer = c.pcpu_told.result in
    let off : event_call (Cpu cpu) act ≡ None = sym c.in-None.ensures in
    let is : pcpu_call (Cpu cpu) act ≡ Some call = sym c.in-Some-pcpu_call.ensures in
    let known = (known-call header facts c.requires.tables.declared cpu act c.requires.act call is).known in
    let pass = c.call-in-Some-pcpu_call.new.pass in
    let new = record old { pcpu = pass } in
    let made : MakesOnCounters header facts (Cpu cpu) act pass.pass old.pcpu.pass answer =
    subst (λ (told : Option Answer). MakesOnCounters header facts (Cpu cpu) act pass.pass old.pcpu.pass told)
    (sym c.pcpu_told.ensures)
    (counters-made header facts cpu pass.pass old.pcpu.pass c.requires.passes.owner.counters call act is
    c.call-in-Some-pcpu_call.result c.call-in-Some-pcpu_call.ensures.made) in
    let grown = subst (λ (volume : List ℕ). HasGrown (λ j. spent_on_pcpu j act) volume old.pcpu.volume)
    (sym c.call-in-Some-pcpu_call.ensures.volume)
    (grown-same (λ j. spent_on_pcpu j act) (pcpu_spent call) (λ j. spent-by_call cpu call act is j)
    (with_spent call old.pcpu.volume) old.pcpu.volume
    (grown-call facts old.pcpu.volume c.requires.passes.volumes.pcpu call known)) in
    let makes = pcpu-made header pressure normal tables c.requires.tables cpu act old answer c.are_live.ensures off call
    is pass made in
    let spends = pcpu-spent header pressure normal tables c.requires.tables cpu act old answer c.are_live.ensures off
    call is pass grown in
    record {
      makes = makes;
      spends = spends;
      ready = ready-after header pressure normal tables c.requires.tables cpu act old answer c.requires.passes new makes
          spends c.requires.passes.nothing;
    }

pub run_page_act-requires : goal.run_page_act-requires
run_page_act-requires g c = record {
  header = c.requires.header;
  table = c.requires.passes.of.pages;
  facts = c.requires.tables.pages;
  owner = c.requires.passes.owner.pages;
  nothing = c.requires.passes.nothing;
  one_each = c.requires.passes.volumes.page;
  act = c.requires.act;
  no_events = sym c.in-None.ensures;
  no_call = sym c.in-None-pcpu_call.ensures;
  room = c.requires.room.page;
}

pub returns-in-None-pcpu_call : goal.returns-in-None-pcpu_call
returns-in-None-pcpu_call g c =
    let header = c.args.header.now in
    let tables = c.args.tables.now in
    let pressure = g.P.Rule.answers c.args.rules.now.pressure in
    let normal = g.N.Rule.answers c.args.rules.now.normal in
    let old = c.args.passes.now in
    let answer = c.run_page_act.result in
    let no_events : event_call (Cpu c.args.cpu) c.args.act ≡ None = sym c.in-None.ensures in
    let no_call : pcpu_call (Cpu c.args.cpu) c.args.act ≡ None = sym c.in-None-pcpu_call.ensures in
    let pass = c.run_page_act.new.pass in
    let new = record old { page = pass } in
    let makes = page-made header pressure normal tables c.requires.tables c.args.cpu c.args.act old answer
    c.are_live.ensures no_events no_call pass c.run_page_act.ensures.made in
    let spends = page-spent header pressure normal tables c.requires.tables c.args.cpu c.args.act old answer
    c.are_live.ensures no_events no_call pass c.run_page_act.ensures.grown in
    record {
      makes = makes;
      spends = spends;
      ready = ready-after header pressure normal tables c.requires.tables c.args.cpu c.args.act old answer
          c.requires.passes new makes spends
          (page-nothing header pressure normal tables c.requires.tables c.args.cpu c.args.act old answer
          c.are_live.ensures no_events no_call pass c.run_page_act.ensures.made);
    }
