-- A call on the percpu counters.
use Rattle.std.proofs.Common.{◌≡◌, Some, sym}
use Rattle.vms_world.specs.Common.{Cpu, pcpu_call}
use Rattle.vms_replay_phase.proofs.MadeCalls.{MakesLine-call, room-for}
use Rattle.vms_replay_phase.proofs.MadeLines.{makes-some}
use Rattle.vms_replay_phase.proofs.lines.make_pcpu_call.Goals as goal

pub make_pcpu_call-requires : goal.make_pcpu_call-requires
make_pcpu_call-requires g c =
    let is : pcpu_call (Cpu c.args.cpu) c.args.act ≡ Some c.in-Some.call = sym c.in-Some.ensures in
    let may = room-for c.args.header.now c.args.cpu c.args.act c.in-Some.call is c.args.tables.now c.requires.may in
    record { room = may.room; locals = may.locals }

pub returns-in-Some : goal.returns-in-Some
returns-in-Some g c =
    let is : pcpu_call (Cpu c.args.cpu) c.args.act ≡ Some c.in-Some.call = sym c.in-Some.ensures in
    MakesLine-call c.args.header.now c.args.cpu c.args.act c.in-Some.call is c.args.tables.now
    (g.P.Rule.answers c.args.rules.now.pressure) (g.N.Rule.answers c.args.rules.now.normal) c.make_pcpu_call.new.self
    c.make_pcpu_call.result (c.make_pcpu_call.ensures.goes_on c.args.header.now)
    c.pcpu_told.result c.pcpu_told.ensures

pub returns-in-None : goal.returns-in-None
returns-in-None g c =
    absurd (makes-some c.args.header.now (Cpu c.args.cpu) c.args.act c.requires.may.line.1 c.requires.no_pages
    c.requires.no_events (sym c.in-None.ensures))
