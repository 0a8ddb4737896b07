-- The call is that of the line, from the tables that stand.
use Rattle.std.proofs.Common.{sym, subst, ◌∙◌}
use Rattle.vms_plain_pcpu.specs.Common.{HasRoomForCall}
use Rattle.vms_answers.specs.Common.{pcpu_told}
use Rattle.vms_plain_lines.specs.Common.{PlainStates}
use Rattle.vms_plain_lines.proofs.CounterLines.{GoesOnIf-call, LeaveVolume}
use Rattle.vms_plain_lines.proofs.PlainCalls.{GoesOnIf-inside}
use Rattle.vms_plain_lines.proofs.tables.PlainTables.make_pcpu_call.Goals as goal

pub returns-clause-goes_on : goal.returns-clause-goes_on
returns-clause-goes_on g c header item lane is =
    let inside : PlainStates = record {
      pages = c.self.inside.pages;
      events = c.self.inside.events;
      counters = c.self.inside.counters;
      peaks = c.self.inside.peaks;
      opening = c.self.inside.opening;
    } in
    let now = c.args.self.now in
    let pressure = g.P.Rule.answers c.args.rules.now.pressure in
    let normal = g.N.Rule.answers c.args.rules.now.normal in
    let cpu = c.args.cpu in
    let call = c.args.call in
    let answer = c.call.result in
    let next : PlainStates = record inside { counters = c.call.new.counters } in
    let room = subst (λ (s : PlainStates). HasRoomForCall s.counters call) (sym c.self.view_is) c.requires.room in
    GoesOnIf-inside header pressure normal item (LeaveVolume pressure normal header cpu inside call room) inside now
    c.self.view_is (pcpu_told answer) next
    (GoesOnIf-call pressure normal header cpu inside call room item lane is answer c.call.new.counters
    (λ facts cpus batch. c.call.ensures.made facts (cpus ∙ sym c.as_slice-states.ensures) batch))
