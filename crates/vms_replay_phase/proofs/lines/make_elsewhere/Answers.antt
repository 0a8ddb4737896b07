-- A call on the event counters, or one on the percpu counters.
use Rattle.std.proofs.Common.{◌≡◌, map, Option, Some, sym, ap, subst, ◌∙◌, refl}
use Rattle.vms_world.specs.Common.{EventCall, line_of, Act, Lane, event_call}
use Rattle.vms_world.proofs.Common.{folds-burial}
use Rattle.vms_answers.specs.declared.answers.Answer.{Answer}
use Rattle.vms_answers.specs.Common.{event_told}
use Rattle.vms_file_order.specs.Common.{MayFollow}
use Rattle.vms_plain_lines.specs.Common.{HaveRoomForEvents}
use Rattle.vms_replay_phase.specs.Common.{MakesLine}
use Rattle.vms_replay_phase.proofs.MadeLines.{FitsCall-line, HaveRoomForEvents-line, MakesLine-spared}
use Rattle.vms_replay_phase.proofs.MadeLines.{no_pages-no_burial, no_pages-spares}
use Rattle.vms_replay_phase.proofs.lines.make_elsewhere.Goals as goal

pub call_events-requires : goal.call_events-requires
call_events-requires g c =
    let header = c.args.header.now in
    let lane = c.args.lane in
    let act = c.args.act in
    let is : event_call lane act ≡ Some c.in-Some.call = sym c.in-Some.ensures in
    record {
      fits = FitsCall-line header lane act c.args.tables.now c.requires.may c.in-Some.call is
          (λ d same. no_pages-no_burial header lane act c.requires.may.line.1 c.requires.no_pages d
          (folds-burial lane act d (is ∙ ap (λ (x : EventCall). Some x) same)).1);
    }

pub returns-in-Some : goal.returns-in-Some
returns-in-Some g c =
    let header = c.args.header.now in
    let pressure = g.P.Rule.answers c.args.rules.now.pressure in
    let normal = g.N.Rule.answers c.args.rules.now.normal in
    let now = c.args.tables.now in
    let lane = c.args.lane in
    let act = c.args.act in
    let call = c.in-Some.call in
    let made : event_call lane act ≡ Some call = sym c.in-Some.ensures in
    let next = c.call_events.new.self in
    let no_burial = no_pages-no_burial header lane act c.requires.may.line.1 c.requires.no_pages in
    subst (λ (answer : Option Answer). MakesLine header pressure normal lane act now next answer)
    (sym c.event_told.ensures)
    (MakesLine-spared header pressure normal lane now next (event_told c.call_events.result) act
    (λ item of is w lanes items hs stands among may.
    let on : event_call lane item.act ≡ Some call =
    subst (λ (a : Act). event_call lane a ≡ Some call) (sym is) made in
    let room : HaveRoomForEvents lane call items =
    HaveRoomForEvents-line lane act call made items
    (λ d same e. (subst (λ (l : Lane). MayFollow now.pages (map line_of items) l act) same may).1.events e) in
    c.call_events.ensures.goes_on header item of on (λ d same. no_burial d (sym is ∙ same)) w lanes items hs stands
    among room)
    (no_pages-spares header lane act c.requires.may.line.1 c.requires.no_pages) act refl)
