-- A burial, and a call on the page counters alone.
use Rattle.std.proofs.Common.{◌≡◌, ◌+◌, map, Option, Some, None, sym, ap, subst, ◌∙◌, arith, ⊎_elim, inl, inr}
use Rattle.vms_calls.specs.declared.page_calls.PageCall.{PageCall}
use Rattle.vms_world.specs.Common.{line_of, Act, Lane, Control, owner_of, page_call}
use Rattle.vms_text.specs.declared.acts.Act.TheVariants.{Dead}
use Rattle.vms_world.proofs.PageActs.{buries-burial}
use Rattle.vms_answers.specs.declared.answers.Answer.{Answer}
use Rattle.vms_file_order.specs.Common.{MayFollow}
use Rattle.vms_plain_lines.specs.Common.{HaveRoomForPages}
use Rattle.vms_plain_lines.proofs.LineSteps.{spares-call}
use Rattle.vms_replay_phase.specs.Common.{MakesLine, MayMakeLine}
use Rattle.vms_replay_phase.proofs.MadeLines.{FitsPageCall-line, HasAllForCall-line, HaveRoomForPages-line}
use Rattle.vms_replay_phase.proofs.MadeLines.{MakesLine-set, SetAtMost-less, SetsEachAtMost-more, sets-answered}
use Rattle.vms_replay_phase.proofs.lines.make_page_call.Goals as goal

pub bury-requires : goal.bury-requires
bury-requires g c =
    let burial = buries-burial c.args.lane c.args.act c.in-Bury.cpu
    (c.requires.makes ∙ ap (λ (x : PageCall). Some x) c.in-Bury.is) in
    let may = subst (λ (l : Lane). MayMakeLine c.args.header.now l (Dead c.in-Bury.cpu) c.args.tables.now) burial.0
    (subst (λ (a : Act). MayMakeLine c.args.header.now c.args.lane a c.args.tables.now) burial.1 c.requires.may) in
    record {
      header = c.requires.header;
      numbers = may.room.pages;
      full = may.full;
      some_online = may.room.some_online;
      room = SetAtMost-less c.args.header.now.layout c.args.tables.now.pages may.sets;
      cpu = may.line.1.1;
      dead = may.may;
      was_dead = may.room.was_dead c.in-Bury.cpu.number may.may;
      was_online = may.room.was_online;
      opening = may.room.opening;
      few = may.room.few;
      events = may.room.events c.args.header.now.layout.cpus (omega arith);
      words = may.room.words;
      counters = λ j j_in. may.room.counters j (omega (arith, j_in, may.room.one_batch_each));
      one_batch_each = may.room.one_batch_each;
      few_counters = omega (arith, may.room.one_batch_each, c.requires.header.counters_most);
      locals = may.room.locals (c.in-Bury.cpu.number + 1) (omega (arith, may.line.1.1));
    }

pub returns-in-Bury : goal.returns-in-Bury
returns-in-Bury g c =
    let header = c.args.header.now in
    let pressure = g.P.Rule.answers c.args.rules.now.pressure in
    let normal = g.N.Rule.answers c.args.rules.now.normal in
    let now = c.args.tables.now in
    let burial = buries-burial c.args.lane c.args.act c.in-Bury.cpu
    (c.requires.makes ∙ ap (λ (x : PageCall). Some x) c.in-Bury.is) in
    subst (λ (l : Lane). MakesLine header pressure normal l c.args.act now c.bury.new.self None) (sym burial.0)
    (MakesLine-set header pressure normal Control now c.bury.new.self None (Dead c.in-Bury.cpu)
    (λ item lane act w lanes items hs stands among may. c.bury.ensures.goes_on item lane act w lanes items hs stands
    among tt)
    (SetsEachAtMost-more header.layout now.pages c.bury.new.self.pages c.bury.ensures.sets) c.args.act burial.1)

pub call_pages-requires : goal.call_pages-requires
call_pages-requires g c =
    let may = c.requires.may in
    let fits = FitsPageCall-line c.args.header.now c.requires.header c.args.lane c.args.act c.args.tables.now may
    c.args.call c.requires.makes in
    record {
      fits = fits;
      has = HasAllForCall-line c.args.header.now c.requires.header c.args.lane c.args.act c.args.tables.now may
          (owner_of c.args.lane) c.args.call fits;
    }

pub returns-in_default : goal.returns-in_default
returns-in_default g c =
    let header = c.args.header.now in
    let pressure = g.P.Rule.answers c.args.rules.now.pressure in
    let normal = g.N.Rule.answers c.args.rules.now.normal in
    let now = c.args.tables.now in
    let lane = c.args.lane in
    let act = c.args.act in
    let call = c.args.call in
    let next = c.call_pages.new.self in
    subst (λ (answer : Option Answer). MakesLine header pressure normal lane act now next answer)
    (sym c.page_told.ensures)
    (record {
      goes_on = λ item of is w lanes items hs stands among may.
          let on : page_call lane item.act ≡ Some call =
          subst (λ (a : Act). page_call lane a ≡ Some call) (sym is) c.requires.makes in
          let room : HaveRoomForPages lane call items =
          HaveRoomForPages-line lane act call c.requires.makes items
          (λ d same k. (subst (λ (l : Lane). MayFollow now.pages (map line_of items) l act) same may).1.counters k) in
          c.call_pages.ensures.goes_on c.requires.header item of on c.in_default.not-Bury w lanes items hs stands among
          room;
      sets = ⊎_elim (λ asks. inl (spares-call lane act call c.requires.makes asks)) (λ sets. inr sets)
          (sets-answered header call (owner_of lane) now.pages next.pages c.call_pages.result
          c.call_pages.ensures.answers);
    })
