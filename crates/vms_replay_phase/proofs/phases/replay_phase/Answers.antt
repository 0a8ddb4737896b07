-- Line by line the phase is replayed, and at the end it closes.
use Rattle.std.proofs.Common.{◌≡◌, ◌++◌, ◌<◌, ◌≤◌, List, [], get_or, length, take, sym, subst}
use Rattle.std.proofs.lemmas.List.{take_all}
use Rattle.vms_answers.specs.Common.{with_answer}
use Rattle.vms_file_order.proofs.Common.{owners-online, StandOnce-lanes}
use Rattle.vms_world.specs.Common.{Item, lanes_of}
use Rattle.vms_replay_phase.specs.Common.{MayMakeLine, AnswersLine, HasReplayed}
use Rattle.vms_replay_phase.proofs.OpenReplays.{AreVolumesOf-at, HasCome-more, HasReplayed-opening, IsReplayed-closing}
use Rattle.vms_replay_phase.proofs.OpenReplays.{MayMakeLine-at}
use Rattle.vms_replay_phase.proofs.phases.replay_phase.Goals as goal

pub open-requires : goal.open-requires
open-requires g c = c.requires.start.1.world

pub loop-item-init : goal.loop-item-init
loop-item-init g c =
    let header = c.args.header.now in
    let start = c.requires.start in
    let replayed = HasReplayed-opening (g.P.Rule.answers c.args.rules.now.pressure)
    (g.N.Rule.answers c.args.rules.now.normal) header
    c.args.world _ start.1.world (StandOnce-lanes header.layout c.args.script.now)
    (owners-online header start.0 c.args.world start.1 c.args.script.now start.2) _ c.in_ok-replay.ensures in
    ([], replayed, c.requires.taker)

pub make_next-requires-clause-may : goal.make_next-requires-clause-may
make_next-requires-clause-may g c =
    let start = c.requires.start in
    let same = c.as_slice-item-items.ensures.items in
    let item = c.item-item.result in
    subst (λ (line : Item). MayMakeLine c.args.header.now line.lane line.act c.loop-item.replay.tables)
    (sym c.item-item.is)
    (subst (λ (items : List Item). MayMakeLine c.args.header.now (get_or items c.loop-item.item-index item).lane
    (get_or items c.loop-item.item-index item).act c.loop-item.replay.tables) (sym same)
    (MayMakeLine-at (g.P.Rule.answers c.args.rules.now.pressure)
    (g.N.Rule.answers c.args.rules.now.normal) c.args.header.now c.args.world start.0 start.1 c.args.script.now
    start.2
    c.as_slice-item-items.ensures.kept.few
    (λ lanes. c.open_phases_spend_their_lines.ensures c.args.header.now c.args.world lanes)
    (λ lanes items hs now. c.open_phases_leave_room.ensures c.args.header.now c.args.world lanes items hs now
    start.1.world) c.loop-item.item-index c.item-item.result
    (subst (λ (items : List Item). c.loop-item.item-index < length items) same c.loop-item-test.true)
    c.loop-item.invariant.0 c.loop-item.replay c.loop-item.invariant.1))

pub make_next-requires-clause-volumes : goal.make_next-requires-clause-volumes
make_next-requires-clause-volumes g c =
    let start = c.requires.start in
    let same = c.as_slice-item-items.ensures.items in
    AreVolumesOf-at (g.P.Rule.answers c.args.rules.now.pressure)
    (g.N.Rule.answers c.args.rules.now.normal) c.args.header.now c.args.world start.0 start.1 c.args.script.now
    start.2
    c.as_slice-item-items.ensures.kept.few
    (λ lanes. c.open_phases_spend_their_lines.ensures c.args.header.now c.args.world lanes)
    (λ lanes items hs now. c.open_phases_leave_room.ensures c.args.header.now c.args.world lanes items hs now
    start.1.world) c.loop-item.item-index c.item-item.result
    (subst (λ (items : List Item). c.loop-item.item-index < length items) same c.loop-item-test.true)
    c.loop-item.invariant.0 c.loop-item.replay c.loop-item.invariant.1

pub loop-item-preserved : goal.loop-item-preserved
loop-item-preserved g c =
    let start = c.requires.start in
    let same = c.as_slice-item-items.ensures.items in
    let told = c.loop-item.invariant.0 in
    let line = subst (λ (items : List Item). AnswersLine c.args.header.now
    (g.P.Rule.answers c.args.rules.now.pressure) (g.N.Rule.answers c.args.rules.now.normal)
    (get_or items c.loop-item.item-index c.item-item.result) c.loop-item.replay c.make_next.new.replay
    (g.A.AnswerTaker.Takes c.args.header.now) c.loop-item.taker c.make_next.new.taker) same
    (subst (λ (line : Item). AnswersLine c.args.header.now
    (g.P.Rule.answers c.args.rules.now.pressure) (g.N.Rule.answers c.args.rules.now.normal)
    line c.loop-item.replay c.make_next.new.replay (g.A.AnswerTaker.Takes c.args.header.now) c.loop-item.taker
    c.make_next.new.taker) c.item-item.is c.in_ok-make_next.ensures) in
    let more = HasCome-more (g.P.Rule.answers c.args.rules.now.pressure)
    (g.N.Rule.answers c.args.rules.now.normal) c.args.header.now c.args.world start.0 start.1 c.args.script.now
    start.2
    c.as_slice-item-items.ensures.kept.few
    (λ lanes. c.open_phases_spend_their_lines.ensures c.args.header.now c.args.world lanes)
    (λ lanes items hs now. c.open_phases_leave_room.ensures c.args.header.now c.args.world lanes items hs now
    start.1.world) c.loop-item.item-index c.item-item.result
    (subst (λ (items : List Item). c.loop-item.item-index < length items) same c.loop-item-test.true)
    told c.loop-item.replay c.loop-item.invariant.1 line.answer c.make_next.new.replay line.line in (
      told ++ with_answer (get_or c.args.script.now c.loop-item.item-index c.item-item.result).number line.answer [],
      more,
      line.takes c.args.taker.now told c.loop-item.invariant.2,
    )

pub returns : goal.returns
returns g c =
    let header = c.args.header.now in
    let pressure = g.P.Rule.answers c.args.rules.now.pressure in
    let normal = g.N.Rule.answers c.args.rules.now.normal in
    let lanes = lanes_of header.layout c.args.script.now in
    let told = c.loop-item.invariant.0 in
    let all : take c.loop-item.item-index c.args.script.now ≡ c.args.script.now =
    take_all c.loop-item.item-index c.args.script.now
    (subst (λ (items : List Item). length items ≤ c.loop-item.item-index) c.as_slice-item-items.ensures.items
    c.loop-item-test.false) in
    let come = subst (λ (items : List Item). HasReplayed header pressure normal c.args.world lanes items told
    c.loop-item.replay) all c.loop-item.invariant.1 in
    let closed = c.close.ensures in
    IsReplayed-closing pressure normal header c.args.world c.args.script.now told c.loop-item.replay come
    c.close.result closed.pages closed.events closed.counters closed.volumes
    (λ told. g.A.AnswerTaker.Takes header c.args.taker.now told c.loop-item.taker) c.loop-item.invariant.2
