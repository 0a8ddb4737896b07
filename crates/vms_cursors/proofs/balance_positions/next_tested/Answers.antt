-- A zone that is not tested is passed.
use Rattle.std.proofs.Common.{◌≡◌, ℕ, ◌-◌, ◌<◌, ◌∙◌, List, false, length, get_or, sym, ap, arith}
use Rattle.vms_calls.specs.Common.{Dma, ZoneName, node_number}
use Rattle.vms_calls.proofs.Common.{is_one, is_one-told}
use Rattle.vms_cursors.specs.Balances.{tested_from, tests_zone}
use Rattle.vms_cursors.proofs.KeptNumbers.{kept-skipped}
use Rattle.vms_cursors.proofs.balance_positions.next_tested.Goals as goal

pub loop-zone-preserved : goal.loop-zone-preserved
loop-zone-preserved c =
    let shape = c.args.header.now.layout in
    let turn = c.args.turn in
    let zone = c.loop-zone.zone in
    let zones = c.zones-zones.result.now in
    let node = get_or c.nodes.result.now (turn.node.number - length zones) 0 in
    let less : zone < length shape.zones =
    omega (arith, c.loop-zone-test.true, ap length c.zones-zones.ensures.value) in
    let number : node ≡ node_number shape turn.node =
    ap (λ (ns : List ℕ). get_or ns (turn.node.number - length zones) 0) c.nodes.ensures.value
    ∙ ap (λ (zs : List ZoneName). get_or shape.nodes (turn.node.number - length zs) 0) c.zones-zones.ensures.value in
    let none : ZoneName = record { node = 0; kind = Dma } in
    let told = is_one-told shape turn.most node zone zones none c.zones-zones.ensures.value less in
    let other : tests_zone shape turn zone ≡ false = sym (ap (λ (n : ℕ). is_one shape turn.most n zone) number)
    ∙ sym told ∙ sym c.is_up_to.ensures ∙ c.if-is_up_to.false in
    c.loop-zone.invariant ∙ kept-skipped (tests_zone shape turn) (length shape.zones) zone less other

pub returns-then-is_up_to-clause-some : goal.returns-then-is_up_to-clause-some
returns-then-is_up_to-clause-some c = λ within.
    let shape = c.args.header.now.layout in
    let turn = c.args.turn in
    let zone = c.loop-zone.zone in
    let zones = c.zones-zones.result.now in
    let node = get_or c.nodes.result.now (turn.node.number - length zones) 0 in
    let number : node ≡ node_number shape turn.node =
    ap (λ (ns : List ℕ). get_or ns (turn.node.number - length zones) 0) c.nodes.ensures.value
    ∙ ap (λ (zs : List ZoneName). get_or shape.nodes (turn.node.number - length zs) 0) c.zones-zones.ensures.value in
    let none : ZoneName = record { node = 0; kind = Dma } in
    let told = is_one-told shape turn.most node zone zones none c.zones-zones.ensures.value within in
    sym (ap (λ (n : ℕ). is_one shape turn.most n zone) number) ∙ sym told ∙ sym c.is_up_to.ensures
    ∙ c.if-is_up_to.true

pub returns-clause-same : goal.returns-clause-same
returns-clause-same c =
    let shape = c.args.header.now.layout in
    let all : c.loop-zone.zone ≡ length shape.zones = omega (
      arith,
      c.loop-zone-test.false,
      c.requires.from,
      ap length c.zones-zones.ensures.value,
      c.loop-zone.auto.«zone-end»,
    ) in
    c.loop-zone.invariant ∙ ap (tested_from shape c.args.turn) (all ∙ sym (ap length c.zones-zones.ensures.value))
