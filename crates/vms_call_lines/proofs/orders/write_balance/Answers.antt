-- A zone that passes ends the test, and one that fails is passed over.
use Rattle.std.proofs.Common.{◌≡◌, ℕ, ◌-◌, ◌<◌, List, length, get_or, sym, ap, ◌∙◌, arith, None}
use Rattle.vms_calls.specs.Common.{Dma, ZoneName, node_number}
use Rattle.vms_calls.proofs.Common.{is_one-told}
use Rattle.vms_text.proofs.Common.{Begins-after, OnErr-true}
use Rattle.vms_call_lines.proofs.OrderWays.{writes-balance, zone-fails, zone-other, zone-passes, zones-begun}
use Rattle.vms_call_lines.proofs.OrderWays.{zones-done}
use Rattle.vms_call_lines.proofs.orders.write_balance.Goals as goal
use Rattle.vms_call_lines.proofs.orders.write_balance.Goals.{then-is_up_to+in_ok-verdict+else-verdict, else-is_up_to}

pub loop-place-init : goal.loop-place-init
loop-place-init c = λ who.
    zones-begun who c.args.pages.now c.args.caller c.args.header.now c.args.most c.args.order _
    (length c.zones-zones.result.now) c.args.out.now.items

pub loop-place-preserved : goal.loop-place-preserved
loop-place-preserved c = λ who.
    let header = c.args.header.now in
    let node = get_or c.nodes.result.now (c.args.node.number - length c.zones-zones.result.now) 0 in
    let place = c.loop-place.place in
    let all = length c.zones-zones.result.now in
    let within : place < length header.layout.zones =
    omega (arith, c.loop-place-test.true, ap length c.zones-zones.ensures.value) in
    let none : ZoneName = record { node = 0; kind = Dma } in
    let told = is_one-told header.layout c.args.most node place c.zones-zones.result.now none c.zones-zones.ensures.value
    within in
    elim c.if-is_up_to.branch [
      | then-is_up_to+in_ok-verdict+else-verdict w ↦
          rw w.out-is
          (zone-fails who c.args.pages.now c.args.caller header c.args.most c.args.order node place all
          c.args.out.now.items c.loop-place.out.items w.write_order.new.out.items c.loop-place-test.true
          (c.loop-place.invariant who) (sym told ∙ sym c.is_up_to.ensures ∙ w.if-is_up_to.true) w.in_ok-verdict.verdict
          (w.in_ok-verdict.ensures.ok who) w.if-verdict.false)
      | else-is_up_to w ↦
          rw w.out-is
          (zone-other who c.args.pages.now c.args.caller header c.args.most c.args.order node place all
          c.args.out.now.items c.loop-place.out.items c.loop-place.out.items c.loop-place-test.true
          (c.loop-place.invariant who) (sym told ∙ sym c.is_up_to.ensures ∙ w.if-is_up_to.false))
    ]

pub returns-then-verdict-clause-ok : goal.returns-then-verdict-clause-ok
returns-then-verdict-clause-ok c = λ who.
    let header = c.args.header.now in
    let node = get_or c.nodes.result.now (c.args.node.number - length c.zones-zones.result.now) 0 in
    let place = c.loop-place.place in
    let all = length c.zones-zones.result.now in
    let within : place < length header.layout.zones =
    omega (arith, c.loop-place-test.true, ap length c.zones-zones.ensures.value) in
    let none : ZoneName = record { node = 0; kind = Dma } in
    let told = is_one-told header.layout c.args.most node place c.zones-zones.result.now none c.zones-zones.ensures.value
    within in
    let number : node ≡ node_number header.layout c.args.node =
    ap (λ (ns : List ℕ). get_or ns (c.args.node.number - length c.zones-zones.result.now) 0) c.nodes.ensures.value
    ∙ ap (λ (zs : List ZoneName). get_or header.layout.nodes (c.args.node.number - length zs) 0)
    c.zones-zones.ensures.value in
    writes-balance who c.args.pages.now c.args.caller header c.args.most c.args.order node c.args.node all _
    c.args.out.now.items c.write_order.new.out.items number (ap length c.zones-zones.ensures.value)
    (zone-passes who c.args.pages.now c.args.caller header c.args.most c.args.order node place all
    c.args.out.now.items c.loop-place.out.items c.write_order.new.out.items c.loop-place-test.true
    (c.loop-place.invariant who) (sym told ∙ sym c.is_up_to.ensures ∙ c.if-is_up_to.true) c.in_ok-verdict.verdict
    (c.in_ok-verdict.ensures.ok who) c.if-verdict.true)

pub returns-clause-ok : goal.returns-clause-ok
returns-clause-ok c = λ who.
    let header = c.args.header.now in
    let node = get_or c.nodes.result.now (c.args.node.number - length c.zones-zones.result.now) 0 in
    let all = length c.zones-zones.result.now in
    let number : node ≡ node_number header.layout c.args.node =
    ap (λ (ns : List ℕ). get_or ns (c.args.node.number - length c.zones-zones.result.now) 0) c.nodes.ensures.value
    ∙ ap (λ (zs : List ZoneName). get_or header.layout.nodes (c.args.node.number - length zs) 0)
    c.zones-zones.ensures.value in
    writes-balance who c.args.pages.now c.args.caller header c.args.most c.args.order node c.args.node all _
    c.args.out.now.items c.loop-place.out.items number (ap length c.zones-zones.ensures.value)
    (zones-done who c.args.pages.now c.args.caller header c.args.most c.args.order node c.loop-place.place all
    c.args.out.now.items c.loop-place.out.items (omega (arith, c.loop-place-test.false)) (c.loop-place.invariant who))

pub returns-in_err-verdict-clause-err : goal.returns-in_err-verdict-clause-err
returns-in_err-verdict-clause-err c =
    OnErr-true c.from_residual.result _
    (Begins-after _ _ _ _ (c.loop-place.invariant None).lines c.in_err-verdict.ensures.err)
