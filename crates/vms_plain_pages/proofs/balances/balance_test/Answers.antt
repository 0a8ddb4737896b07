-- A zone that passes ends the test, and one that fails is passed over.
use Rattle.std.proofs.Common.{◌≡◌, ℕ, ◌-◌, ◌<◌, Bool, List, length, get_or, Some, None, sym, ap, subst, ◌∙◌, arith}
use Rattle.std.specs.List.{find}
use Rattle.vms_calls.specs.Common.{High, Dma, ZoneName, node_number, IsBalanceTest, zones_up_to}
use Rattle.vms_calls.specs.declared.answers.OrderVerdict.{OrderVerdict}
use Rattle.vms_calls.specs.declared.answers.Balance.{Balance}
use Rattle.vms_calls.specs.declared.answers.Balance.TheVariants.{Yes}
use Rattle.vms_plain_pages.specs.Common.{CallLeadsAlone, balance_of, zone_passes}
use Rattle.vms_plain_pages.proofs.BalanceSteps.{balance-made}
use Rattle.vms_calls.proofs.Common.{find-fails, find-first, find-other, is_one-told, zones_below}
use Rattle.vms_plain_pages.proofs.balances.balance_test.Goals as goal
use Rattle.vms_plain_pages.proofs.balances.balance_test.Goals.{then-is_up_to+else-verdict, else-is_up_to}

pub loop-place-preserved : goal.loop-place-preserved
loop-place-preserved c =
    let header = c.args.header.now in
    let shape = header.layout in
    let most = c.args.most in
    let node = get_or c.nodes.result.now (c.args.node.number - length c.zones-zones.result.now) 0 in
    let place = c.loop-place.place in
    let test : ℕ → Bool = λ g. zone_passes header g High most c.args.order c.args.pages.now in
    let within : place < length shape.zones =
    omega (arith, c.loop-place-test.true, ap length c.zones-zones.ensures.value) in
    let none : ZoneName = record { node = 0; kind = Dma } in
    let told = is_one-told shape most node place c.zones-zones.result.now none c.zones-zones.ensures.value within in
    elim c.if-is_up_to.branch [
      | then-is_up_to+else-verdict w ↦
          find-fails shape most node test place c.loop-place.invariant
          (sym told ∙ sym c.is_up_to.ensures ∙ w.if-is_up_to.true)
          (sym (ap (λ (verdict : OrderVerdict). verdict.yes) w.order_test-verdict.ensures.answer)
          ∙ w.if-verdict.false)
      | else-is_up_to w ↦
          find-other shape most node test place c.loop-place.invariant
          (sym told ∙ sym c.is_up_to.ensures ∙ w.if-is_up_to.false)
    ]

pub returns-then-verdict-clause-answer : goal.returns-then-verdict-clause-answer
returns-then-verdict-clause-answer c =
    let header = c.args.header.now in
    let shape = header.layout in
    let most = c.args.most in
    let s = c.args.pages.now in
    let node = get_or c.nodes.result.now (c.args.node.number - length c.zones-zones.result.now) 0 in
    let place = c.loop-place.place in
    let test : ℕ → Bool = λ g. zone_passes header g High most c.args.order s in
    let within : place < length shape.zones =
    omega (arith, c.loop-place-test.true, ap length c.zones-zones.ensures.value) in
    let none : ZoneName = record { node = 0; kind = Dma } in
    let told = is_one-told shape most node place c.zones-zones.result.now none c.zones-zones.ensures.value within in
    let number : node ≡ node_number shape c.args.node =
    ap (λ (ns : List ℕ). get_or ns (c.args.node.number - length c.zones-zones.result.now) 0) c.nodes.ensures.value
    ∙ ap (λ (zs : List ZoneName). get_or shape.nodes (c.args.node.number - length zs) 0) c.zones-zones.ensures.value in
    let found : find test (zones_up_to shape most (node_number shape c.args.node)) ≡ Some place =
    subst (λ (m : ℕ). find test (zones_up_to shape most m) ≡ Some place) number
    (find-first shape most node test place (length shape.zones) within c.loop-place.invariant
    (sym told ∙ sym c.is_up_to.ensures ∙ c.if-is_up_to.true)
    (sym (ap (λ (verdict : OrderVerdict). verdict.yes) c.order_test-verdict.ensures.answer) ∙ c.if-verdict.true))
    in
    ap (λ (verdict : OrderVerdict). Yes (record { number = place }) verdict) c.order_test-verdict.ensures.answer
    ∙ sym (ap (balance_of header most c.args.order s) found)

pub returns-then-verdict-clause-made : goal.returns-then-verdict-clause-made
returns-then-verdict-clause-made c = λ who.
    subst (λ (answer : Balance). CallLeadsAlone who
    (λ steps. IsBalanceTest c.args.header.now c.args.node c.args.order c.args.most steps answer)
    c.args.pages.now c.args.pages.now)
    (sym (returns-then-verdict-clause-answer c))
    (balance-made c.args.header.now c.requires.header c.args.pages.now c.requires.room who c.args.most c.args.order
    c.args.node)

pub returns-clause-answer : goal.returns-clause-answer
returns-clause-answer c =
    let header = c.args.header.now in
    let shape = header.layout in
    let most = c.args.most in
    let s = c.args.pages.now in
    let node = get_or c.nodes.result.now (c.args.node.number - length c.zones-zones.result.now) 0 in
    let test : ℕ → Bool = λ g. zone_passes header g High most c.args.order s in
    let all : c.loop-place.place ≡ length shape.zones = omega (
      arith,
      c.loop-place-test.false,
      c.loop-place.auto.«place-end»,
      ap length c.zones-zones.ensures.value,
    ) in
    let number : node ≡ node_number shape c.args.node =
    ap (λ (ns : List ℕ). get_or ns (c.args.node.number - length c.zones-zones.result.now) 0) c.nodes.ensures.value
    ∙ ap (λ (zs : List ZoneName). get_or shape.nodes (c.args.node.number - length zs) 0) c.zones-zones.ensures.value in
    let found : find test (zones_up_to shape most (node_number shape c.args.node)) ≡ None =
    subst (λ (m : ℕ). find test (zones_up_to shape most m) ≡ None) number
    (subst (λ (n : ℕ). find test (zones_below shape most node n) ≡ None) all c.loop-place.invariant) in
    sym (ap (balance_of header most c.args.order s) found)

pub returns-clause-made : goal.returns-clause-made
returns-clause-made c = λ who.
    subst (λ (answer : Balance). CallLeadsAlone who
    (λ steps. IsBalanceTest c.args.header.now c.args.node c.args.order c.args.most steps answer)
    c.args.pages.now c.args.pages.now)
    (sym (returns-clause-answer c))
    (balance-made c.args.header.now c.requires.header c.args.pages.now c.requires.room who c.args.most c.args.order
    c.args.node)
