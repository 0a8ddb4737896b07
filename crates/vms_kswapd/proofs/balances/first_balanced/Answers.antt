-- A zone that passes ends the test, and one that fails is passed over.
use Rattle.std.proofs.Common.{◌≡◌, ℕ, ◌+◌, ◌-◌, ◌<◌, true, List, [], ◌++◌, length, get_or, refl, sym, ap, ◌∙◌, subst}
use Rattle.std.proofs.Common.{arith}
use Rattle.std.specs.Prelude.{Contains}
use Rattle.vms_calls.specs.Common.{High, Dma, ZoneName, node_number, Balances, zones_up_to, pages}
use Rattle.vms_calls.specs.declared.answers.Balance.TheVariants.{Yes}
use Rattle.vms_kswapd.proofs.OrderTests.{order-found}
use Rattle.vms_kswapd.proofs.ZoneTests.{FailedSoFar, failed-next, failed-none, failed-other, passed-first, passed-made}
use Rattle.vms_kswapd.proofs.ZoneTests.{passed-one_of}
use Rattle.vms_calls.proofs.Common.{is_one, is_one-told}
use Rattle.vms_seats.proofs.Common.{calls-live, calls-none}
use Rattle.vms_kswapd.proofs.balances.first_balanced.Goals as goal
use Rattle.vms_kswapd.proofs.balances.first_balanced.Goals.{then-is_up_to+else-verdict, else-is_up_to}

pub loop-place-init : goal.loop-place-init
loop-place-init g c = (
  failed-none c.args.header.now c.args.most c.args.order
      (get_or c.nodes.result.now (c.args.node.number - length c.zones-zones.result.now) 0)
      (g.P.Caller.pass c.args.pass.now) c.is_live.ensures,
  refl,
)

-- the number of the node, and that the zone is one of its zones
node_is : (g : _) (c : goal.Then-verdict g)
    → get_or c.nodes.result.now (c.args.node.number - length c.zones-zones.result.now) 0
    ≡ node_number c.args.header.now.layout c.args.node
node_is g c =
    let shape = c.args.header.now.layout in
    ap (λ (ns : List ℕ). get_or ns (c.args.node.number - length c.zones-zones.result.now) 0) c.nodes.ensures.value
    ∙ ap (λ (zs : List ZoneName). get_or shape.nodes (c.args.node.number - length zs) 0) c.zones-zones.ensures.value

place_in : (g : _) (c : goal.Then-verdict g) → c.loop-place.place < length c.args.header.now.layout.zones
place_in g c = omega (arith, c.loop-place-test.true, ap length c.zones-zones.ensures.value)

place_one : (g : _) (c : goal.Then-verdict g) → is_one c.args.header.now.layout c.args.most
    (get_or c.nodes.result.now (c.args.node.number - length c.zones-zones.result.now) 0) c.loop-place.place ≡ true
place_one g c =
    let none : ZoneName = record { node = 0; kind = Dma } in
    sym (is_one-told c.args.header.now.layout c.args.most
    (get_or c.nodes.result.now (c.args.node.number - length c.zones-zones.result.now) 0) c.loop-place.place
    c.zones-zones.result.now none c.zones-zones.ensures.value (place_in g c))
    ∙ sym c.is_up_to.ensures ∙ c.if-is_up_to.true

pub returns-then-verdict-clause-made : goal.returns-then-verdict-clause-made
returns-then-verdict-clause-made g c =
    let header = c.args.header.now in
    let shape = header.layout in
    let node = get_or c.nodes.result.now (c.args.node.number - length c.zones-zones.result.now) 0 in
    let place = c.loop-place.place in
    let new = g.P.Caller.pass c.zone_ok-verdict.new.pass in
    let now = g.P.Caller.pass c.loop-place.pass in
    let old = g.P.Caller.pass c.args.pass.now in
    let verdict = c.zone_ok-verdict.result in
    let so_far = c.loop-place.invariant.0 in
    let tested = c.zone_ok-verdict.ensures.made in
    let one = place_one g c in (
      so_far.before ++ tested.0,
      subst (λ (n : ℕ). Balances header c.args.most c.args.order (zones_up_to shape c.args.most n)
          (so_far.before ++ tested.0) (Yes (record { number = place }) verdict)) (node_is g c)
          (passed-first header c.args.most c.args.order node now old place so_far new verdict tested one
          c.if-verdict.true (length shape.zones) (place_in g c)),
      passed-made header c.args.most c.args.order node now old place so_far new verdict tested one,
    )

pub returns-then-verdict-clause-passed : goal.returns-then-verdict-clause-passed
returns-then-verdict-clause-passed g c =
    let header = c.args.header.now in
    let shape = header.layout in
    let node = get_or c.nodes.result.now (c.args.node.number - length c.zones-zones.result.now) 0 in
    let place = c.loop-place.place in
    let new = g.P.Caller.pass c.zone_ok-verdict.new.pass in
    let now = g.P.Caller.pass c.loop-place.pass in
    let old = g.P.Caller.pass c.args.pass.now in
    let verdict = c.zone_ok-verdict.result in
    let so_far = c.loop-place.invariant.0 in
    let tested = c.zone_ok-verdict.ensures.made in
    let one = place_one g c in
    record {
      one_of = subst (λ (n : ℕ). Contains (zones_up_to shape c.args.most n) place) (node_is g c)
          (passed-one_of header c.args.most c.args.order node now old place so_far new verdict tested one
          (length shape.zones) (place_in g c));
      passed = c.if-verdict.true;
      earlier = so_far.before;
      test = tested.0;
      later = [];
      before = now;
      after = new;
      came = so_far.made;
      tested = tested.2;
      went_on = calls-none pages new (calls-live pages new now tested.0
          (calls-live pages now old so_far.before c.is_live.ensures so_far.made) tested.2);
      tests = tested.1;
      near = c.zone_ok-verdict.ensures.near;
      truly = c.zone_ok-verdict.ensures.truly c.if-verdict.true;
      summed = c.zone_ok-verdict.ensures.summed;
      block = λ above.
          order-found header (record { number = place }) High c.args.most c.args.order tested.0 verdict tested.1
          c.if-verdict.true above;
      counts = c.zone_ok-verdict.ensures.counts c.if-verdict.true;
    }

pub loop-place-preserved : goal.loop-place-preserved
loop-place-preserved g c =
    let header = c.args.header.now in
    let shape = header.layout in
    let most = c.args.most in
    let order = c.args.order in
    let node = get_or c.nodes.result.now (c.args.node.number - length c.zones-zones.result.now) 0 in
    let place = c.loop-place.place in
    let now = g.P.Caller.pass c.loop-place.pass in
    let old = g.P.Caller.pass c.args.pass.now in
    let so_far = c.loop-place.invariant.0 in
    let within : place < length shape.zones =
    omega (arith, c.loop-place-test.true, ap length c.zones-zones.ensures.value) in
    let none : ZoneName = record { node = 0; kind = Dma } in
    let told = is_one-told shape most node place c.zones-zones.result.now none c.zones-zones.ensures.value within in
    elim c.if-is_up_to.branch [
      | then-is_up_to+else-verdict w ↦
          subst (λ p. FailedSoFar header most order node (g.P.Caller.pass p) old (place + 1)
          × (g.P.Caller.volume p ≡ g.P.Caller.volume c.args.pass.now)) (sym w.pass-is) (
            failed-next header most order node now old place so_far (g.P.Caller.pass w.zone_ok-verdict.new.pass)
                w.zone_ok-verdict.result w.zone_ok-verdict.ensures.made
                (sym told ∙ sym c.is_up_to.ensures ∙ w.if-is_up_to.true) w.if-verdict.false,
            w.zone_ok-verdict.ensures.volume ∙ c.loop-place.invariant.1,
          )
      | else-is_up_to w ↦
          subst (λ p. FailedSoFar header most order node (g.P.Caller.pass p) old (place + 1)
          × (g.P.Caller.volume p ≡ g.P.Caller.volume c.args.pass.now)) (sym w.pass-is) (
            failed-other header most order node now old place so_far
                (sym told ∙ sym c.is_up_to.ensures ∙ w.if-is_up_to.false),
            c.loop-place.invariant.1,
          )
    ]
