-- An area with a block ends the search, and one without is passed over.
use Rattle.std.proofs.Common.{◌≡◌, ◌≤◌, Bool, Some, None, if◌then◌else◌, refl, ◌∙◌, subst, arith}
use Rattle.vms_calls.specs.Common.{area_at, area_index}
use Rattle.vms_kswapd.specs.Common.{HasSought}
use Rattle.vms_kswapd.proofs.BlockCounts.{counts-whole_call}
use Rattle.vms_kswapd.proofs.BlockSearches.{sought-all, sought-found, sought-next, sought-none}
use Rattle.vms_kswapd.proofs.orders.first_block.Goals as goal

pub loop-number-init : goal.loop-number-init
loop-number-init g c = (
  sought-none c.args.header.now c.args.zone c.args.order c.requires.least (g.P.Caller.pass c.args.pass.now)
      c.is_live.ensures,
  refl,
)

pub returns-then-has_block-clause-made : goal.returns-then-has_block-clause-made
returns-then-has_block-clause-made g c =
    let header = c.args.header.now in
    let n = c.loop-number.number in
    let now = g.P.Caller.pass c.loop-number.pass in
    let new = g.P.Caller.pass c.has_block.new.pass in
    let least : 1 ≤ n = omega (arith, c.requires.least, c.loop-number.auto.number) in
    let most : n ≤ 10 = omega (arith, c.loop-number-test.true) in
    sought-found header c.args.zone c.args.order now (g.P.Caller.pass c.args.pass.now) n c.loop-number.invariant.0
    least most new
    (subst (λ (b : Bool). HasSought header.layout new now c.args.zone (area_at n (area_index header.items n))
    (if b then Some n else None)) c.if-has_block.true c.has_block.ensures.made)

pub returns-then-has_block-clause-counts : goal.returns-then-has_block-clause-counts
returns-then-has_block-clause-counts g c found is =
    let n = c.loop-number.number in
    let made = c.loop-number.invariant.0.made in
    counts-whole_call c.args.header.now c.args.zone (g.P.Caller.pass c.has_block.new.pass)
    (g.P.Caller.pass c.loop-number.pass) (g.P.Caller.pass c.args.pass.now) c.args.order n (Some n) made.facts
    made.number made.made.extends (omega (arith, c.loop-number.auto.number))
    (c.has_block.ensures.counts c.if-has_block.true)

pub loop-number-preserved : goal.loop-number-preserved
loop-number-preserved g c =
    let header = c.args.header.now in
    let n = c.loop-number.number in
    let now = g.P.Caller.pass c.loop-number.pass in
    let new = g.P.Caller.pass c.has_block.new.pass in
    let least : 1 ≤ n = omega (arith, c.requires.least, c.loop-number.auto.number) in
    let most : n ≤ 10 = omega (arith, c.loop-number-test.true) in (
      sought-next header c.args.zone c.args.order now (g.P.Caller.pass c.args.pass.now) n c.loop-number.invariant.0
          least most new
          (subst (λ (b : Bool). HasSought header.layout new now c.args.zone (area_at n (area_index header.items n))
          (if b then Some n else None)) c.if-has_block.false c.has_block.ensures.made),
      c.has_block.ensures.volume ∙ c.loop-number.invariant.1,
    )

pub returns-clause-made : goal.returns-clause-made
returns-clause-made g c =
    let all : c.loop-number.number ≡ 11 =
    omega (arith, c.loop-number-test.false, c.loop-number.auto.«number-end», c.requires.most) in
    sought-all c.args.header.now c.args.zone c.args.order (g.P.Caller.pass c.loop-number.pass)
    (g.P.Caller.pass c.args.pass.now) c.loop-number.number c.loop-number.invariant.0 all
