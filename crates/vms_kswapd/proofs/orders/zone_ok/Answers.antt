-- The goals were the steps of the test at order 0 and above it, and what a yes says.
use Rattle.std.proofs.Common.{ℕ, Bool, List, refl, sym, ◌∙◌, subst, arith}
use Rattle.vms_calls.specs.Common.{limit_of, Shape, IsOrderTest, has_room, Step, free_pages, pages}
use Rattle.vms_history.proofs.Common.{Extends-same}
use Rattle.vms_kswapd.specs.Common.{Seeks}
use Rattle.vms_kswapd.proofs.BlockCounts.{counts-whole_call, some-found}
use Rattle.vms_kswapd.proofs.OrderTests.{found-passed, order-above, order-found, order-zero, with_area}
use Rattle.vms_look.specs.Common.{SumsTruly}
use Rattle.vms_look.proofs.Common.{sums-whole_call, tells-whole_call, truly-whole_call}
use Rattle.vms_seats.specs.Common.{Made}
use Rattle.vms_kswapd.proofs.orders.zone_ok.Goals as goal

pub returns-then-order-eq0-clause-made : goal.returns-then-order-eq0-clause-made
returns-then-order-eq0-clause-made g c =
    order-zero c.args.header.now c.args.zone c.args.mark c.args.most c.watermark_ok-verdict.result
    (g.P.Caller.pass c.watermark_ok-verdict.new.pass) (g.P.Caller.pass c.args.pass.now)
    c.watermark_ok-verdict.ensures.made c.args.order c.if-order-eq0.true

-- the look for a block, by the header's limit
sought : (g : _) (c : goal.After-is_some g) → (steps : List Step)
    × Seeks c.args.header.now c.args.zone c.args.order
    (has_room (limit_of c.args.header.now c.args.zone.number c.args.mark c.args.most) c.args.order
    c.watermark_ok-verdict.result.free) steps c.block_within-area.result
    × Made pages (g.P.Caller.pass c.block_within-area.new.pass) (g.P.Caller.pass c.watermark_ok-verdict.new.pass) steps
sought g c =
    subst (λ (limit : ℕ). (steps : List Step) × Seeks c.args.header.now c.args.zone c.args.order
    (has_room limit c.args.order c.watermark_ok-verdict.result.free) steps c.block_within-area.result
    × Made pages (g.P.Caller.pass c.block_within-area.new.pass) (g.P.Caller.pass c.watermark_ok-verdict.new.pass) steps)
    c.limit-limit.ensures.value c.block_within-area.ensures.made

pub returns-clause-made : goal.returns-clause-made
returns-clause-made g c =
    let verdict = c.watermark_ok-verdict.result in
    let area = c.block_within-area.result in
    let new = g.P.Caller.pass c.block_within-area.new.pass in
    let old = g.P.Caller.pass c.args.pass.now in
    subst (λ (b : Bool). (steps : List Step) × IsOrderTest c.args.header.now c.args.zone c.args.mark c.args.most
    c.args.order steps (with_area verdict b area) × Made pages new old steps) (sym c.is_some.ensures)
    (order-above c.args.header.now c.args.zone c.args.mark c.args.most verdict
    (g.P.Caller.pass c.watermark_ok-verdict.new.pass) old c.watermark_ok-verdict.ensures.made c.args.order
    c.if-order-eq0.false new area (sought g c))

pub returns-then-order-eq0-clause-summed : goal.returns-then-order-eq0-clause-summed
returns-then-order-eq0-clause-summed g c slow =
    subst (λ (shape : Shape). SumsTruly (g.P.Caller.pass c.watermark_ok-verdict.new.pass)
    (g.P.Caller.pass c.args.pass.now) (free_pages shape c.args.zone) c.watermark_ok-verdict.result.free)
    (sym c.requires.layout) (c.watermark_ok-verdict.ensures.summed slow)

pub returns-clause-summed : goal.returns-clause-summed
returns-clause-summed g c slow =
    let old = g.P.Caller.pass c.args.pass.now in
    sums-whole_call (g.P.Caller.pass c.block_within-area.new.pass) (g.P.Caller.pass c.watermark_ok-verdict.new.pass)
    old old (free_pages c.args.header.now.layout c.args.zone) c.watermark_ok-verdict.result.free refl refl
    (Extends-same old.seen) (sought g c).2.made.extends
    (subst (λ (shape : Shape). SumsTruly (g.P.Caller.pass c.watermark_ok-verdict.new.pass) old
    (free_pages shape c.args.zone) c.watermark_ok-verdict.result.free)
    (sym c.requires.layout) (c.watermark_ok-verdict.ensures.summed slow))

pub returns-clause-near : goal.returns-clause-near
returns-clause-near g c fast =
    let old = g.P.Caller.pass c.args.pass.now in
    tells-whole_call (g.P.Caller.pass c.block_within-area.new.pass) (g.P.Caller.pass c.watermark_ok-verdict.new.pass)
    old old c.args.zone c.watermark_ok-verdict.result.free refl refl (Extends-same old.seen) (sought g c).2.made.extends
    (c.watermark_ok-verdict.ensures.near fast)

pub returns-clause-counts : goal.returns-clause-counts
returns-clause-counts g c passed above =
    let found = some-found c.block_within-area.result (sym c.is_some.ensures ∙ passed) in
    let made = c.watermark_ok-verdict.ensures.made.2 in
    counts-whole_call c.args.header.now c.args.zone (g.P.Caller.pass c.block_within-area.new.pass)
    (g.P.Caller.pass c.watermark_ok-verdict.new.pass) (g.P.Caller.pass c.args.pass.now) c.args.order c.args.order
    c.block_within-area.result made.facts made.number made.made.extends (omega arith)
    (c.block_within-area.ensures.counts found.0 found.1)

pub returns-clause-truly : goal.returns-clause-truly
returns-clause-truly g c passed fast =
    let verdict = c.watermark_ok-verdict.result in
    let old = g.P.Caller.pass c.args.pass.now in
    let looked = sought g c in
    let passed_first = found-passed c.args.header.now c.args.zone c.args.mark c.args.most verdict c.args.order looked.0
    c.block_within-area.result (sym c.is_some.ensures ∙ passed) looked.1 c.watermark_ok-verdict.ensures.made.1.yes in
    truly-whole_call (g.P.Caller.pass c.block_within-area.new.pass) (g.P.Caller.pass c.watermark_ok-verdict.new.pass)
    old old c.args.zone (limit_of c.args.header.now c.args.zone.number c.args.mark c.args.most) refl refl
    (Extends-same old.seen) looked.2.made.extends (c.watermark_ok-verdict.ensures.truly passed_first fast)

pub returns-clause-block : goal.returns-clause-block
returns-clause-block g c passed above =
    let made = returns-clause-made g c in (
      made.0,
      order-found c.args.header.now c.args.zone c.args.mark c.args.most c.args.order made.0
          (with_area c.watermark_ok-verdict.result c.is_some.result c.block_within-area.result) made.1
          passed above,
      made.2,
    )
