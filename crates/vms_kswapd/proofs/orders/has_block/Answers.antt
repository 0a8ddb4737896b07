-- The goals were what the look found, with an item for the order and without one.
use Rattle.std.proofs.Common.{ℕ, not, nat_eq, List, [], Option, Some, None, if◌then◌else◌, sym, ◌∙◌, subst}
use Rattle.vms_calls.specs.Common.{area_at, Shape, IsSnapshot, FindsBlock, nowhere, Step, pages}
use Rattle.vms_kswapd.specs.Common.{HasSought}
use Rattle.vms_kswapd.proofs.BlockCounts.{counted-block}
use Rattle.vms_kswapd.proofs.BlockSearches.{area-sought}
use Rattle.vms_seats.specs.Common.{Made}
use Rattle.vms_seats.proofs.Common.{calls-none}
use Rattle.vms_kswapd.proofs.orders.has_block.Goals as goal

pub returns-in-Some-clause-made : goal.returns-in-Some-clause-made
returns-in-Some-clause-made g c =
    let shape = c.args.header.now.layout in
    let new = g.P.Caller.pass c.snapshot.new.pass in
    let old = g.P.Caller.pass c.args.pass.now in
    let blocks = c.snapshot.result in
    subst (λ (found : Option ℕ). HasSought shape new old c.args.zone (area_at c.args.order found)
    (if not (nat_eq blocks 0) then Some c.args.order else None)) (sym c.in-Some.is ∙ c.item_index.ensures.value)
    (area-sought shape c.args.zone new old c.counter-counter.result c.args.order c.in-Some.index blocks
    c.counter-counter.ensures.value
    (subst (λ (s : Shape). (steps : List Step) × IsSnapshot s c.counter-counter.result steps blocks
    × Made pages new old steps) (sym c.requires.layout) c.snapshot.ensures.made))

pub returns-in-None-clause-made : goal.returns-in-None-clause-made
returns-in-None-clause-made g c = (
  [],
  subst (λ (found : Option ℕ). FindsBlock c.args.header.now.layout c.args.zone (area_at c.args.order found) [] None)
      (sym c.in-None.is ∙ c.item_index.ensures.value) nowhere,
  calls-none pages (g.P.Caller.pass c.args.pass.now) c.is_live.ensures,
)

pub returns-in-Some-clause-counts : goal.returns-in-Some-clause-counts
returns-in-Some-clause-counts g c some =
    counted-block c.args.header.now c.args.zone (g.P.Caller.pass c.snapshot.new.pass) (g.P.Caller.pass c.args.pass.now)
    c.counter-counter.result c.args.order c.in-Some.index c.snapshot.result c.requires.least c.requires.most
    (sym c.item_index.ensures.value ∙ c.in-Some.is) c.counter-counter.ensures.value c.snapshot.ensures.truly some
