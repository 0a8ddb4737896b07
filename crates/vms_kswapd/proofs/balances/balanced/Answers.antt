-- What the steps of the test tell of each zone.
use Rattle.std.proofs.Common.{ap, sym, ◌∙◌}
use Rattle.vms_calls.specs.Common.{Facts}
use Rattle.vms_kswapd.proofs.TrueBalances.{balances-truly, names-both}
use Rattle.vms_kswapd.proofs.balances.balanced.Goals as goal

pub returns-clause-passed : goal.returns-clause-passed
returns-clause-passed g c =
    let new = g.P.Caller.pass c.first_balanced.new.pass in
    let old = g.P.Caller.pass c.args.pass.now in
    let made = c.first_balanced.ensures.made in
    names-both c.args.header.now new old c.args.node c.args.order c.args.most c.first_balanced.result
    c.first_balanced.ensures.passed
    (balances-truly c.args.header.now new old c.args.node c.args.order c.args.most made.0 c.first_balanced.result
    (c.requires.layout ∙ sym (ap (λ (f : Facts). f.layout) c.requires.table.facts))
    (c.requires.sizes ∙ sym (ap (λ (f : Facts). f.sizes) c.requires.table.facts)) made.1 made.2)
