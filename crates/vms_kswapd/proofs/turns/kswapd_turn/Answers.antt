-- The three calls are a turn, the thresholds of its rule stand after it, and each threshold and mark was set twice at
-- most.
use Rattle.std.proofs.Common.{arith, ◌∙◌, ap, sym, subst}
use Rattle.vms_calls.specs.Common.{HasMade, Facts, IsTurn}
use Rattle.vms_kswapd.proofs.TrueBalances.{names-both, names-yes, turns-truly}
use Rattle.vms_kswapd.proofs.TurnRules.{rules-stand}
use Rattle.vms_kswapd.proofs.TurnSteps.{facts-are, names-whole, tested-carries, tested-sets, turn-made}
use Rattle.vms_kswapd.proofs.turns.kswapd_turn.Goals as goal

pub settle-requires-clause-room : goal.settle-requires-clause-room
settle-requires-clause-room g c =
    let still = tested-sets c.args.table.now c.args.header.now c.args.node c.args.order c.args.most
    c.balanced-balance.result c.balanced-balance.new.pass c.set_pressure.new.pass c.args.pass.now
    c.requires.table c.set_pressure.ensures.made.0 c.set_pressure.ensures.made.2 c.balanced-balance.ensures.made
    c.set_pressure.ensures.control in
    omega (arith, still, c.set_pressure.ensures.sets, c.requires.room)

pub returns-clause-made : goal.returns-clause-made
returns-clause-made g c =
    let words = c.args.table.now in
    let header = c.args.header.now in
    let old = c.args.pass.now in
    let new = c.settle.new.pass in
    let pressure = g.P.Rule.answers c.args.rules.now.pressure in
    let normal = g.N.Rule.answers c.args.rules.now.normal in
    let answer = c.balanced-balance.result in
    let know = c.control_passes_know_by_own_steps.ensures in
    let pressed = c.set_pressure.ensures.made in
    let control = c.set_pressure.ensures.control in
    let tested = c.balanced-balance.ensures.made in
    let same = facts-are header words.facts c.requires.layout c.requires.sizes in
    let made = turn-made words header pressure normal c.args.node c.args.order c.args.most same
    c.balanced-balance.new.pass c.set_pressure.new.pass old c.requires.table know control pressed.0 tested.0 answer
    pressed.1 pressed.2 tested.1 tested.2 new c.settle.ensures.made in (
      made.0,
      made.1,
      made.2,
      rules-stand header words.facts.base old.number new.seen old.seen made.0
          (subst (λ (f : Facts). HasMade f new.seen old.seen old.number made.0) (c.requires.table.facts ∙ sym same)
          made.2.made) know control pressure normal c.args.node c.args.order c.args.most answer made.1,
    )

pub returns-clause-passed : goal.returns-clause-passed
returns-clause-passed g c =
    let header = c.args.header.now in
    let old = c.args.pass.now in
    let pressure = g.P.Rule.answers c.args.rules.now.pressure in
    let normal = g.N.Rule.answers c.args.rules.now.normal in
    let made = returns-clause-made g c in
    names-both header c.settle.new.pass old c.args.node c.args.order c.args.most c.balanced-balance.result
    (names-whole header c.settle.new.pass c.balanced-balance.new.pass c.set_pressure.new.pass old c.args.node
    c.args.order c.args.most c.balanced-balance.result c.set_pressure.ensures.made.0 c.settle.ensures.made.0
    c.set_pressure.ensures.made.2 c.settle.ensures.made.2
    (names-yes header c.balanced-balance.new.pass c.set_pressure.new.pass c.args.node c.args.order c.args.most
    c.balanced-balance.result c.balanced-balance.ensures.passed))
    (turns-truly header pressure normal c.settle.new.pass old c.args.node c.args.order c.args.most made.0
    c.balanced-balance.result
    (c.requires.layout ∙ sym (ap (λ (f : Facts). f.layout) c.requires.table.facts))
    (c.requires.sizes ∙ sym (ap (λ (f : Facts). f.sizes) c.requires.table.facts))
    (subst (λ (f : Facts). IsTurn header f.base pressure normal c.args.node c.args.order c.args.most old.number old.seen
    made.0 c.balanced-balance.result) (sym c.requires.table.facts) made.1) made.2)

pub returns-clause-carries : goal.returns-clause-carries
returns-clause-carries g c nothing =
    c.settle.ensures.carries
    (tested-carries c.args.table.now c.args.header.now c.args.node c.args.order c.args.most
    c.balanced-balance.result c.balanced-balance.new.pass c.set_pressure.new.pass c.args.pass.now
    c.requires.table c.set_pressure.ensures.made.0 c.set_pressure.ensures.made.2 c.balanced-balance.ensures.made
    c.args.table.now.facts.layout (c.set_pressure.ensures.carries nothing))

pub returns-clause-sets : goal.returns-clause-sets
returns-clause-sets g c =
    let still = tested-sets c.args.table.now c.args.header.now c.args.node c.args.order c.args.most
    c.balanced-balance.result c.balanced-balance.new.pass c.set_pressure.new.pass c.args.pass.now
    c.requires.table c.set_pressure.ensures.made.0 c.set_pressure.ensures.made.2 c.balanced-balance.ensures.made
    c.set_pressure.ensures.control in
    omega (arith, c.settle.ensures.sets, still, c.set_pressure.ensures.sets)
