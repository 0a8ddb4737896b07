-- The rules answer as the kernel's do.
use Rattle.std.proofs.Common.{◌≡◌, ap, subst, sym}
use Rattle.vms_world.specs.Common.{RulePair}
use Rattle.vozhkell_c.specs.Openings.{GoesByNormal, GoesByPressure}
use Rattle.vozhkell_c.proofs.KernelCalls.{turn-is}
use Rattle.vozhkell_c.proofs.control_calls.kswapd_turn.Goals as goal

pub returns : goal.returns
returns g c =
    let called = c.kswapd_turn-2.ensures in
    let normal_is : c.make.result.normal ≡ c.args.normal = ap (λ (pair : RulePair _ _). pair.normal) c.make.ensures in
    let goes_normal = subst (λ n. GoesByNormal (g.N.Rule.answers n)) (sym normal_is) c.requires.by_normal in
    let pressure_is : c.make.result.pressure ≡ c.args.pressure = ap (λ (pair : RulePair _ _). pair.pressure)
    c.make.ensures in
    let goes_pressure = subst (λ n. GoesByPressure (g.P.Rule.answers n)) (sym pressure_is) c.requires.by_pressure in (
      turn-is (g.N.Rule.answers c.make.result.normal) goes_normal c.kswapd_turn-2.new.self.page c.args.own.now.page
          (g.P.Rule.answers c.make.result.pressure) goes_pressure c.args.node c.args.order c.args.most
          c.kswapd_turn-2.result called.made called.passed,
      called.rest,
    )
