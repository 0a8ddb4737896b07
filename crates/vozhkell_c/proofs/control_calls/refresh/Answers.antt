-- The rules answer as the kernel's do.
use Rattle.std.proofs.Common.{◌≡◌, ap, subst, sym}
use Rattle.vms_world.specs.Common.{RulePair}
use Rattle.vozhkell_c.specs.Openings.{GoesByNormal}
use Rattle.vozhkell_c.proofs.KernelCalls.{refresh-is}
use Rattle.vozhkell_c.proofs.control_calls.refresh.Goals as goal

pub returns : goal.returns
returns g c =
    let called = c.refresh_thresholds-2.ensures in
    let normal_is : c.make.result.normal ≡ c.args.normal = ap (λ (pair : RulePair _ _). pair.normal) c.make.ensures in
    let goes_normal = subst (λ n. GoesByNormal (g.N.Rule.answers n)) (sym normal_is) c.requires.by_normal in (
      refresh-is (g.N.Rule.answers c.make.result.normal) goes_normal c.refresh_thresholds-2.new.self.page
          c.args.own.now.page c.refresh_thresholds-2.result called.made called.marks,
      called.rest,
    )
