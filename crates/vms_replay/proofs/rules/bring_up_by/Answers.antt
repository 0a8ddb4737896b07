-- The thresholds are the kernel's.
use Rattle.std.proofs.Common.{◌≡◌, ap, subst, sym}
use Rattle.vms_world.specs.Common.{normal_threshold_of, RulePair}
use Rattle.vms_replay.specs.Common.{GoesBy}
use Rattle.vms_replay.proofs.KernelThresholds.{brought-normal}
use Rattle.vms_replay.proofs.rules.bring_up_by.Goals as goal

pub returns : goal.returns
returns g c =
    let same : c.make.result.normal ≡ c.args.normal = ap (λ (pair : RulePair _ _). pair.normal) c.make.ensures in
    let exact = subst (λ n. GoesBy normal_threshold_of (g.N.Rule.answers n)) (sym same) c.requires.exact in
    brought-normal c.args.header.now c.requires.header (g.N.Rule.answers c.make.result.normal) exact c.args.world.now
    c.args.cpu c.requires.world c.requires.cpu c.bring_up-2.new.world c.bring_up-2.ensures.online
