-- The phase is one by the kernel's rules.
use Rattle.std.proofs.Common.{◌≡◌, ap, subst, sym}
use Rattle.vms_world.specs.Common.{normal_threshold_of, pressure_threshold_of, RulePair}
use Rattle.vms_replay.specs.Common.{GoesBy}
use Rattle.vms_run.proofs.KernelPhases.{makes_on_threads-kernel}
use Rattle.vms_run.proofs.running.run_by.Goals as goal

pub returns-clause-makes : goal.returns-clause-makes
returns-clause-makes g c =
    let normal : c.make-rules.result.normal ≡ c.args.normal =
    ap (λ (pair : RulePair _ _). pair.normal) c.make-rules.ensures in
    let pressure : c.make-rules.result.pressure ≡ c.args.pressure =
    ap (λ (pair : RulePair _ _). pair.pressure) c.make-rules.ensures in
    makes_on_threads-kernel (g.P.Rule.answers c.make-rules.result.pressure)
    (g.N.Rule.answers c.make-rules.result.normal)
    (subst (λ p. GoesBy pressure_threshold_of (g.P.Rule.answers p)) (sym pressure) c.requires.rules.exact_pressure)
    (subst (λ n. GoesBy normal_threshold_of (g.N.Rule.answers n)) (sym normal) c.requires.rules.exact_normal)
    c.args.header.now c.args.world c.args.script.now c.run_phase.result c.run_phase.ensures.phase
