-- The phase is one by the kernel's rules.
use Rattle.std.proofs.Common.{◌≡◌, ap, refl, subst, sym}
use Rattle.vms_world.specs.Common.{normal_threshold_of, pressure_threshold_of, RulePair}
use Rattle.vms_replay.specs.Common.{GoesBy, Prints}
use Rattle.vms_replay.proofs.OrderedPhases.{IsReplayed-kernel}
use Rattle.vms_replay.proofs.file_order.replay_by.Goals as goal

pub returns : goal.returns
returns g c =
    let normal : c.make-rules.result.normal ≡ c.args.normal = ap (λ (pair : RulePair _ _). pair.normal)
    c.make-rules.ensures in
    let pressure : c.make-rules.result.pressure ≡ c.args.pressure =
    ap (λ (pair : RulePair _ _). pair.pressure) c.make-rules.ensures in
    IsReplayed-kernel (g.P.Rule.answers c.make-rules.result.pressure) (g.N.Rule.answers c.make-rules.result.normal)
    (subst (λ p. GoesBy pressure_threshold_of (g.P.Rule.answers p)) (sym pressure) c.requires.exact_pressure)
    (subst (λ n. GoesBy normal_threshold_of (g.N.Rule.answers n)) (sym normal) c.requires.exact_normal)
    c.args.header.now c.args.world c.args.script.now (λ told. Prints c.args.header.now c.args.printer.now told
    c.replay_phase.new.taker) c.replay_phase.result c.replay_phase.ensures

pub replay_phase-requires-clause-taker : goal.replay_phase-requires-clause-taker
replay_phase-requires-clause-taker g c = record { text = λ later. refl }
