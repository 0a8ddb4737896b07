-- The phase is one by the kernel's rules.
use Rattle.vms_run.proofs.KernelPhases.{makes_on_threads-kernel}
use Rattle.vms_run.proofs.standing.make_by_crew.Goals as goal

pub returns-clause-makes : goal.returns-clause-makes
returns-clause-makes g c =
    makes_on_threads-kernel (g.P.Rule.answers c.args.pressure) (g.N.Rule.answers c.args.normal)
    c.requires.rules.exact_pressure c.requires.rules.exact_normal c.args.header.now c.args.world c.args.script.now
    c.run_standing_phase.result c.run_standing_phase.ensures.phase
