-- The numbers that stand fit the layout.
use Rattle.std.proofs.Common.{ap, ◌∙◌}
use Rattle.vms_page_registers.specs.declared.registers.PageRegisters.{PageRegisters}
use Rattle.vms_phase_checks.proofs.DueSteps.{shaped-words}
use Rattle.vms_phase_checks.proofs.checks.PhaseCheck.due_of.Goals as goal

pub told_step-requires : goal.told_step-requires
told_step-requires g c =
    shaped-words g.W.LaneWalk.Stands g.W.LaneWalk.pressure g.W.LaneWalk.normal c.args.header.now c.requires.check.0
    c.requires.check.1 c.requires.check.2 c.args.self.now c.requires.check.4 c.args.caller 0 c.words.result.now
    (c.words.ensures ∙ ap (λ (own : PageRegisters). own.words) c.own.ensures)
