-- The registers tell it.
use Rattle.std.proofs.Common.{sym, subst}
use Rattle.vms_world.specs.Common.{facts_of}
use Rattle.vms_page_registers.specs.declared.registers.PageRegisters.{PageRegisters}
use Rattle.vms_page_registers.specs.Keeps.{KeepsPages}
use Rattle.vms_registers.specs.Shows.{held_by}
use Rattle.vms_phase_checks.proofs.checks.PhaseCheck.settled.Goals as goal

pub returns : goal.returns
returns g c header s items h checks =
    let held = held_by c.args.self.now.registers.passes.holders in
    c.settled.ensures (facts_of header s) h held
    (subst (λ (r : PageRegisters). KeepsPages (facts_of header s) h held r) (sym c.own.ensures) checks.shows.own)
