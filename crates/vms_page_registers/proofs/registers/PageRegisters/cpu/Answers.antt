-- The state of a CPU that stands is the one that the history tells.
use Rattle.std.proofs.Common.{◌≡◌, ℕ, ◌<◌, length, sym, ap, subst, ◌∙◌}
use Rattle.vms_core.specs.declared.states.State.{State}
use Rattle.vms_core.specs.Common.{cpu_at}
use Rattle.vms_core.proofs.Common.{laws-kept}
use Rattle.vms_page_registers.proofs.registers.PageRegisters.cpu.Goals as goal

pub state-requires : goal.state-requires
state-requires c =
    let facts = c.requires.0 in
    let h = c.requires.1 in
    let laws = laws-kept facts h c.requires.3 in
    subst (λ (n : ℕ). c.args.cpu.number < n)
    (sym (ap (λ (s : State). length s.cpu) c.requires.4.words ∙ laws.shape.cpu)) c.requires.5

pub returns : goal.returns
returns c facts h held legal keeps c_in =
    c.state.ensures ∙ ap (λ (s : State). cpu_at s c.args.cpu.number) keeps.words
    ∙ (laws-kept facts h legal).told_cpus c.args.cpu.number c_in
