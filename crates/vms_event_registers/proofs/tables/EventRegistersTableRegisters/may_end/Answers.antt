-- A pass may end where no amount of its slot is left.
use Rattle.std.proofs.Common.{sym, ◌∙◌, arith}
use Rattle.vms_event_registers.proofs.ShownConditions.{carried-here}
use Rattle.vms_event_registers.proofs.tables.EventRegistersTableRegisters.may_end.Goals as goal

pub is_empty-requires : goal.is_empty-requires
is_empty-requires c =
    let slot_in = c.requires.2.slot_in in
    let high = c.requires.3.carried_cells.high in
    omega arith

pub returns : goal.returns
returns c = λ h held stands keeps.
    let wide = keeps.carried_cells.wide in
    let here = carried-here c.args.facts.now h held c.args.slot c.args.pass stands c.args.self.now keeps in (
      λ yes k k_in. sym (here k k_in) ∙ c.is_empty.ensures.0 yes k (omega arith),
      λ nothing. c.is_empty.ensures.1 (λ k k_in.
          let within = k_in in here k (omega arith) ∙ nothing k (omega arith)),
    )
