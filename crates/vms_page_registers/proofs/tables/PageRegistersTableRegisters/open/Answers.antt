-- A history may begin, and its registers are opened.
use Rattle.vms_page_registers.proofs.tables.PageRegistersTableRegisters.open.Goals as goal

pub returns-in_ok-opened : goal.returns-in_ok-opened
returns-in_ok-opened c = (c.is_base.ensures.0 c.if-is_base.true, λ held empty. c.in_ok-opened.ensures held)
