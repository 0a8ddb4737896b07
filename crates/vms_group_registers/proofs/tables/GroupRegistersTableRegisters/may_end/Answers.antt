-- A pass may end where no amount of its slot is left, and none rises.
use Rattle.std.proofs.Common.{sym, ◌∙◌, true≢false}
use Rattle.vms_group_registers.proofs.ShownConditions.{carries-nothing, nothing-carried, nothing-rises}
use Rattle.vms_group_registers.proofs.tables.GroupRegistersTableRegisters.may_end.Goals as goal

pub returns-then-is_empty : goal.returns-then-is_empty
returns-then-is_empty c = λ h held stands keeps. (
  λ yes. carries-nothing c.args.facts.now h held c.args.slot c.args.pass stands c.args.self.now keeps
      (c.is_empty.ensures.0 c.if-is_empty.true) (c.has_none.ensures.0 yes),
  λ nothing. c.has_none.ensures.1
      (nothing-rises c.args.facts.now h held c.args.slot c.args.pass stands c.args.self.now keeps nothing),
)

pub returns-else-is_empty : goal.returns-else-is_empty
returns-else-is_empty c = λ h held stands keeps. (
  λ yes. absurd (true≢false (sym yes ∙ c.if-is_empty.false)),
  λ nothing. c.is_empty.ensures.1
      (nothing-carried c.args.facts.now h held c.args.slot c.args.pass stands c.args.self.now keeps nothing),
)
