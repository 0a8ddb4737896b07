-- A pass may end that carries nothing.
use Rattle.vms_page_registers.proofs.tables.PageRegistersTableRegisters.may_end.Goals as goal

pub carries_nothing-requires : goal.carries_nothing-requires
carries_nothing-requires c =
    (c.args.facts.now, c.requires.0, c.requires.1, c.args.pass, c.requires.2, c.requires.3.passes)

pub returns : goal.returns
returns c = λ h held stands keeps.
    c.carries_nothing.ensures c.args.facts.now h held c.args.pass stands keeps.passes
