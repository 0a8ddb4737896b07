-- Each part goes on with the step.
use Rattle.vms_page_registers.proofs.tables.PageRegistersTableRegisters.take.Goals as goal

pub newest-newest-requires : goal.newest-newest-requires
newest-newest-requires c = (c.requires.0, c.requires.1, c.args.pass, c.requires.2, c.requires.3)

pub take-requires : goal.take-requires
take-requires c = (
  c.requires.0,
  c.requires.1,
  c.args.pass,
  c.requires.2,
  c.requires.3.peaks,
  c.newest-newest.ensures c.requires.0 c.requires.1 c.args.pass c.requires.2 c.requires.3,
)

pub take-requires-2 : goal.take-requires-2
take-requires-2 c = (c.requires.0, c.requires.1, c.args.pass, c.requires.2, c.requires.3.words)

pub take-requires-3 : goal.take-requires-3
take-requires-3 c = (c.requires.0, c.requires.1, c.requires.2, c.requires.3.passes)

pub returns : goal.returns
returns c = λ h held may keeps. record {
  words = c.take-2.ensures h held c.args.pass may keeps.words;
  passes = c.take-3.ensures h held may keeps.passes;
  peaks = c.take.ensures h held c.args.pass may keeps.peaks (c.newest-newest.ensures h held c.args.pass may keeps);
}
