-- Line by line.
use Rattle.vms_walks.proofs.LineActs.{page-acts}
use Rattle.vms_walks.proofs.laws.fitting_lines_are_page_acts.Goals as goal

pub returns : goal.returns
returns c header start items lane fits = page-acts header start lane items fits.known fits.allowed
