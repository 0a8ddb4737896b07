use Rattle.vms_stream.proofs.Common.{output-in_order}
use Rattle.vms_command.specs.Common.{following}
use Rattle.vms_command.proofs.WholeText.{WritesTexts-holds}
use Rattle.vms_command.proofs.laws.writes_texts.Goals as goal

pub returns-clause-in_order : goal.returns-clause-in_order
returns-clause-in_order g c = output-in_order (following g.B.Body.command)

pub returns-clause-asking_nothing : goal.returns-clause-asking_nothing
returns-clause-asking_nothing g c = WritesTexts-holds g.B.Body.command
