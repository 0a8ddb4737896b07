use Rattle.vms_tool.proofs.Saying.{ShowsUsage-unwritten}
use Rattle.vms_tool.proofs.commands.show_usage.Goals as goal

pub returns-in-Err-clause-usage : goal.returns-in-Err-clause-usage
returns-in-Err-clause-usage g c = ShowsUsage-unwritten _ _ c.in-Err.ensures.err.0 c.in-Err.ensures.err.2
