use Rattle.std.proofs.Common.{sym}
use Rattle.vms_script.proofs.scripters.read.Goals as goal

pub returns-in-Some : goal.returns-in-Some
returns-in-Some c = sym c.in-Some.ensures.spelled.read
