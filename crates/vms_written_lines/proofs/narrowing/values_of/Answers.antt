-- A list is the one of its numbers.
use Rattle.vms_written_lines.proofs.NarrowSteps.{diffs_of-own}
use Rattle.vms_written_lines.proofs.narrowing.values_of.Goals as goal

pub returns-clause-back : goal.returns-clause-back
returns-clause-back c = diffs_of-own c.args.list
