use Rattle.std.proofs.Common.{length}
use Rattle.vms_header.proofs.ParsingSteps.{IsReadTo}
use Rattle.vms_header.proofs.parsing.parse_header.Given as goal

abbrev pub invariant-loop-rest : goal.invariant-loop-rest
invariant-loop-rest l = IsReadTo l.text l.line l.reader l.rest

abbrev pub decreases-loop-rest : goal.decreases-loop-rest
decreases-loop-rest l = length l.rest
