use Rattle.vms_control.proofs.FoundCpus.{FoundSoFar}
use Rattle.vms_control.proofs.online.load_online.Given as goal

-- the CPUs so far were looked at
abbrev pub invariant-loop-number : goal.invariant-loop-number
invariant-loop-number l = FoundSoFar l.table.facts l.pass l.fn.pass l.number l.online
