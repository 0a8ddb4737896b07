use Rattle.std.proofs.Common.{◌≡◌, ◌-◌}
use Rattle.vms_cursors.specs.OnlineCpus.{flagged}
use Rattle.vms_cursors.proofs.online_cpus.OnlineCpus.next.Given as goal

-- none of the CPUs so far is online
abbrev pub invariant-loop-c : goal.invariant-loop-c
invariant-loop-c l =
    flagged l.self.flags l.from (l.cpus - l.from) ≡ flagged l.self.flags l.c (l.cpus - l.c)
