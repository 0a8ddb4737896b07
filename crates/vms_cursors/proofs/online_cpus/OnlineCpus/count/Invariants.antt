use Rattle.std.proofs.Common.{◌≡◌, ◌≤◌, length}
use Rattle.vms_cursors.specs.OnlineCpus.{flagged}
use Rattle.vms_cursors.proofs.online_cpus.OnlineCpus.count.Given as goal

-- the CPUs so far are counted
abbrev pub invariant-loop-c : goal.invariant-loop-c
invariant-loop-c l = record {
  value : l.count ≡ length (flagged l.self.flags 0 l.c);
  most : l.count ≤ l.c;
}
