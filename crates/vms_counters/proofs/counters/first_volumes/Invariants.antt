-- So far each CPU has volumes of 0.
use Rattle.std.proofs.Common.{◌≡◌, Some, replicate}
use Rattle.vms_counters.specs.Opened.{no_volumes}
use Rattle.vms_counters.proofs.counters.first_volumes.Given as goal

abbrev pub invariant-loop-cpu : goal.invariant-loop-cpu
invariant-loop-cpu l = l.volumes.items ≡ replicate l._cpu (Some (no_volumes l.header))
