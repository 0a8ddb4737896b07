-- The goals were that words of two CPUs, of two counters, and of a counter and a CPU stand in two lines.
use Rattle.vms_pcpu.proofs.RowLines.{cpus-apart, counters-apart, locals-apart}
use Rattle.vms_pcpu.proofs.laws.cpus_share_no_line.Goals as goal

pub returns-clause-cpus : goal.returns-clause-cpus
returns-clause-cpus c = cpus-apart

pub returns-clause-pairs : goal.returns-clause-pairs
returns-clause-pairs c = counters-apart

pub returns-clause-apart : goal.returns-clause-apart
returns-clause-apart c = locals-apart
