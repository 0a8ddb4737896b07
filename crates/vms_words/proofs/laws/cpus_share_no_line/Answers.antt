-- The goals were that words of two CPUs, and of a CPU and of none, stand in two lines.
use Rattle.vms_words.proofs.RowLines.{cpus-apart, shared-apart}
use Rattle.vms_words.proofs.laws.cpus_share_no_line.Goals as goal

pub returns-clause-cpus : goal.returns-clause-cpus
returns-clause-cpus c = cpus-apart

pub returns-clause-shared : goal.returns-clause-shared
returns-clause-shared c = shared-apart
