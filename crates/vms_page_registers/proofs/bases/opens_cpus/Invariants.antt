use Rattle.std.proofs.Common.{◌<◌, ℕ}
use Rattle.vms_page_registers.specs.Openings.{OpensCpu}
use Rattle.vms_page_registers.proofs.bases.opens_cpus.Given as goal

abbrev pub invariant-loop-number : goal.invariant-loop-number
invariant-loop-number l = (c : ℕ) → c < l.number → OpensCpu l.layout l.state c
