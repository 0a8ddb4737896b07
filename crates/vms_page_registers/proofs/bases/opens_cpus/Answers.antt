-- One CPU more opens.
use Rattle.std.proofs.Common.{rules, below_more}
use Rattle.std.specs.Prelude.{IsTrue}
use Rattle.vms_page_registers.proofs.bases.opens_cpus.Goals as goal

pub loop-number-preserved : goal.loop-number-preserved
loop-number-preserved c =
    let opens : IsTrue c.opens_cpu.result = search rules in
    below_more _ _ c.loop-number.invariant (c.opens_cpu.ensures.0 opens)
