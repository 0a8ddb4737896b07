-- The kernel's normal formula is a rule.
use Rattle.vms_phase_lines.proofs.KernelThresholds.{normal-gives}
use Rattle.vms_phase_lines.proofs.calls.write_by_formulas.Goals as goal

pub write_by-requires-clause-normal : goal.write_by-requires-clause-normal
write_by-requires-clause-normal c = record {
  callable = λ size online valid least most. (valid, least, most);
  gives = normal-gives;
}
