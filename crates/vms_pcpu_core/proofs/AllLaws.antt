-- For other crates too: all laws of a legal history together.
use Rattle.std.proofs.Common.{◌++◌}
use Rattle.vms_history.proofs.Common.{prefix_is_legal}
use Rattle.vms_pcpu_core.specs.declared.steps.PcpuFacts.{PcpuFacts}
use Rattle.vms_pcpu_core.specs.Common.{percpu, History, IsLegal, KeepsLaws}
use Rattle.vms_pcpu_core.proofs.Bounds.{locals-bounded}
use Rattle.vms_pcpu_core.proofs.ByCaller.{AddsByCaller-holds, volumes-kept}
use Rattle.vms_pcpu_core.proofs.DeadLocals.{dead-moves_once}
use Rattle.vms_pcpu_core.proofs.Drift.{counts-drift}
use Rattle.vms_pcpu_core.proofs.Locks.{holder-one}
use Rattle.vms_pcpu_core.proofs.Shapes.{HasShape-state_after}
use Rattle.vms_pcpu_core.proofs.Sizes.{numbers-small}
use Rattle.vms_pcpu_core.proofs.Totals.{totals-kept}

all-kept : (facts : PcpuFacts) (h : History) → IsLegal facts h → KeepsLaws facts h
all-kept facts h legal = record {
  shape = HasShape-state_after facts h legal;
  totals = totals-kept facts h legal;
  local_parts = locals-bounded facts h legal;
  holders = holder-one facts h legal;
  drift = counts-drift facts h legal;
  numbers = numbers-small facts h legal;
  dead_parts = dead-moves_once facts h legal;
  callers = AddsByCaller-holds facts h legal;
  volumes = volumes-kept facts h legal;
}

pub laws-kept : (facts : PcpuFacts) (more h : History) → IsLegal facts (more ++ h) → KeepsLaws facts h
laws-kept facts more h legal = all-kept facts h (prefix_is_legal percpu facts more h legal)
