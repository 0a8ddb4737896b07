-- For other crates too: all laws hold of every legal history.
use Rattle.std.proofs.Common.{◌++◌}
use Rattle.vms_history.proofs.Common.{owner_may_own, prefix_is_legal}
use Rattle.vms_group_core.specs.declared.steps.GroupFacts.{GroupFacts}
use Rattle.vms_group_core.specs.Common.{groups, History, IsLegal, KeepsLaws}
use Rattle.vms_group_core.proofs.Bounds.{words-bounded}
use Rattle.vms_group_core.proofs.Carrying.{lives_to_carry}
use Rattle.vms_group_core.proofs.Effects.{HasShape-state_after}
use Rattle.vms_group_core.proofs.Spending.{spent-affordable, changed-spent}
use Rattle.vms_group_core.proofs.Totals.{totals-kept}

laws-kept : (facts : GroupFacts) (h : History) → IsLegal facts h → KeepsLaws facts h
laws-kept facts h legal = record {
  shape = HasShape-state_after facts h legal;
  totals = totals-kept facts h legal;
  spendings = λ g. changed-spent facts h g legal;
  volumes = λ c g. spent-affordable facts h c g legal;
  bounds = words-bounded facts h legal;
  carriers = lives_to_carry facts h legal;
  owners = λ p owner. owner_may_own groups facts h p owner legal;
}

pub beginnings-kept : (facts : GroupFacts) (more h : History) → IsLegal facts (more ++ h) → KeepsLaws facts h
beginnings-kept facts more h legal = laws-kept facts h (prefix_is_legal groups facts more h legal)
