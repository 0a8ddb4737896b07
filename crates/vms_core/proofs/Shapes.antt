-- For other crates too: the lists of a state in every legal history.
use Rattle.vms_history.proofs.Common.{base_can_begin, state_after-keeps}
use Rattle.vms_core.specs.declared.steps.Facts.{Facts}
use Rattle.vms_core.specs.Common.{HasShape, pages, History, IsLegal, state_after}
use Rattle.vms_core.proofs.Effects.{HasShape-effect}

pub HasShape-state_after : (facts : Facts) (h : History) → IsLegal facts h → HasShape facts.layout (state_after facts h)
HasShape-state_after facts h legal =
    state_after-keeps pages facts (HasShape facts.layout) (base_can_begin pages facts h legal).opening.shaped
    (HasShape-effect facts.layout facts) h
