-- The bounds of what the CPUs may hide of an item together.
use Rattle.std.proofs.Common.{length, arith}
use Rattle.vms_calls.specs.Common.{Facts, History, IsLayout, pages, place_of, state_after}
use Rattle.vms_base.proofs.Common.{place_of-lt}
use Rattle.vms_core.specs.Pages.{IsLegal}
use Rattle.vms_drift.specs.PresentCpus.{most_hidden}
use Rattle.vms_drift.proofs.ItemCounters.{item-most, zone_item-most}
use Rattle.vms_history.proofs.Common.{base_can_begin, count_below-least}
use Rattle.vms_near.specs.Hiding.{all_may_hide}
use Rattle.vms_near.specs.HidingBounds.{ItemHidingIsBounded}
use Rattle.vms_near.specs.Slack.{slack_at}
use Rattle.vms_near.proofs.HidingBounds.{hiding-bounded}
use Rattle.vms_near.proofs.ItemSums.{item_count-least}

pub item_hiding-bounded : (facts : Facts) (h : History) → IsLegal facts h → ItemHidingIsBounded facts h
item_hiding-bounded facts h legal i i_in = record {
  by_cpus = omega (
    arith,
    item_count-least facts.layout i (λ k. all_may_hide facts h (place_of facts.layout k))
        (λ k. most_hidden facts.layout (state_after facts h))
        (λ k k_in. (hiding-bounded facts h legal (place_of facts.layout k)
        (place_of-lt facts.layout layout k k_in)).by_cpus),
    item-most facts.layout layout i (most_hidden facts.layout (state_after facts h)),
  );
  by_slacks = λ of_zones. omega (
    arith,
    zone_item-most facts.layout layout i of_zones (all_may_hide facts h),
    count_below-least (all_may_hide facts h) (slack_at facts h) (length facts.layout.zones)
        (λ g zone. (hiding-bounded facts h legal g (omega (arith, zone))).by_slack zone),
  );
}
  where
    layout : IsLayout facts.layout
    layout = (base_can_begin pages facts h legal).layout
