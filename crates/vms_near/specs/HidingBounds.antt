-- What the CPUs may hide of a counter or an item together, beside the bounds that a reader may know in its place.
use Rattle.std.specs.Prelude.{◌≡◌, ℕ, ◌*◌, ◌<◌, ◌≤◌, length}
use Rattle.vms_calls.specs.Common.{Facts, History, IsItem, IsPlace, IsZone, count_below, peak_sum, state_after}
use Rattle.vms_drift.specs.NewestThresholds.{KnowsNewest, online_thresholds}
use Rattle.vms_drift.specs.PresentCpus.{most_hidden, parts_of}
use Rattle.vms_near.specs.Hiding.{all_may_hide, item_may_hide}
use Rattle.vms_near.specs.Slack.{slack_at}

pub record BoundsHiding (facts : Facts) (h : History) (g : ℕ) : Type 0 where
  -- it is at most the peaks of the CPUs that are present, together
  pub by_peaks : all_may_hide facts h g ≤ peak_sum facts g h
  -- 125 pages for each of them
  pub by_cpus : all_may_hide facts h g ≤ most_hidden facts.layout (state_after facts h)
  -- the slack of a zone
  pub by_slack : IsZone facts.layout g → all_may_hide facts h g ≤ slack_at facts h g
  -- and where each CPU that is online acknowledged its newest threshold of a zone, and none is dead, these together
  pub by_newest : IsZone facts.layout g → KnowsNewest facts.layout (state_after facts h) g →
      all_may_hide facts h g ≡ online_thresholds facts.layout (state_after facts h) g

-- at every place
abbrev pub HidingIsBounded : Facts → History → Type 0
HidingIsBounded facts h = (g : ℕ) → IsPlace facts.layout g → BoundsHiding facts h g

pub record BoundsItemHiding (facts : Facts) (h : History) (i : ℕ) : Type 0 where
  -- of an item it is at most 125 pages for each CPU that is present and each zone, or each node if it is one of nodes
  pub by_cpus : item_may_hide facts h i ≤ parts_of facts.layout i * most_hidden facts.layout (state_after facts h)
  -- and of an item of zones at most the slacks of all zones
  pub by_slacks : i < facts.layout.positions →
      item_may_hide facts h i ≤ count_below (slack_at facts h) (length facts.layout.zones)

-- of every item
abbrev pub ItemHidingIsBounded : Facts → History → Type 0
ItemHidingIsBounded facts h = (i : ℕ) → IsItem facts.layout i → BoundsItemHiding facts h i
