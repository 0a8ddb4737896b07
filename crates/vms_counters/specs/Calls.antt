-- What the calls of a handle on page counters make, and when they are refused.
use Rattle.std.specs.Prelude.{◌≡◌, ℕ, ◌+◌, ◌<◌, ◌≤◌, ℤ, List, slice_index_or, slice_set, unsigned_abs}
use Rattle.vms_world.specs.Common.{IsNode, most_sets, CounterId, IsCounter, IsZone, Mode, PlaceId, Shape, Step}
use Rattle.vms_world.specs.Common.{most_volume, pages}
use Rattle.vms_core.specs.Pages.{state_after}
use Rattle.vms_words.specs.Common.{largest_sets}
use Rattle.vms_count.specs.Common.{HasChanged}
use Rattle.vms_seats.specs.Common.{Made}
use Rattle.vms_counters.specs.declared.errors.CallError.{CallError}
use Rattle.vms_counters.specs.declared.errors.CallError.TheVariants.{NoCounter, NoNode, NoOrder, NoZone, NoZoneIndex}
use Rattle.vms_counters.specs.declared.errors.CallError.TheVariants.{TooMuch, TooOften}
use Rattle.vms_counters.specs.Handles.{PageHandle}

-- the layout of a handle's page counters
abbrev pub layout_of : PageHandle → Shape
layout_of handle = handle.pass.facts.layout

-- what a handle's CPU has changed a counter by
abbrev pub changed_by : PageHandle → CounterId → ℕ
changed_by handle k = slice_index_or handle.volume k.number 0

-- a handle changed a counter by the steps of a change, and its volume grew by the size of the change
pub record Changes (new old : PageHandle) (k : CounterId) (delta : ℤ) (how : Mode) : Type 0 where
  pub counter : IsCounter (layout_of old) k.number
  pub affordable : changed_by old k + unsigned_abs delta ≤ most_volume
  pub header : new.header ≡ old.header
  pub changed : HasChanged (layout_of old) new.pass old.pass k delta how
  pub volume : new.volume ≡ slice_set old.volume k.number (changed_by old k + unsigned_abs delta)

-- why a change is refused, with the handle as it was: the layout has no such counter, or the CPU would have changed it
-- by more than a run may
abbrev pub RefusesChange : PageHandle → PageHandle → CounterId → ℤ → CallError → Type 0
RefusesChange new old k delta (NoCounter n) =
    (n ≡ k.number) × (IsCounter (layout_of old) k.number → ⊥) × (new ≡ old)
RefusesChange new old k delta (TooMuch overflow) =
    (overflow ≡ record { volume = changed_by old k; size = unsigned_abs delta })
    × IsCounter (layout_of old) k.number × (most_volume < changed_by old k + unsigned_abs delta) × (new ≡ old)
RefusesChange new old k delta _ = ⊥

-- a handle made the steps of a call on what the layout has, and its volumes stayed
pub record Makes (known : Type 0) (IsCall : List Step → Type 0) (new old : PageHandle) : Type 0 where
  pub is_known : known
  pub header : new.header ≡ old.header
  pub steps : List Step
  pub is_call : IsCall steps
  pub made : Made pages new.pass old.pass steps
  pub volume : new.volume ≡ old.volume

-- a call is refused for what the layout doesn't have, with the handle as it was
pub record Refuses (known : Type 0) (cause : CallError) (new old : PageHandle) (error : CallError) : Type 0 where
  pub unknown : known → ⊥
  pub told : error ≡ cause
  pub same : new ≡ old

-- a zone of the layout, and a zone index
abbrev pub IsZoneTest : Shape → PlaceId → ℕ → Type 0
IsZoneTest shape zone most = IsZone shape zone.number × (most ≤ 3)

-- why a test of a zone is refused
abbrev pub RefusesZoneTest : PageHandle → PageHandle → PlaceId → ℕ → CallError → Type 0
RefusesZoneTest new old zone most (NoZone n) =
    (n ≡ zone.number) × (IsZone (layout_of old) zone.number → ⊥) × (new ≡ old)
RefusesZoneTest new old zone most (NoZoneIndex n) =
    (n ≡ most) × IsZone (layout_of old) zone.number × (3 < most) × (new ≡ old)
RefusesZoneTest new old zone most _ = ⊥

-- the same with an order of free blocks, and of a node
abbrev pub IsOrderedTest : Shape → PlaceId → ℕ → ℕ → Type 0
IsOrderedTest shape zone order most = IsZone shape zone.number × (order ≤ 10) × (most ≤ 3)

abbrev pub IsNodeTest : Shape → PlaceId → ℕ → ℕ → Type 0
IsNodeTest shape node order most = IsNode shape node.number × (order ≤ 10) × (most ≤ 3)

-- why such a test is refused: what is asked of the zone or the node first, then of the order, then of the zone index
abbrev pub RefusesOrderTest : PageHandle → PageHandle → PlaceId → ℕ → ℕ → CallError → Type 0
RefusesOrderTest new old zone order most (NoZone n) =
    (n ≡ zone.number) × (IsZone (layout_of old) zone.number → ⊥) × (new ≡ old)
RefusesOrderTest new old zone order most (NoOrder n) =
    (n ≡ order) × IsZone (layout_of old) zone.number × (10 < order) × (new ≡ old)
RefusesOrderTest new old zone order most (NoZoneIndex n) =
    (n ≡ most) × IsZone (layout_of old) zone.number × (order ≤ 10) × (3 < most) × (new ≡ old)
RefusesOrderTest new old zone order most _ = ⊥

abbrev pub RefusesNodeTest : PageHandle → PageHandle → PlaceId → ℕ → ℕ → CallError → Type 0
RefusesNodeTest new old node order most (NoNode n) =
    (n ≡ node.number) × (IsNode (layout_of old) node.number → ⊥) × (new ≡ old)
RefusesNodeTest new old node order most (NoOrder n) =
    (n ≡ order) × IsNode (layout_of old) node.number × (10 < order) × (new ≡ old)
RefusesNodeTest new old node order most (NoZoneIndex n) =
    (n ≡ most) × IsNode (layout_of old) node.number × (order ≤ 10) × (3 < most) × (new ≡ old)
RefusesNodeTest new old node order most _ = ⊥

-- how often any one threshold or mark was set at most, as the pass of a handle knows it
abbrev pub sets_of : PageHandle → ℕ
sets_of handle = largest_sets (layout_of handle) (state_after handle.pass.facts handle.pass.seen)

-- why thresholds aren't set: the layout has no such node, or so many more sets would be one too many
abbrev pub RefusesRating : ℕ → PageHandle → PageHandle → PlaceId → CallError → Type 0
RefusesRating further new old node (NoNode n) =
    (n ≡ node.number) × (IsNode (layout_of old) node.number → ⊥) × (new ≡ old)
RefusesRating further new old node TooOften =
    IsNode (layout_of old) node.number × (most_sets ≤ further + sets_of old) × (new ≡ old)
RefusesRating further new old node _ = ⊥

abbrev pub RefusesRefresh : PageHandle → PageHandle → CallError → Type 0
RefusesRefresh new old TooOften = (most_sets ≤ sets_of old) × (new ≡ old)
RefusesRefresh new old _ = ⊥

-- why kswapd takes no turn
abbrev pub RefusesTurn : PageHandle → PageHandle → PlaceId → ℕ → ℕ → CallError → Type 0
RefusesTurn new old node order most TooOften =
    IsNodeTest (layout_of old) node order most × (most_sets ≤ 1 + sets_of old) × (new ≡ old)
RefusesTurn new old node order most error = RefusesNodeTest new old node order most error
