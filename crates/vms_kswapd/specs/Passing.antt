-- What a test for an order and a balance test say.
use Rattle.std.specs.Prelude.{◌≡◌, ◌≢◌, ℕ, ◌≤◌, true, false, List, ◌++◌, All, Contains, Option, Some}
use Rattle.vms_calls.specs.Common.{Header, PlaceId, High, Area, areas_of, limit_of, IsSnapshot, node_number}
use Rattle.vms_calls.specs.Common.{IsOrderTest, blocks_at, zones_up_to, Facts, Step, free_pages, pages}
use Rattle.vms_look.specs.Common.{SaysTruly, SumsTruly, TellsTruly}
use Rattle.vms_calls.specs.declared.answers.Balance.{Balance}
use Rattle.vms_calls.specs.declared.answers.Balance.TheVariants.{Yes, No}
use Rattle.vms_calls.specs.declared.answers.OrderVerdict.{OrderVerdict}
use Rattle.vms_near.specs.Balances.{FailsTruly}
use Rattle.vms_seats.specs.Common.{Pass, Made}

-- the steps end with a snapshot of the free blocks of zone g of an order or larger, and it isn't 0
pub record FoundBlock (header : Header) (g : PlaceId) (order : ℕ) (steps : List Step) (found : Option ℕ) : Type 0 where
  pub area : Area
  pub declared : Contains (areas_of header.items) area
  pub least : order ≤ area.order
  pub named : found ≡ Some area.order
  pub earlier : List Step
  pub look : List Step
  pub blocks : ℕ
  pub in_order : steps ≡ earlier ++ look
  pub snapshot : IsSnapshot header.layout (blocks_at header.layout g area) look blocks
  pub some : blocks ≢ 0

-- a snapshot of the free blocks of zone g of an order or larger wasn't 0, and what is true of it
pub record CountsBlocks (header : Header) (new old : Pass Facts Step) (g : PlaceId) (order : ℕ) (found : Option ℕ)
    : Type 0 where
  pub area : Area
  pub declared : Contains (areas_of header.items) area
  pub least : order ≤ area.order
  pub named : found ≡ Some area.order
  pub blocks : ℕ
  pub some : blocks ≢ 0
  pub summed : SumsTruly new old (blocks_at header.layout g area) blocks

-- the call made a test of zone g of the node that was yes: the pass stood as `before` says when the test began, and as
-- `after` says when it ended. So the test says what is true of its free pages: where they are no snapshot, they were
-- near the zone's true free pages, and truly there as a yes under the high watermark says; else they are a snapshot.
-- Above order 0 it found a free block as large as was asked for, by a snapshot too.
pub record HasPassed (header : Header) (new old : Pass Facts Step) (n : PlaceId) (order most : ℕ) (g : PlaceId)
    (verdict : OrderVerdict) : Type 0 where
  pub one_of : Contains (zones_up_to header.layout most (node_number header.layout n)) g.number
  pub passed : verdict.yes ≡ true
  pub earlier : List Step
  pub test : List Step
  pub later : List Step
  pub before : Pass Facts Step
  pub after : Pass Facts Step
  pub came : Made pages before old earlier
  pub tested : Made pages after before test
  pub went_on : Made pages new after later
  pub tests : IsOrderTest header g High most order test verdict
  pub near : verdict.fast ≡ true → TellsTruly after before g verdict.free
  pub truly : verdict.fast ≡ true → SaysTruly after before g (limit_of header g.number High most)
  pub summed : verdict.fast ≡ false → SumsTruly after before (free_pages header.layout g) verdict.free
  pub block : order ≢ 0 → FoundBlock header g order test verdict.area
  pub counts : order ≢ 0 → CountsBlocks header after before g order verdict.area

-- a yes names a zone that passed
abbrev pub YesPassed : Header → (new old : Pass Facts Step) → PlaceId → (order most : ℕ) → Balance → Type 0
YesPassed header new old n order most (Yes g verdict) = HasPassed header new old n order most g verdict
YesPassed header new old n order most No = Unit {0}

-- and after a no each zone of the node up to the index failed
abbrev pub NamesPassed : Header → (new old : Pass Facts Step) → PlaceId → (order most : ℕ) → Balance → Type 0
NamesPassed header new old n order most (Yes g verdict) = HasPassed header new old n order most g verdict
NamesPassed header new old n order most No =
    All (FailsTruly header old.facts.base new.seen old.seen old.number most order)
    (zones_up_to header.layout most (node_number header.layout n))
