-- What a balance test of a node tells of the free pages of its zones.
use Rattle.std.specs.Prelude.{◌≡◌, ◌≢◌, ℕ, ◌+◌, ◌-◌, ◌^◌, ◌<◌, ◌≤◌, ◌⊎◌, Bool, All, Contains, Some}
use Rattle.vms_calls.specs.Common.{Area, Header, High, PlaceId, State, areas_from, areas_of, blocks_at, facts_of}
use Rattle.vms_calls.specs.Common.{limit_of, node_number, zones_up_to, History}
use Rattle.vms_calls.specs.declared.answers.Balance.{Balance}
use Rattle.vms_calls.specs.declared.answers.Balance.TheVariants.{No, Yes}
use Rattle.vms_calls.specs.declared.answers.OrderVerdict.{OrderVerdict}
use Rattle.vms_near.specs.Snapshots.{SumsNearly}
use Rattle.vms_near.specs.Tests.{FreeIsTrue}

-- the free pages of zone g that leave room for a block of an order above the zone's limit of the high watermark: all
-- pages of the block but one are taken off
abbrev pub least_free : Header → (g most order : ℕ) → ℕ
least_free header g most order = limit_of header g High most + (2 ^ order - 1)

-- a zone that passed a balance test: its free pages leave room, and above order 0 a snapshot found a free block as
-- large
pub record PassesTruly (header : Header) (base : State) (later earlier : History) (p : ℕ) (most order : ℕ) (g : PlaceId)
    (verdict : OrderVerdict) : Type 0 where
  pub free : FreeIsTrue (facts_of header base) later earlier p g verdict.free verdict.fast
  pub room : least_free header g.number most order < verdict.free
  pub block : 0 < order → (area : Area) × (blocks : ℕ) × (verdict.area ≡ Some area.order) × (blocks ≢ 0)
      × Contains (areas_from order (areas_of header.items)) area
      × SumsNearly (facts_of header base) later earlier p (blocks_at header.layout g area) blocks

-- a zone that failed one: its free pages leave no room, or snapshots found no free block of the order or a larger one
pub record FailsTruly (header : Header) (base : State) (later earlier : History) (p : ℕ) (most order : ℕ) (g : ℕ)
    : Type 0 where
  pub pages : ℕ
  pub fast : Bool
  pub free : FreeIsTrue (facts_of header base) later earlier p (record { number = g }) pages fast
  pub fails : (pages ≤ least_free header g most order) ⊎ ((0 < order)
      × All (λ area. SumsNearly (facts_of header base) later earlier p
      (blocks_at header.layout (record { number = g }) area) 0) (areas_from order (areas_of header.items)))

-- a balance test of a node: where it says yes the zone that it names passed, and is one of the node's zones up to the
-- index; where it says no each of these failed
abbrev pub BalanceIsTrue : Header → State → (later earlier : History) → ℕ → PlaceId → (order most : ℕ) → Balance
    → Type 0
BalanceIsTrue header base later earlier p n order most (Yes g verdict) =
    Contains (zones_up_to header.layout most (node_number header.layout n)) g.number
    × PassesTruly header base later earlier p most order g verdict
BalanceIsTrue header base later earlier p n order most No =
    All (FailsTruly header base later earlier p most order)
    (zones_up_to header.layout most (node_number header.layout n))
