-- The plan of what is left of a balance test at each position.
use Rattle.std.specs.Prelude.{ℕ, ◌+◌, ◌-◌, nat_eq, nat_le, ◌&&◌, Bool, List, length, map, slice_index_or}
use Rattle.vms_base.specs.Places.{zone_index}
use Rattle.vms_calls.specs.Common.{Header, IsZone, PlaceId, Shape, node_number, node_of_zone}
use Rattle.vms_calls.specs.declared.answers.Balance.{Balance}
use Rattle.vms_calls.specs.declared.answers.Balance.TheVariants.{Yes}
use Rattle.vms_calls.specs.declared.answers.OrderVerdict.{OrderVerdict}
use Rattle.vms_plans.specs.Common.{Plan, and_then, either, ends, zones_plan}
use Rattle.vms_cursors.specs.Kept.{kept_from}
use Rattle.vms_cursors.specs.Orders.{IsOrderEnded, IsOrderSettled, IsOrderWithin, order_at}
use Rattle.vms_cursors.specs.declared.balance_positions.BalancePosition.{BalancePosition}
use Rattle.vms_cursors.specs.declared.balance_positions.BalancePosition.TheVariants.{Zone, Ended}
use Rattle.vms_cursors.specs.declared.turns.Turn.{Turn}

-- a turn tests the zones of its node up to its zone index
abbrev pub tests_zone : Shape → Turn → ℕ → Bool
tests_zone shape turn g = nat_eq (node_of_zone shape g) (node_number shape turn.node)
    && nat_le (slice_index_or (map (λ zone. zone_index zone.kind) shape.zones) g 0) turn.most

-- from zone g on
abbrev pub tested_from : Shape → Turn → ℕ → List ℕ
tested_from shape turn g = kept_from (tests_zone shape turn) g (length shape.zones - g)

module _ (header : Header) (turn : Turn) where
  -- tests from zone g on
  abbrev pub tests_from : ℕ → Plan Balance
  tests_from g = zones_plan header turn.most turn.order (tested_from header.layout turn g)

  -- once a zone is tested
  abbrev pub judged_plan : PlaceId → OrderVerdict → Plan Balance
  judged_plan g verdict = either verdict.yes (ends (Yes g verdict)) (tests_from (g.number + 1))

  abbrev pub balance_at : BalancePosition → Plan Balance
  balance_at (Zone g at) = and_then (order_at header g turn at) (judged_plan g)
  balance_at (Ended balance) = ends balance

  -- a step is due at the position, or the balance test has ended there
  abbrev pub IsBalanceSettled : BalancePosition → Type 0
  IsBalanceSettled (Zone g at) = IsOrderSettled header g turn at × (IsOrderEnded at → ⊥)
  IsBalanceSettled (Ended balance) = Unit {0}

-- the zone is one of the layout
abbrev pub IsBalanceWithin : Shape → BalancePosition → Type 0
IsBalanceWithin shape (Zone g at) = IsZone shape g.number × IsOrderWithin shape at
IsBalanceWithin shape (Ended balance) = Unit {0}

abbrev pub IsBalanceEnded : BalancePosition → Type 0
IsBalanceEnded (Zone g at) = ⊥
IsBalanceEnded (Ended balance) = Unit {0}

-- the balance test has not answered yes
abbrev pub IsUnpassed : BalancePosition → Type 0
IsUnpassed (Ended (Yes g verdict)) = ⊥
IsUnpassed _ = Unit {0}
