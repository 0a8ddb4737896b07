-- The plan that is left at each position of a balance test comes to no refusal.
use Rattle.std.proofs.Common.{ℕ, suc, zero, ◌+◌, nat_eq, false, true, List, [], ◌∷◌}
use Rattle.std.specs.Prelude.{None, Some, is_some}
use Rattle.vms_calls.specs.Common.{Area, Header, High, PlaceId, Shape, areas_from, areas_of, blocks_at, has_room}
use Rattle.vms_calls.specs.Common.{limit_of}
use Rattle.vms_calls.specs.declared.answers.Balance.TheVariants.{Yes}
use Rattle.vms_calls.specs.declared.answers.OrderVerdict.{OrderVerdict}
use Rattle.vms_calls.specs.declared.answers.Verdict.{Verdict}
use Rattle.vms_plans.specs.Common.{blocks_plan, either, ends, further_plan, order_plan, ordered, snapshot_plan}
use Rattle.vms_plans.specs.Common.{zones_plan}
use Rattle.vms_cursors.specs.Balances.{balance_at, judged_plan, tested_from, tests_from}
use Rattle.vms_cursors.specs.Orders.{blocks_from, counted_plan, order_at}
use Rattle.vms_cursors.specs.Snapshots.{snapshot_at}
use Rattle.vms_cursors.specs.Tests.{test_at}
use Rattle.vms_cursors.specs.declared.balance_positions.BalancePosition.{BalancePosition}
use Rattle.vms_cursors.specs.declared.balance_positions.BalancePosition.TheVariants as balance
use Rattle.vms_cursors.specs.declared.order_positions.OrderPosition.{OrderPosition}
use Rattle.vms_cursors.specs.declared.order_positions.OrderPosition.TheVariants as order
use Rattle.vms_cursors.specs.declared.snapshot_positions.SnapshotPosition.TheVariants as snapshot
use Rattle.vms_cursors.specs.declared.test_positions.TestPosition.TheVariants as test
use Rattle.vms_cursors.specs.declared.turns.Turn.{Turn}
use Rattle.vms_cursors.proofs.OpenPositions.{IsGood, open-and_then, open-either, snapshot-open, test-open}

module _ (Needs : (ℕ → ℕ → Type 0) → Type 0) where
  blocks-open : (shape : Shape) (g : PlaceId) (areas : List Area) → IsGood Needs (blocks_plan shape g areas)
  blocks-open shape g [] = (tt {0})
  blocks-open shape g (area ∷ areas) = open-and_then Needs (snapshot_plan shape (blocks_at shape g area))
      (λ blocks. either (nat_eq blocks 0) (blocks_plan shape g areas) (ends (Some area.order)))
      (snapshot-open Needs shape (blocks_at shape g area) snapshot.Begun)
      (λ blocks. open-either Needs (nat_eq blocks 0) (blocks_plan shape g areas) (ends (Some area.order))
      (blocks-open shape g areas) (tt {0}))

  module _ (header : Header) (turn : Turn) where
    sought-open : (g : PlaceId) (verdict : Verdict) (from : ℕ) → IsGood Needs (blocks_from header g verdict from)
    sought-open g verdict from =
        open-and_then Needs (blocks_plan header.layout g (areas_from from (areas_of header.items)))
        (λ area. ends (ordered verdict (is_some area) area))
        (blocks-open header.layout g (areas_from from (areas_of header.items))) (λ area. (tt {0}))

    further-open : (g : PlaceId) (n : ℕ) (verdict : Verdict)
        → IsGood Needs (further_plan header g High turn.most n verdict)
    further-open g zero verdict = (tt {0})
    further-open g (suc n) verdict = open-either Needs
        (has_room (limit_of header g.number High turn.most) (suc n) verdict.free)
        (blocks_from header g verdict (suc n)) (ends (ordered verdict false None)) (sought-open g verdict (suc n))
        (tt {0})

    order-open : (g : PlaceId) (at : OrderPosition) → IsGood Needs (order_at header g turn at)
    order-open g (order.Tests at) = open-and_then Needs (test_at header g High turn.most at)
        (further_plan header g High turn.most turn.order) (test-open Needs header g High turn.most at)
        (λ verdict. further-open g turn.order verdict)
    order-open g (order.Counts verdict blocks at) =
        open-and_then Needs (snapshot_at header.layout blocks.counter at) (counted_plan header g verdict blocks.order)
        (snapshot-open Needs header.layout blocks.counter at)
        (λ count. open-either Needs (nat_eq count 0) (blocks_from header g verdict (suc blocks.order))
        (ends (ordered verdict true (Some blocks.order))) (sought-open g verdict (suc blocks.order)) (tt {0}))
    order-open g (order.Ended verdict) = (tt {0})

    pub zones-open : (gs : List ℕ) → IsGood Needs (zones_plan header turn.most turn.order gs)
    zones-open [] = (tt {0})
    zones-open (g ∷ gs) =
        let zone : PlaceId = record { number = g } in
        open-and_then Needs (order_plan header zone High turn.most turn.order)
        (λ (verdict : OrderVerdict). either verdict.yes (ends (Yes zone verdict))
        (zones_plan header turn.most turn.order gs))
        (order-open zone (order.Tests test.Begun))
        (λ verdict. open-either Needs verdict.yes (ends (Yes zone verdict))
        (zones_plan header turn.most turn.order gs) (tt {0}) (zones-open gs))

    pub balance-open : (at : BalancePosition) → IsGood Needs (balance_at header turn at)
    balance-open (balance.Zone g at) = open-and_then Needs (order_at header g turn at) (judged_plan header turn g)
        (order-open g at)
        (λ verdict. open-either Needs verdict.yes (ends (Yes g verdict)) (tests_from header turn (g.number + 1))
        (tt {0}) (zones-open (tested_from header.layout turn (g.number + 1))))
    balance-open (balance.Ended answer) = (tt {0})
