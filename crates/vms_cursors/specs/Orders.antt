-- The plan of what is left of a test of a zone's high watermark for an order, at each position.
use Rattle.std.specs.Prelude.{◌≡◌, ℕ, suc, ◌≤◌, nat_eq, true, ◌∷◌, Some, is_some}
use Rattle.vms_calls.specs.Common.{Area, Header, High, IsCounter, PlaceId, Shape, areas_from, areas_of, blocks_at}
use Rattle.vms_calls.specs.declared.answers.OrderVerdict.{OrderVerdict}
use Rattle.vms_calls.specs.declared.answers.Verdict.{Verdict}
use Rattle.vms_plans.specs.Common.{Plan, and_then, blocks_plan, either, ends, further_plan, ordered}
use Rattle.vms_cursors.specs.Cursors.{IsUnended}
use Rattle.vms_cursors.specs.Snapshots.{snapshot_at}
use Rattle.vms_cursors.specs.Tests.{test_at}
use Rattle.vms_cursors.specs.declared.blocks.Blocks.{Blocks}
use Rattle.vms_cursors.specs.declared.order_positions.OrderPosition.{OrderPosition}
use Rattle.vms_cursors.specs.declared.order_positions.OrderPosition.TheVariants.{Tests, Counts, Ended}
use Rattle.vms_cursors.specs.declared.turns.Turn.{Turn}

module _ (header : Header) (g : PlaceId) where
  -- these are the blocks of the first area from an order on
  pub record IsFirstFrom (from : ℕ) (blocks : Blocks) : Type 0 where
    pub area : Area
    pub first : areas_from from (areas_of header.items) ≡ area ∷ areas_from (suc area.order) (areas_of header.items)
    pub order : blocks.order ≡ area.order
    pub counter : blocks.counter ≡ blocks_at header.layout g area

  -- after a watermark test with this verdict: a look for a block of an order or larger
  abbrev pub blocks_from : Verdict → ℕ → Plan OrderVerdict
  blocks_from verdict order = and_then (blocks_plan header.layout g (areas_from order (areas_of header.items)))
      (λ area. ends (ordered verdict (is_some area) area))

  -- once the blocks of an order are counted
  abbrev pub counted_plan : Verdict → ℕ → ℕ → Plan OrderVerdict
  counted_plan verdict order blocks =
      either (nat_eq blocks 0) (blocks_from verdict (suc order)) (ends (ordered verdict true (Some order)))

  module _ (turn : Turn) where
    abbrev pub order_at : OrderPosition → Plan OrderVerdict
    order_at (Tests at) =
        and_then (test_at header g High turn.most at) (further_plan header g High turn.most turn.order)
    order_at (Counts verdict blocks at) =
        and_then (snapshot_at header.layout blocks.counter at) (counted_plan verdict blocks.order)
    order_at (Ended verdict) = ends verdict

    -- a step is due at the position, or the test has ended there
    abbrev pub IsOrderSettled : OrderPosition → Type 0
    IsOrderSettled (Tests at) = IsUnended (test_at header g High turn.most at)
    IsOrderSettled (Counts verdict blocks at) = IsUnended (snapshot_at header.layout blocks.counter at)
    IsOrderSettled (Ended verdict) = Unit {0}

-- the blocks are those of an order, and of a zone of the layout
abbrev pub IsOrderWithin : Shape → OrderPosition → Type 0
IsOrderWithin shape (Counts verdict blocks at) = (blocks.order ≤ 10) × IsCounter shape blocks.counter.number
IsOrderWithin shape _ = Unit {0}

abbrev pub IsOrderEnded : OrderPosition → Type 0
IsOrderEnded (Ended verdict) = Unit {0}
IsOrderEnded _ = ⊥
