-- What C is shown of tests for free blocks.
use Rattle.std.specs.Prelude.{◌≡◌, ℕ, ◌-◌, ◌^◌, ℤ, Option, Some, None}
use Rattle.vms_world.specs.Common.{Balance, No, OrderVerdict, PlaceId, WaterMark, Yes}
use Rattle.vms_counters.specs.Handles.{AnyHandle}
use Rattle.vozhkell_c.specs.Calls.{Tells}
use Rattle.vozhkell_c.specs.HandleCalls.{IsOrderedTest, WithPages, as_number, mark_of}
use Rattle.vozhkell_c.specs.Statuses.{call_status, no_mark}
use Rattle.vozhkell_c.specs.declared.order_calls.BalanceAnswer.{BalanceAnswer}
use Rattle.vozhkell_c.specs.declared.order_calls.OrderAnswer.{OrderAnswer}

-- an order, and where there is none the largest number of 32 bits
abbrev pub order_or_most : Option ℕ → ℕ
order_or_most (Some order) = order
order_or_most None = 2 ^ 32 - 1

abbrev pub shown_order : OrderVerdict → OrderAnswer
shown_order verdict = record {
  free = verdict.free;
  yes = as_number verdict.yes;
  fast = as_number verdict.fast;
  order = order_or_most verdict.area;
}

abbrev pub shown_balance : Balance → BalanceAnswer
shown_balance (Yes zone verdict) = record { free = verdict.free; yes = 1; zone = zone.number }
shown_balance No = record { free = 0; yes = 0; zone = 0 }

-- a test of the watermark of a number for an order. Where no watermark has the number, nothing changes
abbrev pub TestsOrderOf : PlaceId → Option WaterMark → ℕ → ℕ → Option AnyHandle → Option AnyHandle → OrderAnswer
    → OrderAnswer → ℤ → Type 0
TestsOrderOf zone None order most new old after before status = (status ≡ no_mark) × (new ≡ old) × (after ≡ before)
TestsOrderOf zone (Some mark) order most new old after before status =
    Tells call_status shown_order (WithPages (IsOrderedTest zone mark order most)) new old after before status

abbrev pub TestsOrder : PlaceId → ℕ → ℕ → ℕ → Option AnyHandle → Option AnyHandle → OrderAnswer → OrderAnswer → ℤ
    → Type 0
TestsOrder zone mark order most new old after before status =
    TestsOrderOf zone (mark_of mark) order most new old after before status
