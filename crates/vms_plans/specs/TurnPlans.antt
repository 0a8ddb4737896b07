-- The plans of a test for an order, of a balance test and of a turn of kswapd.
use Rattle.std.specs.Prelude.{ℕ, zero, suc, nat_eq, Bool, false, List, [], ◌∷◌, Option, Some, None, is_some}
use Rattle.vms_calls.specs.Common.{Header, PlaceId, WaterMark, High, ZoneSize, Area, areas_of, areas_from, Shape}
use Rattle.vms_calls.specs.Common.{limit_of, State, History, facts_of, ByNormal, ByPressure, node_number, blocks_at}
use Rattle.vms_calls.specs.Common.{has_room, zones_up_to}
use Rattle.vms_calls.specs.declared.answers.Balance.{Balance}
use Rattle.vms_calls.specs.declared.answers.Balance.TheVariants.{Yes, No}
use Rattle.vms_calls.specs.declared.answers.OrderVerdict.{OrderVerdict}
use Rattle.vms_calls.specs.declared.answers.Verdict.{Verdict}
use Rattle.vms_plans.specs.LookPlans.{snapshot_plan, test_plan}
use Rattle.vms_plans.specs.Plans.{Plan, ends, either, and_then, recorded}
use Rattle.vms_plans.specs.RatingPlans.{node_plan}

-- the order of the first of these areas whose snapshot isn't 0
abbrev pub blocks_plan : Shape → PlaceId → List Area → Plan (Option ℕ)
blocks_plan shape g [] = ends None
blocks_plan shape g (area ∷ areas) = and_then (snapshot_plan shape (blocks_at shape g area))
    (λ blocks. either (nat_eq blocks 0) (blocks_plan shape g areas) (ends (Some area.order)))

-- the verdict of a test for an order
abbrev pub ordered : Verdict → Bool → Option ℕ → OrderVerdict
ordered verdict passed area = record { yes = passed; free = verdict.free; fast = verdict.fast; area = area }

-- what follows the watermark test
abbrev pub further_plan : Header → PlaceId → WaterMark → (most order : ℕ) → Verdict → Plan OrderVerdict
further_plan header g mark most zero verdict = ends (ordered verdict verdict.yes None)
further_plan header g mark most (suc n) verdict =
    either (has_room (limit_of header g.number mark most) (suc n) verdict.free)
    (and_then (blocks_plan header.layout g (areas_from (suc n) (areas_of header.items)))
    (λ area. ends (ordered verdict (is_some area) area)))
    (ends (ordered verdict false None))

-- a test of a zone for an order
abbrev pub order_plan : Header → PlaceId → WaterMark → (most order : ℕ) → Plan OrderVerdict
order_plan header g mark most order =
    and_then (test_plan header g mark most) (further_plan header g mark most order)

-- tests of these zones up to the first that passes
abbrev pub zones_plan : Header → (most order : ℕ) → List ℕ → Plan Balance
zones_plan header most order [] = ends No
zones_plan header most order (g ∷ gs) = and_then (order_plan header (record { number = g }) High most order)
    (λ (verdict : OrderVerdict). either verdict.yes (ends (Yes (record { number = g }) verdict))
    (zones_plan header most order gs))

-- a balance test
abbrev pub balance_plan : Header → PlaceId → (order most : ℕ) → Plan Balance
balance_plan header n order most =
    zones_plan header most order (zones_up_to header.layout most (node_number header.layout n))

-- a turn: thresholds under pressure, the balance test, and after yes normal thresholds
module _ (header : Header) (base : State) (pressure normal : ZoneSize → ℕ → ℕ → Type 0) (n : PlaceId) (p : ℕ) where
  abbrev pub settles_plan : Balance → History → Plan Balance
  settles_plan (Yes g verdict) h =
      and_then (node_plan (facts_of header base) p (ByNormal normal) n h) (λ done. ends (Yes g verdict))
  settles_plan No h = ends No

  abbrev pub turn_plan : (order most : ℕ) → History → Plan Balance
  turn_plan order most h =
      and_then (recorded p h (node_plan (facts_of header base) p (ByPressure pressure normal) n h))
      (λ (pressed : Unit {0} × History).
      and_then (recorded p pressed.1 (balance_plan header n order most))
      (λ (settled : Balance × History). settles_plan settled.0 settled.1))
