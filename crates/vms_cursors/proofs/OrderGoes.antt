-- How a test for an order goes on from its parts.
use Rattle.std.proofs.Common.{◌≡◌, ℕ, suc, zero, ◌≤◌, nat_eq, Bool, true, false, List, [], sym, ap, ◌∙◌, arith}
use Rattle.std.proofs.Math.Path.{fun_ext}
use Rattle.std.proofs.lemmas.Bool.Decides.{nat_tests}
use Rattle.std.specs.Prelude.{None, Option, Some, is_some}
use Rattle.vms_calls.specs.Common.{Area, CounterId, Header, High, PlaceId, areas_from, areas_of, blocks_at, has_room}
use Rattle.vms_calls.specs.Common.{limit_of}
use Rattle.vms_calls.specs.declared.answers.OrderVerdict.{OrderVerdict}
use Rattle.vms_calls.specs.declared.answers.Verdict.{Verdict}
use Rattle.vms_plans.specs.Common.{Plan, and_then, blocks_plan, either, ends, further_plan, ordered, snapshot_plan}
use Rattle.vms_cursors.specs.Cursors.{IsUnended}
use Rattle.vms_cursors.specs.Orders.{IsFirstFrom, IsOrderEnded, IsOrderSettled, blocks_from, counted_plan, order_at}
use Rattle.vms_cursors.specs.Snapshots.{snapshot_at}
use Rattle.vms_cursors.specs.Tests.{test_at}
use Rattle.vms_cursors.specs.declared.blocks.Blocks.{Blocks}
use Rattle.vms_cursors.specs.declared.order_positions.OrderPosition.{OrderPosition}
use Rattle.vms_cursors.specs.declared.order_positions.OrderPosition.TheVariants.{Counts, Ended, Tests}
use Rattle.vms_cursors.specs.declared.snapshot_positions.SnapshotPosition.TheVariants.{Begun}
use Rattle.vms_cursors.specs.declared.turns.Turn.{Turn}
use Rattle.vms_cursors.proofs.Followed.{either-followed, followed-unended}
use Rattle.vms_cursors.proofs.PlanEquations.{and_then-assoc}

module _ (header : Header) (g : PlaceId) (verdict : Verdict) where
  abbrev areas : ℕ → List Area
  areas order = areas_from order (areas_of header.items)

  abbrev tell : Option ℕ → Plan OrderVerdict
  tell area = ends (ordered verdict (is_some area) area)

  -- after the blocks of an area are counted
  abbrev counted : Area → List Area → ℕ → Plan (Option ℕ)
  counted area rest blocks =
      either (nat_eq blocks 0) (blocks_plan header.layout g rest) (ends (Some area.order))

  pub none-sought : (from : ℕ) → areas from ≡ []
      → blocks_from header g verdict from ≡ ends (ordered verdict false None)
  none-sought from none = ap (λ xs. and_then (blocks_plan header.layout g xs) tell) none

  counts : CounterId → ℕ → Plan OrderVerdict
  counts k order = and_then (snapshot_plan header.layout k) (counted_plan header g verdict order)

  first-sought : (from : ℕ) (blocks : Blocks) (first : IsFirstFrom header g from blocks)
      → blocks_from header g verdict from ≡ counts (blocks_at header.layout g first.area) first.area.order
  unfolding counts
  first-sought from blocks first =
      let area = first.area in
      let rest = areas (suc area.order) in
      let snapshot = snapshot_plan header.layout (blocks_at header.layout g area) in
      ap (λ xs. and_then (blocks_plan header.layout g xs) tell) first.first
      ∙ and_then-assoc snapshot (counted area rest) tell
      ∙ ap (and_then snapshot) (fun_ext (λ blocks. either-followed (nat_eq blocks 0)
      (blocks_plan header.layout g rest) (ends (Some area.order)) tell))

  pub some-sought : (turn : Turn) (from : ℕ) (blocks : Blocks) → IsFirstFrom header g from blocks
      → blocks_from header g verdict from ≡ order_at header g turn (Counts verdict blocks Begun)
  unfolding counts
  some-sought turn from blocks first =
      first-sought from blocks first
      ∙ ap (λ k. counts k first.area.order) (sym first.counter)
      ∙ ap (counts blocks.counter) (sym first.order)

  -- blocks of an order were found, or none
  pub count-none : (order count : ℕ) → count ≡ 0
      → counted_plan header g verdict order count ≡ blocks_from header g verdict (suc order)
  count-none order count none = ap (counted_plan header g verdict order) none

  pub count-some : (order count : ℕ) → (count ≡ 0 → ⊥)
      → counted_plan header g verdict order count ≡ ends (ordered verdict true (Some order))
  count-some order count some =
      let found : nat_eq count 0 ≡ false = grind (arith, nat_tests) in
      ap (λ b. either b (blocks_from header g verdict (suc order)) (ends (ordered verdict true (Some order)))) found

  module _ (most : ℕ) where
    pub further-none : (order : ℕ) → order ≡ 0
        → further_plan header g High most order verdict ≡ ends (ordered verdict verdict.yes None)
    further-none order none = ap (λ n. further_plan header g High most n verdict) none

    -- above order 0
    further-either : (order : ℕ) → 1 ≤ order → (b : Bool)
        → has_room (limit_of header g.number High most) order verdict.free ≡ b
        → further_plan header g High most order verdict
        ≡ either b (blocks_from header g verdict order) (ends (ordered verdict false None))
    further-either zero some b room = absurd (omega (arith, some))
    further-either (suc n) some b room =
        ap (λ x. either x (blocks_from header g verdict (suc n)) (ends (ordered verdict false None))) room

    pub further-room : (order : ℕ) → 1 ≤ order
        → has_room (limit_of header g.number High most) order verdict.free ≡ true
        → further_plan header g High most order verdict ≡ blocks_from header g verdict order
    further-room order some room = further-either order some true room

    pub further-no_room : (order : ℕ) → 1 ≤ order
        → has_room (limit_of header g.number High most) order verdict.free ≡ false
        → further_plan header g High most order verdict ≡ ends (ordered verdict false None)
    further-no_room order some room = further-either order some false room

-- a test for an order that has not ended
pub order-unended : (header : Header) (g : PlaceId) (turn : Turn) (at : OrderPosition)
    → IsOrderSettled header g turn at → (IsOrderEnded at → ⊥) → IsUnended (order_at header g turn at)
order-unended header g turn (Tests at) settled unended =
    followed-unended (test_at header g High turn.most at) (further_plan header g High turn.most turn.order) settled
order-unended header g turn (Counts verdict blocks at) settled unended =
    followed-unended (snapshot_at header.layout blocks.counter at) (counted_plan header g verdict blocks.order) settled
order-unended header g turn (Ended verdict) settled unended = absurd (unended (tt {0}))
