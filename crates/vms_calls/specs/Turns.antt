-- The steps of a test for an order, of a balance test of a node and of a turn of kswapd, and what each answers
-- (`__zone_watermark_ok` of mm/page_alloc.c, `pgdat_balanced` and `kswapd_try_to_sleep` of mm/vmscan.c).
use Rattle.std.specs.Prelude.{◌≡◌, ◌≢◌, ℕ, suc, zero, ◌+◌, ◌-◌, ◌^◌, nat_le, nat_lt, Bool, true, false, List, [], ◌∷◌}
use Rattle.std.specs.Prelude.{◌++◌, map, filter, slice_index_or, Option, Some, None, is_some}
use Rattle.vms_history.specs.Common.{Header, CounterId, PlaceId, WaterMark, High, ZoneSize, Area, areas_of, areas_from}
use Rattle.vms_history.specs.Common.{Shape, counter_at, zone_index, limit_of, after}
use Rattle.vms_core.specs.declared.states.State.{State}
use Rattle.vms_core.specs.declared.steps.Facts.{Facts}
use Rattle.vms_core.specs.declared.steps.Step.{Step}
use Rattle.vms_core.specs.Common.{History}
use Rattle.vms_calls.specs.HeaderFacts.{facts_of}
use Rattle.vms_calls.specs.declared.answers.Balance.{Balance}
use Rattle.vms_calls.specs.declared.answers.Balance.TheVariants.{Yes, No}
use Rattle.vms_calls.specs.declared.answers.OrderVerdict.{OrderVerdict}
use Rattle.vms_calls.specs.declared.answers.Verdict.{Verdict}
use Rattle.vms_calls.specs.Looks.{IsSnapshot, IsWatermarkTest}
use Rattle.vms_calls.specs.Ratings.{SetsPressure, SetsNormal, node_number, zones_on}

-- the counter of an area of zone g
abbrev pub blocks_at : Shape → PlaceId → Area → CounterId
blocks_at shape g area = record { number = counter_at shape g.number area.position }

-- the steps that look for a free block in these areas: snapshots up to the first that isn't 0
pub data FindsBlock (shape : Shape) (g : PlaceId) : List Area → List Step → Option ℕ → Type 0 where
  nowhere : FindsBlock shape g [] [] None
  empty : (area : Area) (areas : List Area) (first rest : List Step) (found : Option ℕ)
      → IsSnapshot shape (blocks_at shape g area) first 0 → FindsBlock shape g areas rest found
      → FindsBlock shape g (area ∷ areas) (first ++ rest) found
  some : (area : Area) (areas : List Area) (steps : List Step) (blocks : ℕ)
      → IsSnapshot shape (blocks_at shape g area) steps blocks → blocks ≢ 0
      → FindsBlock shape g (area ∷ areas) steps (Some area.order)

-- whether more than `limit` of the free pages are left when all pages of a block but one are taken off
abbrev pub has_room : ℕ → ℕ → ℕ → Bool
has_room limit order free = nat_lt (limit + (2 ^ order - 1)) free

-- the steps after those of the watermark test, where blocks above order 0 are asked for, from whether there is room: a
-- look for a block, or none and no
abbrev pub LooksForBlock : Header → PlaceId → ℕ → Bool → List Step → OrderVerdict → Type 0
LooksForBlock header g order true steps answer =
    FindsBlock header.layout g (areas_from order (areas_of header.items)) steps answer.area
    × (answer.yes ≡ is_some answer.area)
LooksForBlock header g order false steps answer = (steps ≡ []) × (answer.yes ≡ false) × (answer.area ≡ None)

-- the same for every order: at order 0 there is none, and the answer is that of the watermark test
abbrev pub Further : Header → PlaceId → WaterMark → (most order : ℕ) → Verdict → List Step → OrderVerdict → Type 0
Further header g mark most zero verdict steps answer =
    (steps ≡ []) × (answer.yes ≡ verdict.yes) × (answer.area ≡ None)
Further header g mark most (suc n) verdict steps answer =
    LooksForBlock header g (suc n) (has_room (limit_of header g.number mark most) (suc n) verdict.free) steps answer

-- a test whether zone g has more free pages than a watermark asks for, and a free block of an order or larger
pub record IsOrderTest (header : Header) (g : PlaceId) (mark : WaterMark) (most order : ℕ) (steps : List Step)
    (answer : OrderVerdict) : Type 0 where
  pub verdict : Verdict
  pub test : List Step
  pub tests : IsWatermarkTest header g mark most test verdict
  pub further : List Step
  pub blocks : Further header g mark most order verdict further answer
  pub in_order : steps ≡ test ++ further
  pub free : answer.free ≡ verdict.free
  pub fast : answer.fast ≡ verdict.fast

-- tests of these zones in order, up to the first that passes: each of the zone's high watermark
pub data Balances (header : Header) (most order : ℕ) : List ℕ → List Step → Balance → Type 0 where
  no_zone : Balances header most order [] [] No
  fails : (g : ℕ) (gs : List ℕ) (first rest : List Step) (verdict : OrderVerdict) (answer : Balance)
      → IsOrderTest header (record { number = g }) High most order first verdict → verdict.yes ≡ false
      → Balances header most order gs rest answer
      → Balances header most order (g ∷ gs) (first ++ rest) answer
  passes : (g : ℕ) (gs : List ℕ) (steps : List Step) (verdict : OrderVerdict)
      → IsOrderTest header (record { number = g }) High most order steps verdict → verdict.yes ≡ true
      → Balances header most order (g ∷ gs) steps (Yes (record { number = g }) verdict)

-- the zones of a node whose zone index is at most `most`
abbrev pub zones_up_to : Shape → ℕ → ℕ → List ℕ
zones_up_to shape most node = filter
    (λ g. nat_le (slice_index_or (map (λ zone. zone_index zone.kind) shape.zones) g 0) most)
    (zones_on shape node)

-- a test whether a node is balanced for an order and a highest zone index
abbrev pub IsBalanceTest : Header → PlaceId → (order most : ℕ) → List Step → Balance → Type 0
IsBalanceTest header n order most steps answer =
    Balances header most order (zones_up_to header.layout most (node_number header.layout n)) steps answer

-- what follows the balance test: after yes the normal thresholds are set, after no nothing
abbrev pub SetsAfterYes : Facts → (ZoneSize → ℕ → ℕ → Type 0) → PlaceId → ℕ → Balance → History → List Step → Type 0
SetsAfterYes facts normal n p (Yes g verdict) h steps = SetsNormal facts normal n p h steps
SetsAfterYes facts normal n p No h steps = steps ≡ []

-- a turn of kswapd on a node, from a state in which a phase of the header began: thresholds under pressure, the balance
-- test, and after yes normal thresholds
pub record IsTurn (header : Header) (base : State) (pressure normal : ZoneSize → ℕ → ℕ → Type 0) (n : PlaceId)
    (order most p : ℕ) (h : History) (steps : List Step) (answer : Balance) : Type 0 where
  pub pressed : List Step
  pub presses : SetsPressure (facts_of header base) pressure normal n p h pressed
  pub test : List Step
  pub tests : IsBalanceTest header n order most test answer
  pub further : List Step
  pub settles : SetsAfterYes (facts_of header base) normal n p answer (after p (pressed ++ test) h) further
  pub in_order : steps ≡ pressed ++ (test ++ further)
