-- The steps of a test for an order, of a balance test and of a turn may be made.
use Rattle.std.proofs.Common.{ℕ, suc, zero, ◌<◌, Bool, true, false, nat_eq, nat_le, map, List, ◌++◌, length, Option}
use Rattle.std.proofs.Common.{None, get_or, sym, subst, arith}
use Rattle.std.specs.Prelude.{All}
use Rattle.std.proofs.lemmas.List.Elements.{All-filter, All-head, All-tail}
use Rattle.vms_history.specs.Common.{Header, CpuId, PlaceId, WaterMark, High, ZoneName, ZoneSize, Area, areas_of}
use Rattle.vms_history.specs.Common.{areas_from, IsHeader, IsLayout, IsZone, zone_index, node_of_zone, IsValidSize}
use Rattle.vms_history.specs.Common.{size_at, GivesThresholds, limit_of, after, owner_in}
use Rattle.vms_history.proofs.Common.{after-steps}
use Rattle.vms_core.specs.declared.states.State.{State}
use Rattle.vms_core.specs.declared.steps.Facts.{Facts}
use Rattle.vms_core.specs.declared.steps.Step.{Step}
use Rattle.vms_core.specs.Common.{History, role}
use Rattle.vms_core.proofs.Common.{counter_at-known}
use Rattle.vms_calls.specs.Common.{facts_of, MakesOrderTest, MakesBalanceTest, MakesTurn, ByNormal, ByPressure}
use Rattle.vms_calls.specs.Common.{node_number, numbers_below, zones_on, FindsBlock, Further, LooksForBlock, Balances}
use Rattle.vms_calls.specs.Common.{IsOrderTest, IsBalanceTest, IsTurn, SetsAfterYes, has_room, blocks_at, zones_up_to}
use Rattle.vms_calls.specs.Common.{nowhere, empty, some, no_zone, fails, passes}
use Rattle.vms_calls.specs.declared.answers.Verdict.{Verdict}
use Rattle.vms_calls.specs.declared.answers.OrderVerdict.{OrderVerdict}
use Rattle.vms_calls.specs.declared.answers.Balance.{Balance}
use Rattle.vms_calls.specs.declared.answers.Balance.TheVariants.{Yes, No}
use Rattle.vms_calls.proofs.AreaItems.{AreItems, areas-items}
use Rattle.vms_calls.proofs.ChoiceRanges.{normal-gives, pressure-gives}
use Rattle.vms_calls.proofs.ControlCalls.{valid_sizes, control-may}
use Rattle.vms_calls.proofs.LookRuns.{snapshot-runs, test-runs}
use Rattle.vms_calls.proofs.MayBegin.{call-begins}
use Rattle.vms_calls.proofs.StepRuns.{Runs, runs-append, runs-then, runs-may}
use Rattle.vms_calls.proofs.VisitRuns.{numbers_below-below, node-runs}

module _ (facts : Facts) (layout : IsLayout facts.layout) (p : ℕ) (who : Option CpuId) where
  -- each of these steps may be made
  abbrev May : List Step → History → Type 0
  May steps h = Runs facts p who steps h (λ now. Unit {0})

  may-append : (xs ys : List Step) (h : History) → May xs h → May ys (after p xs h) → May (xs ++ ys) h
  may-append xs ys h first second = runs-append facts p who xs ys h (λ now. Unit {0})
      (runs-then facts p who xs h (λ now. May ys now) first second)

  finds-runs : (g : PlaceId) → IsZone facts.layout g.number
      → (areas : List Area) (steps : List Step) (found : Option ℕ) (h : History)
      → AreItems facts.layout areas → FindsBlock facts.layout g areas steps found → May steps h
  finds-runs g zone areas steps found h items nowhere = tt
  finds-runs g zone areas steps found h items (empty area areas' first more found' snapshot later) =
      may-append first more h
      (snapshot-runs facts layout p who (blocks_at facts.layout g area) first 0 h
      (counter_at-known facts.layout layout g.number area.position (omega arith)
      (All-head (λ a. a.position < facts.layout.positions) area areas' items)) snapshot)
      (finds-runs g zone areas' more found' (after p first h)
      (All-tail (λ a. a.position < facts.layout.positions) area areas' items) later)
  finds-runs g zone areas steps found h items (some area areas' steps' blocks snapshot there) =
      snapshot-runs facts layout p who (blocks_at facts.layout g area) steps' blocks h
      (counter_at-known facts.layout layout g.number area.position (omega arith)
      (All-head (λ a. a.position < facts.layout.positions) area areas' items)) snapshot

-- the tests, in a phase of a valid header
module _ (header : Header) (valid : IsHeader header) (base : State) (p : ℕ) (who : Option CpuId) where
  -- each of these steps may be made
  abbrev MayHere : List Step → History → Type 0
  MayHere steps h = May (facts_of header base) valid.is_layout p who steps h

  items : AreItems header.layout (areas_of header.items)
  items = areas-items header valid

  blocks-runs : (g : PlaceId) → IsZone header.layout g.number
      → (n : ℕ) (room : Bool) (steps : List Step) (answer : OrderVerdict) (h : History)
      → LooksForBlock header g n room steps answer → MayHere steps h
  blocks-runs g zone n true steps answer h blocks =
      finds-runs (facts_of header base) valid.is_layout p who g zone (areas_from n (areas_of header.items)) steps
      answer.area h
      (All-filter (λ area. nat_le n area.order) (λ a. a.position < header.layout.positions)
      (areas_of header.items) items) blocks.0
  blocks-runs g zone n false steps answer h blocks = subst (λ ks. MayHere ks h) (sym blocks.0) tt

  beyond-runs : (g : PlaceId) → IsZone header.layout g.number
      → (mark : WaterMark) (most order : ℕ) (verdict : Verdict) (steps : List Step) (answer : OrderVerdict)
      (h : History)
      → Further header g mark most order verdict steps answer → MayHere steps h
  beyond-runs g zone mark most zero verdict steps answer h blocks = subst (λ ks. MayHere ks h) (sym blocks.0) tt
  beyond-runs g zone mark most (suc n) verdict steps answer h blocks =
      blocks-runs g zone (suc n) (has_room (limit_of header g.number mark most) (suc n) verdict.free) steps answer h
      blocks

  pub order-runs : (g : PlaceId) → IsZone header.layout g.number
      → (mark : WaterMark) (most order : ℕ) (steps : List Step) (answer : OrderVerdict) (h : History)
      → IsOrderTest header g mark most order steps answer → MayHere steps h
  order-runs g zone mark most order steps answer h call = subst (λ ks. MayHere ks h) (sym call.in_order)
      (may-append (facts_of header base) valid.is_layout p who call.test call.further h
      (test-runs header base valid.is_layout p who g mark most call.test call.verdict h zone call.tests)
      (beyond-runs g zone mark most order call.verdict call.further answer (after p call.test h) call.blocks))

  balances-runs : (most order : ℕ) (gs : List ℕ) (steps : List Step) (answer : Balance) (h : History)
      → All (IsZone header.layout) gs → Balances header most order gs steps answer → MayHere steps h
  balances-runs most order gs steps answer h zones no_zone = tt
  balances-runs most order gs steps answer h zones (fails g gs' first more verdict answer' test failed later) =
      may-append (facts_of header base) valid.is_layout p who first more h
      (order-runs (record { number = g }) (All-head (IsZone header.layout) g gs' zones) High most
      order first verdict h test)
      (balances-runs most order gs' more answer' (after p first h) (All-tail (IsZone header.layout) g gs' zones)
      later)
  balances-runs most order gs steps answer h zones (passes g gs' steps' verdict test passed) =
      order-runs (record { number = g }) (All-head (IsZone header.layout) g gs' zones) High most
      order steps' verdict h test

  pub balance-runs : (n : PlaceId) (order most : ℕ) (steps : List Step) (answer : Balance) (h : History)
      → IsBalanceTest header n order most steps answer → MayHere steps h
  balance-runs n order most steps answer h call =
      let node = node_number header.layout n in
      balances-runs most order (zones_up_to header.layout most node) steps answer h
      (All-filter (λ g. nat_le (get_or (map (λ (zone : ZoneName). zone_index zone.kind) header.layout.zones) g 0)
      most) (IsZone header.layout)
      (zones_on header.layout node)
      (All-filter (λ g. nat_eq (node_of_zone header.layout g) node) (IsZone header.layout)
      (numbers_below (length header.layout.zones))
      (numbers_below-below (length header.layout.zones))))
      call

pub order-may : MakesOrderTest
order-may header base h p g mark most order valid living zone =
    let facts = facts_of header base in
    call-begins facts p h (λ steps. (answer : OrderVerdict) × IsOrderTest header g mark most order steps answer)
    (λ steps call. runs-may facts p h living steps
    (order-runs header valid base p (owner_in role h p) g zone mark most order steps call.0 h call.1))

pub balance-may : MakesBalanceTest
balance-may header base h p n order most valid living =
    let facts = facts_of header base in
    call-begins facts p h (λ steps. (answer : Balance) × IsBalanceTest header n order most steps answer)
    (λ steps call. runs-may facts p h living steps
    (balance-runs header valid base p (owner_in role h p) n order most steps call.0 h call.1))

module _ (pressure normal : ZoneSize → ℕ → ℕ → Type 0) (pressures : GivesThresholds pressure)
    (normals : GivesThresholds normal) (header : Header) (valid : IsHeader header) (base : State)
    (size : (z : ℕ) → IsZone header.layout z → IsValidSize (size_at header.sizes z)) (p : ℕ) (n : PlaceId) where
  settles-runs : (answer : Balance) (h : History) (steps : List Step)
      → SetsAfterYes (facts_of header base) normal n p answer h steps → MayHere header valid base p None steps h
  settles-runs (Yes g verdict) h steps settles =
      node-runs (facts_of header base) valid.is_layout size p (ByNormal normal) (normal-gives normal normals)
      n h steps settles
  settles-runs No h steps settles = subst (λ ks. MayHere header valid base p None ks h) (sym settles) tt

  pub turn-runs : (order most : ℕ) (h : History) (steps : List Step) (answer : Balance)
      → IsTurn header base pressure normal n order most p h steps answer → MayHere header valid base p None steps h
  turn-runs order most h steps answer call =
      let facts = facts_of header base in
      subst (λ ks. MayHere header valid base p None ks h) (sym call.in_order)
      (may-append facts valid.is_layout p None call.pressed (call.test ++ call.further) h
      (node-runs facts valid.is_layout size p (ByPressure pressure normal)
      (pressure-gives pressure normal pressures normals) n h call.pressed call.presses)
      (may-append facts valid.is_layout p None call.test call.further (after p call.pressed h)
      (balance-runs header valid base p None n order most call.test answer (after p call.pressed h) call.tests)
      (settles-runs answer (after p call.test (after p call.pressed h)) call.further
      (subst (λ now. SetsAfterYes facts normal n p answer now call.further) (after-steps p call.pressed call.test h)
      call.settles))))

pub turn-may : (pressure normal : ZoneSize → ℕ → ℕ → Type 0) → GivesThresholds pressure → GivesThresholds normal
    → MakesTurn pressure normal
turn-may pressure normal pressures normals header base h p n order most valid controls =
    let facts = facts_of header base in
    call-begins facts p h
    (λ steps. (answer : Balance) × IsTurn header base pressure normal n order most p h steps answer)
    (λ steps call. control-may facts h p controls steps
    (turn-runs pressure normal pressures normals header valid base
    (valid_sizes facts h p controls) p n order most h steps call.0 call.1))
