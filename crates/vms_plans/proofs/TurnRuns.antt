-- For other crates too: the steps of a test for an order, of a balance test and of a turn of kswapd are those that run
-- through their plans.
use Rattle.std.proofs.Common.{◌≡◌, ℕ, suc, zero, nat_eq, Bool, true, false, List, [], ◌∷◌, ◌++◌, refl, sym, ap, subst}
use Rattle.std.proofs.Common.{◌∙◌, append-nil, true≢false, Option, Some, None, is_some}
use Rattle.std.proofs.lemmas.Bool.{eqb-true, ne_eqb}
use Rattle.vms_calls.specs.Common.{Header, PlaceId, WaterMark, High, ZoneSize, Area, areas_of, areas_from, Shape}
use Rattle.vms_calls.specs.Common.{limit_of, after, State, Step, History, facts_of, ByNormal, ByPressure, FindsBlock}
use Rattle.vms_calls.specs.Common.{Further, LooksForBlock, Balances, IsBalanceTest, IsOrderTest, IsSnapshot, IsTurn}
use Rattle.vms_calls.specs.Common.{SetsAfterYes, blocks_at, empty, fails, has_room, no_zone, node_number, nowhere}
use Rattle.vms_calls.specs.Common.{passes, some, zones_up_to}
use Rattle.vms_history.proofs.Common.{after-steps}
use Rattle.vms_calls.specs.declared.answers.Balance.{Balance}
use Rattle.vms_calls.specs.declared.answers.Balance.TheVariants.{Yes, No}
use Rattle.vms_calls.specs.declared.answers.OrderVerdict.{OrderVerdict}
use Rattle.vms_calls.specs.declared.answers.Verdict.{Verdict}
use Rattle.vms_plans.specs.Common.{Plan, Runs, and_then, either, ends, recorded, snapshot_plan, test_plan, node_plan}
use Rattle.vms_plans.specs.Common.{blocks_plan, ordered, further_plan, order_plan, zones_plan, balance_plan}
use Rattle.vms_plans.specs.Common.{settles_plan, turn_plan}
use Rattle.vms_plans.proofs.PlanLaws.{runs-and_then, splits-and_then, runs-and_after, splits-and_after, runs-answering}
use Rattle.vms_plans.proofs.PlanLaws.{told-answering, ends_only}
use Rattle.vms_plans.proofs.LookRuns.{snapshot-runs, snapshot-told, test-runs, test-told}
use Rattle.vms_plans.proofs.RatingRuns.{node-runs, node-told}

module _ (shape : Shape) (g : PlaceId) where
  -- what follows the snapshot of an area
  abbrev found_or : Area → List Area → ℕ → Plan (Option ℕ)
  found_or area areas blocks = either (nat_eq blocks 0) (blocks_plan shape g areas) (ends (Some area.order))

  blocks-run : (areas : List Area) (steps : List Step) (found : Option ℕ) → FindsBlock shape g areas steps found
      → Runs (blocks_plan shape g areas) steps found
  blocks-run areas steps found nowhere = refl
  blocks-run areas steps found (empty area areas' first rest found' snapshot later) =
      runs-and_then (snapshot_plan shape (blocks_at shape g area)) (found_or area areas') first rest 0 found'
      (snapshot-runs shape (blocks_at shape g area) first 0 snapshot) (blocks-run areas' rest found' later)
  blocks-run areas steps found (some area areas' steps' blocks snapshot there) =
      subst (λ ks. Runs (blocks_plan shape g (area ∷ areas')) ks (Some area.order)) (append-nil steps')
      (runs-and_then (snapshot_plan shape (blocks_at shape g area)) (found_or area areas') steps' [] blocks
      (Some area.order) (snapshot-runs shape (blocks_at shape g area) steps' blocks snapshot)
      (subst (λ b. Runs (either b (blocks_plan shape g areas') (ends (Some area.order))) [] (Some area.order))
      (sym (ne_eqb blocks 0 there)) refl))

  blocks-told : (areas : List Area) (steps : List Step) (found : Option ℕ)
      → Runs (blocks_plan shape g areas) steps found → FindsBlock shape g areas steps found
  blocks-told [] steps found run =
      let last = ends_only None found steps run in
      subst (λ ks. FindsBlock shape g [] ks found) (sym last.0)
      (subst (FindsBlock shape g [] []) last.1 nowhere)
  blocks-told (area ∷ areas) steps found run =
      let parts = splits-and_then (snapshot_plan shape (blocks_at shape g area)) (found_or area areas) steps found run in
      by parts.first parts.rest parts.answer parts.in_order
      (snapshot-told shape (blocks_at shape g area) parts.first parts.answer parts.run)
      (λ run. blocks-told areas parts.rest found run) (nat_eq parts.answer 0) refl parts.later
    where
      by : (first rest : List Step) (blocks : ℕ) → steps ≡ first ++ rest
          → IsSnapshot shape (blocks_at shape g area) first blocks
          → (Runs (blocks_plan shape g areas) rest found → FindsBlock shape g areas rest found)
          → (b : Bool) → nat_eq blocks 0 ≡ b
          → Runs (either b (blocks_plan shape g areas) (ends (Some area.order))) rest found
          → FindsBlock shape g (area ∷ areas) steps found
      by first rest blocks in_order snapshot others true is later =
          subst (λ ks. FindsBlock shape g (area ∷ areas) ks found) (sym in_order)
          (empty area areas first rest found
          (subst (IsSnapshot shape (blocks_at shape g area) first) (eqb-true blocks 0 is) snapshot) (others later))
      by first rest blocks in_order snapshot others false is later =
          let last = ends_only (Some area.order) found rest later in
          let whole : steps ≡ first = in_order ∙ ap (λ ks. first ++ ks) last.0 ∙ append-nil first in
          subst (λ ks. FindsBlock shape g (area ∷ areas) ks found) (sym whole)
          (subst (FindsBlock shape g (area ∷ areas) first) last.1
          (some area areas first blocks snapshot
          (λ e. true≢false (ap (λ n. nat_eq n 0) (sym e) ∙ is))))

module _ (header : Header) (g : PlaceId) (mark : WaterMark) (most : ℕ) where
  -- what makes the verdict of a test for an order
  ordered-is : (verdict : Verdict) (answer : OrderVerdict) (passed : Bool) (area : Option ℕ)
      → answer.free ≡ verdict.free → answer.fast ≡ verdict.fast → answer.yes ≡ passed → answer.area ≡ area
      → ordered verdict passed area ≡ answer
  ordered-is verdict answer passed area free fast same_yes same_area =
      let made : Bool → ℕ → Bool → Option ℕ → OrderVerdict =
      λ y f q a. record { yes = y; free = f; fast = q; area = a } in
      ap (λ y. made y verdict.free verdict.fast area) (sym same_yes)
      ∙ ap (λ f. made answer.yes f verdict.fast area) (sym free)
      ∙ ap (λ q. made answer.yes answer.free q area) (sym fast)
      ∙ ap (λ a. made answer.yes answer.free answer.fast a) (sym same_area)

  module _ (verdict : Verdict) (answer : OrderVerdict) where
    abbrev looks_for : ℕ → Bool → Plan OrderVerdict
    looks_for n room = either room
        (and_then (blocks_plan header.layout g (areas_from n (areas_of header.items)))
        (λ area. ends (ordered verdict (is_some area) area)))
        (ends (ordered verdict false None))

    block-runs : (n : ℕ) (room : Bool) (steps : List Step) → LooksForBlock header g n room steps answer
        → answer.free ≡ verdict.free → answer.fast ≡ verdict.fast → Runs (looks_for n room) steps answer
    block-runs n true steps blocks free fast =
        let areas = areas_from n (areas_of header.items) in
        subst (Runs (looks_for n true) steps)
        (ordered-is verdict answer (is_some answer.area) answer.area free fast blocks.1 refl)
        (runs-answering (blocks_plan header.layout g areas) (λ area. ordered verdict (is_some area) area) steps
        answer.area (blocks-run header.layout g areas steps answer.area blocks.0))
    block-runs n false steps blocks free fast =
        subst (λ ks. Runs (looks_for n false) ks answer) (sym blocks.0)
        (ordered-is verdict answer false None free fast blocks.1 blocks.2)

    further-runs : (order : ℕ) (steps : List Step) → Further header g mark most order verdict steps answer
        → answer.free ≡ verdict.free → answer.fast ≡ verdict.fast
        → Runs (further_plan header g mark most order verdict) steps answer
    further-runs zero steps blocks free fast =
        subst (λ ks. Runs (further_plan header g mark most zero verdict) ks answer) (sym blocks.0)
        (ordered-is verdict answer verdict.yes None free fast blocks.1 blocks.2)
    further-runs (suc n) steps blocks free fast =
        block-runs (suc n) (has_room (limit_of header g.number mark most) (suc n) verdict.free) steps blocks free fast

    record ToldFurther (Blocks : List Step → Type 0) (steps : List Step) : Type 0 where
      blocks : Blocks steps
      free : answer.free ≡ verdict.free
      fast : answer.fast ≡ verdict.fast

    block-told : (n : ℕ) (room : Bool) (steps : List Step) → Runs (looks_for n room) steps answer
        → ToldFurther (λ ks. LooksForBlock header g n room ks answer) steps
    block-told n true steps run =
        let areas = areas_from n (areas_of header.items) in
        let told = told-answering (blocks_plan header.layout g areas) (λ area. ordered verdict (is_some area) area)
        steps answer run in
        let area : told.0 ≡ answer.area = ap (λ (v : OrderVerdict). v.area) told.2 in
        record {
          blocks = (
            subst (FindsBlock header.layout g areas steps) area (blocks-told header.layout g areas steps told.0 told.1),
            sym (ap (λ (v : OrderVerdict). v.yes) told.2) ∙ ap is_some area,
          );
          free = sym (ap (λ (v : OrderVerdict). v.free) told.2);
          fast = sym (ap (λ (v : OrderVerdict). v.fast) told.2);
        }
    block-told n false steps run =
        let last = ends_only (ordered verdict false None) answer steps run in
        record {
          blocks = (
            last.0,
            sym (ap (λ (v : OrderVerdict). v.yes) last.1),
            sym (ap (λ (v : OrderVerdict). v.area) last.1),
          );
          free = sym (ap (λ (v : OrderVerdict). v.free) last.1);
          fast = sym (ap (λ (v : OrderVerdict). v.fast) last.1);
        }

    further-told : (order : ℕ) (steps : List Step)
        → Runs (further_plan header g mark most order verdict) steps answer
        → ToldFurther (λ ks. Further header g mark most order verdict ks answer) steps
    further-told zero steps run =
        let last = ends_only (ordered verdict verdict.yes None) answer steps run in
        record {
          blocks = (
            last.0,
            sym (ap (λ (v : OrderVerdict). v.yes) last.1),
            sym (ap (λ (v : OrderVerdict). v.area) last.1),
          );
          free = sym (ap (λ (v : OrderVerdict). v.free) last.1);
          fast = sym (ap (λ (v : OrderVerdict). v.fast) last.1);
        }
    further-told (suc n) steps run =
        block-told (suc n) (has_room (limit_of header g.number mark most) (suc n) verdict.free) steps run

  module _ (order : ℕ) where
    pub order-runs : (steps : List Step) (answer : OrderVerdict) → IsOrderTest header g mark most order steps answer
        → Runs (order_plan header g mark most order) steps answer
    order-runs steps answer call =
        subst (λ ks. Runs (order_plan header g mark most order) ks answer) (sym call.in_order)
        (runs-and_then (test_plan header g mark most) (further_plan header g mark most order) call.test call.further
        call.verdict answer (test-runs header g mark most call.test call.verdict call.tests)
        (further-runs call.verdict answer order call.further call.blocks call.free call.fast))

    pub order-told : (steps : List Step) (answer : OrderVerdict) → Runs (order_plan header g mark most order) steps answer
        → IsOrderTest header g mark most order steps answer
    order-told steps answer run =
        let parts = splits-and_then (test_plan header g mark most) (further_plan header g mark most order) steps answer
        run in
        let told = further-told parts.answer answer order parts.rest parts.later in
        record {
          verdict = parts.answer;
          test = parts.first;
          tests = test-told header g mark most parts.first parts.answer parts.run;
          further = parts.rest;
          blocks = told.blocks;
          in_order = parts.in_order;
          free = told.free;
          fast = told.fast;
        }

module _ (header : Header) (most order : ℕ) where
  abbrev zone_plan : ℕ → Plan OrderVerdict
  zone_plan g = order_plan header (record { number = g }) High most order

  -- what follows the test of a zone
  abbrev passed_or : ℕ → List ℕ → OrderVerdict → Plan Balance
  passed_or g gs verdict =
      either verdict.yes (ends (Yes (record { number = g }) verdict)) (zones_plan header most order gs)

  zones-run : (gs : List ℕ) (steps : List Step) (answer : Balance) → Balances header most order gs steps answer
      → Runs (zones_plan header most order gs) steps answer
  zones-run gs steps answer no_zone = refl
  zones-run gs steps answer (fails g gs' first rest verdict answer' test failed later) =
      runs-and_then (zone_plan g) (passed_or g gs') first rest verdict answer'
      (order-runs header (record { number = g }) High most order first verdict test)
      (subst (λ b. Runs (either b (ends (Yes (record { number = g }) verdict)) (zones_plan header most order gs')) rest
      answer') (sym failed) (zones-run gs' rest answer' later))
  zones-run gs steps answer (passes g gs' steps' verdict test passed) =
      let yes_here : Balance = Yes (record { number = g }) verdict in
      subst (λ ks. Runs (zones_plan header most order (g ∷ gs')) ks yes_here) (append-nil steps')
      (runs-and_then (zone_plan g) (passed_or g gs') steps' [] verdict yes_here
      (order-runs header (record { number = g }) High most order steps' verdict test)
      (subst (λ b. Runs (either b (ends yes_here) (zones_plan header most order gs')) [] yes_here) (sym passed) refl))

  zones-told : (gs : List ℕ) (steps : List Step) (answer : Balance)
      → Runs (zones_plan header most order gs) steps answer → Balances header most order gs steps answer
  zones-told [] steps answer run =
      let last = ends_only No answer steps run in
      subst (λ ks. Balances header most order [] ks answer) (sym last.0)
      (subst (Balances header most order [] []) last.1 no_zone)
  zones-told (g ∷ gs) steps answer run =
      let parts = splits-and_then (zone_plan g) (passed_or g gs) steps answer run in
      by parts.first parts.rest parts.answer parts.in_order
      (order-told header (record { number = g }) High most order parts.first parts.answer parts.run)
      (λ run. zones-told gs parts.rest answer run) parts.answer.yes refl parts.later
    where
      by : (first rest : List Step) (verdict : OrderVerdict) → steps ≡ first ++ rest
          → IsOrderTest header (record { number = g }) High most order first verdict
          → (Runs (zones_plan header most order gs) rest answer → Balances header most order gs rest answer)
          → (b : Bool) → verdict.yes ≡ b
          → Runs (either b (ends (Yes (record { number = g }) verdict)) (zones_plan header most order gs)) rest answer
          → Balances header most order (g ∷ gs) steps answer
      by first rest verdict in_order test others true is later =
          let last = ends_only (Yes (record { number = g }) verdict) answer rest later in
          let whole : steps ≡ first = in_order ∙ ap (λ ks. first ++ ks) last.0 ∙ append-nil first in
          subst (λ ks. Balances header most order (g ∷ gs) ks answer) (sym whole)
          (subst (Balances header most order (g ∷ gs) first) last.1 (passes g gs first verdict test is))
      by first rest verdict in_order test others false is later =
          subst (λ ks. Balances header most order (g ∷ gs) ks answer) (sym in_order)
          (fails g gs first rest verdict answer test is (others later))

pub balance-runs : (header : Header) (n : PlaceId) (order most : ℕ) (steps : List Step) (answer : Balance)
    → IsBalanceTest header n order most steps answer → Runs (balance_plan header n order most) steps answer
balance-runs header n order most steps answer call =
    zones-run header most order (zones_up_to header.layout most (node_number header.layout n)) steps answer call

pub balance-told : (header : Header) (n : PlaceId) (order most : ℕ) (steps : List Step) (answer : Balance)
    → Runs (balance_plan header n order most) steps answer → IsBalanceTest header n order most steps answer
balance-told header n order most steps answer run =
    zones-told header most order (zones_up_to header.layout most (node_number header.layout n)) steps answer run

module _ (header : Header) (base : State) (pressure normal : ZoneSize → ℕ → ℕ → Type 0) (n : PlaceId) (p : ℕ) where
  settles-run : (answer : Balance) (h : History) (steps : List Step)
      → SetsAfterYes (facts_of header base) normal n p answer h steps
      → Runs (settles_plan header base pressure normal n p answer h) steps answer
  settles-run (Yes g verdict) h steps sets =
      runs-answering (node_plan (facts_of header base) p (ByNormal normal) n h) (λ done. Yes g verdict) steps (tt {0})
      (node-runs (facts_of header base) p (ByNormal normal) n h steps sets)
  settles-run No h steps none_made =
      subst (λ ks. Runs (settles_plan header base pressure normal n p No h) ks No) (sym none_made) refl

  record Settled (found answer : Balance) (h : History) (steps : List Step) : Type 0 where
    same : found ≡ answer
    sets : SetsAfterYes (facts_of header base) normal n p found h steps

  settles-told : (found answer : Balance) (h : History) (steps : List Step)
      → Runs (settles_plan header base pressure normal n p found h) steps answer → Settled found answer h steps
  settles-told (Yes g verdict) answer h steps run =
      let told = told-answering (node_plan (facts_of header base) p (ByNormal normal) n h) (λ done. Yes g verdict) steps
      answer run in
      record { same = told.2; sets = node-told (facts_of header base) p (ByNormal normal) n h steps told.1 }
  settles-told No answer h steps run =
      let last = ends_only No answer steps run in record { same = last.1; sets = last.0 }

  module _ (order most : ℕ) where
    abbrev node_pressed : History → Plan (Unit {0})
    node_pressed h = node_plan (facts_of header base) p (ByPressure pressure normal) n h

    abbrev tested_rest : Balance × History → Plan Balance
    tested_rest settled = settles_plan header base pressure normal n p settled.0 settled.1

    abbrev pressed_rest : Unit {0} × History → Plan Balance
    pressed_rest pressed = and_then (recorded p pressed.1 (balance_plan header n order most)) tested_rest

    pub turn-runs : (h : History) (steps : List Step) (answer : Balance)
        → IsTurn header base pressure normal n order most p h steps answer
        → Runs (turn_plan header base pressure normal n p order most h) steps answer
    turn-runs h steps answer call =
        let k : History = after p call.pressed h in
        subst (λ ks. Runs (turn_plan header base pressure normal n p order most h) ks answer) (sym call.in_order)
        (runs-and_after p (node_pressed h) h pressed_rest call.pressed (call.test ++ call.further) (tt {0}) answer
        (node-runs (facts_of header base) p (ByPressure pressure normal) n h call.pressed call.presses)
        (runs-and_after p (balance_plan header n order most) k tested_rest call.test call.further answer answer
        (balance-runs header n order most call.test answer call.tests)
        (settles-run answer (after p call.test k) call.further
        (subst (λ g. SetsAfterYes (facts_of header base) normal n p answer g call.further)
        (after-steps p call.pressed call.test h) call.settles))))

    pub turn-told : (h : History) (steps : List Step) (answer : Balance)
        → Runs (turn_plan header base pressure normal n p order most h) steps answer
        → IsTurn header base pressure normal n order most p h steps answer
    turn-told h steps answer run =
        let parts = splits-and_after p (node_pressed h) h pressed_rest steps answer run in
        let k : History = after p parts.first h in
        let rest = splits-and_after p (balance_plan header n order most) k tested_rest parts.rest answer parts.later in
        let last = settles-told rest.answer answer (after p rest.first k) rest.rest rest.later in
        record {
          pressed = parts.first;
          presses = node-told (facts_of header base) p (ByPressure pressure normal) n h parts.first parts.run;
          test = rest.first;
          tests = subst (IsBalanceTest header n order most rest.first) last.same
              (balance-told header n order most rest.first rest.answer rest.run);
          further = rest.rest;
          settles = subst (λ g. SetsAfterYes (facts_of header base) normal n p answer g rest.rest)
              (sym (after-steps p parts.first rest.first h))
              (subst (λ a. SetsAfterYes (facts_of header base) normal n p a (after p rest.first k) rest.rest) last.same
              last.sets);
          in_order = parts.in_order ∙ ap (λ ks. parts.first ++ ks) rest.in_order;
        }
