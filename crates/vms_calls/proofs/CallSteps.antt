-- For other crates too: what holds of each kind of step that a call makes holds of all its steps.
use Rattle.std.proofs.Common.{ℕ, suc, zero, Bool, true, false, nat_eq, ℤ, pos, negsuc, ◌+◌, if◌then◌else◌, List, []}
use Rattle.std.proofs.Common.{◌∷◌, ◌++◌, length, Option, sym, subst}
use Rattle.vms_history.specs.Common.{Diffs, Header, CounterId, CpuId, GroupId, ItemId, PlaceId, CpuState, WaterMark}
use Rattle.vms_history.specs.Common.{High, ZoneSize, Area, areas_of, areas_from, online_from, Shape, item_count}
use Rattle.vms_history.specs.Common.{counter_at, group_of, first_of_group, limit_of, after}
use Rattle.vms_core.specs.declared.states.State.{State}
use Rattle.vms_core.specs.declared.steps.Facts.{Facts}
use Rattle.vms_core.specs.declared.steps.Step.{Step}
use Rattle.vms_core.specs.declared.steps.Step.TheVariants.{LoadT, LoadD, AddG, AddS, Take, LoadG, LoadS, LoadM, LoadO}
use Rattle.vms_core.specs.declared.steps.Step.TheVariants.{SetT, SetM, SetA, LoadA}
use Rattle.vms_core.specs.Common.{History}
use Rattle.vms_calls.specs.Common.{FoundPlace, IsFold, to_place, to_system, group_steps, place_steps, system_steps}
use Rattle.vms_calls.specs.Common.{acknowledges, lists_of, taken_of_item, facts_of, in_turn, Look, Frees, IsSnapshot}
use Rattle.vms_calls.specs.Common.{IsWatermarkTest, look_steps, is_doubtful, free_pages, online, other, Choice}
use Rattle.vms_calls.specs.Common.{ByNormal, ByPressure, Rates, RatesMarked, VisitsEach, RatesNode, Refreshes}
use Rattle.vms_calls.specs.Common.{acknowledged_steps, state_steps, threshold_steps, mark_steps, mark_for, node_number}
use Rattle.vms_calls.specs.Common.{numbers_below, zones_on, largest_on, unmarked, marked, none, next, FindsBlock}
use Rattle.vms_calls.specs.Common.{Further, LooksForBlock, Balances, IsOrderTest, IsTurn, SetsAfterYes, has_room}
use Rattle.vms_calls.specs.Common.{zones_up_to, nowhere, empty, some, no_zone, fails, passes}
use Rattle.vms_calls.specs.declared.answers.Verdict.{Verdict}
use Rattle.vms_calls.specs.declared.answers.OrderVerdict.{OrderVerdict}
use Rattle.vms_calls.specs.declared.answers.Balance.{Balance}
use Rattle.vms_calls.specs.declared.answers.Balance.TheVariants.{Yes, No}

-- each of these steps is one of a kind
abbrev pub Each : (Step → Type 0) → List Step → Type 0
Each Kind [] = Unit {0}
Each Kind (step ∷ steps) = Kind step × Each Kind steps

-- all loads that look at values are of the kind
pub record OfLooks (Kind : Step → Type 0) : Type 0 where
  pub value : (k : CounterId) (v : ℤ) → Kind (LoadG k v)
  pub system : (i : ItemId) (v : ℤ) → Kind (LoadS i v)
  pub group : (c : CpuId) (j : GroupId) (w : Diffs) → Kind (LoadD c j w)
  pub mark : (g : PlaceId) (m a : ℕ) → Kind (LoadM g m a)
  pub cpu : (c : CpuId) (x : CpuState) → Kind (LoadO c x)

-- so are the steps that rate zones
pub record OfRatings (Kind : Step → Type 0) : Type 0 where
  pub looks : OfLooks Kind
  pub acknowledged : (c : CpuId) (g : PlaceId) (x : Option ℕ) → Kind (LoadA c g x)
  pub threshold : (c : CpuId) (g : PlaceId) (t : ℕ) → Kind (SetT c g t)
  pub set_mark : (g : PlaceId) (m : ℕ) → Kind (SetM g m)

-- so are those of folds
pub record OfFolds (Kind : Step → Type 0) : Type 0 where
  pub threshold : (g : PlaceId) (t a : ℕ) → Kind (LoadT g t a)
  pub take : (c : CpuId) (j : GroupId) (w : Diffs) → Kind (Take c j w)
  pub place : (k : CounterId) (z : ℤ) → Kind (AddG k z)
  pub system : (i : ItemId) (z : ℤ) → Kind (AddS i z)
  pub acknowledge : (g : PlaceId) (a : ℕ) → Kind (SetA g a)

module _ (Kind : Step → Type 0) where
  pub each-append : (xs ys : List Step) → Each Kind xs → Each Kind ys → Each Kind (xs ++ ys)
  each-append [] ys first second = second
  each-append (x ∷ xs) ys first second = (first.0, each-append xs ys first.1 second)

  module _ (of : OfLooks Kind) where
    looks-each : (j c : ℕ) (looks : List Look) → Each Kind (in_turn (look_steps j) c looks)
    looks-each j c [] = tt
    looks-each j c (online w ∷ looks) = (of.cpu _ _, (of.group _ _ _, looks-each j (suc c) looks))
    looks-each j c (other x differs ∷ looks) = (of.cpu _ _, looks-each j (suc c) looks)

    pub snapshot-each : (shape : Shape) (k : CounterId) (steps : List Step) (answer : ℕ)
        → IsSnapshot shape k steps answer → Each Kind steps
    snapshot-each shape k steps answer call = subst (Each Kind) (sym call.in_order)
        (of.value k call.value, looks-each (group_of k.number) 0 call.looks)

    frees-each : (shape : Shape) (k : CounterId) (doubt : Bool) (value : ℤ) (steps : List Step) (free : ℕ)
        → Frees shape k doubt value steps free → Each Kind steps
    frees-each shape k true value steps free frees = snapshot-each shape k steps free frees
    frees-each shape k false value steps free frees = subst (Each Kind) (sym frees.0) tt

    pub test-each : (header : Header) (g : PlaceId) (mark : WaterMark) (most : ℕ) (steps : List Step)
        (answer : Verdict) → IsWatermarkTest header g mark most steps answer → Each Kind steps
    test-each header g mark most steps answer call = subst (Each Kind) (sym call.in_order) (
      of.mark _ _ _,
      (
        of.value _ _,
        (
          of.mark _ _ _,
          frees-each header.layout (free_pages header.layout g) (is_doubtful call.first call.value call.second)
              call.value call.further answer.free call.frees,
        ),
      ),
    )

    finds-each : (shape : Shape) (g : PlaceId) (areas : List Area) (steps : List Step) (found : Option ℕ)
        → FindsBlock shape g areas steps found → Each Kind steps
    finds-each shape g areas steps found nowhere = tt
    finds-each shape g areas steps found (empty area areas' first more found' snapshot later) =
        each-append first more (snapshot-each shape _ first 0 snapshot) (finds-each shape g areas' more found' later)
    finds-each shape g areas steps found (some area areas' steps' blocks snapshot there) =
        snapshot-each shape _ steps' blocks snapshot

    blocks-each : (header : Header) (g : PlaceId) (n : ℕ) (room : Bool) (steps : List Step) (answer : OrderVerdict)
        → LooksForBlock header g n room steps answer → Each Kind steps
    blocks-each header g n true steps answer blocks =
        finds-each header.layout g (areas_from n (areas_of header.items)) steps answer.area blocks.0
    blocks-each header g n false steps answer blocks = subst (Each Kind) (sym blocks.0) tt

    further-each : (header : Header) (g : PlaceId) (mark : WaterMark) (most order : ℕ) (verdict : Verdict)
        (steps : List Step) (answer : OrderVerdict)
        → Further header g mark most order verdict steps answer → Each Kind steps
    further-each header g mark most zero verdict steps answer blocks = subst (Each Kind) (sym blocks.0) tt
    further-each header g mark most (suc n) verdict steps answer blocks =
        blocks-each header g (suc n) (has_room (limit_of header g.number mark most) (suc n) verdict.free) steps answer
        blocks

    pub order-each : (header : Header) (g : PlaceId) (mark : WaterMark) (most order : ℕ) (steps : List Step)
        (answer : OrderVerdict) → IsOrderTest header g mark most order steps answer → Each Kind steps
    order-each header g mark most order steps answer call = subst (Each Kind) (sym call.in_order)
        (each-append call.test call.further (test-each header g mark most call.test call.verdict call.tests)
        (further-each header g mark most order call.verdict call.further answer call.blocks))

    pub balance-each : (header : Header) (most order : ℕ) (gs : List ℕ) (steps : List Step) (answer : Balance)
        → Balances header most order gs steps answer → Each Kind steps
    balance-each header most order gs steps answer no_zone = tt
    balance-each header most order gs steps answer (fails g gs' first more verdict answer' test failed later) =
        each-append first more (order-each header (record { number = g }) High most order first verdict test)
        (balance-each header most order gs' more answer' later)
    balance-each header most order gs steps answer (passes g gs' steps' verdict test passed) =
        order-each header (record { number = g }) High most order steps' verdict test

    pub states-each : (n : ℕ) (states : List CpuState) → Each Kind (in_turn state_steps n states)
    states-each n [] = tt
    states-each n (x ∷ xs) = (of.cpu _ _, states-each (suc n) xs)

  module _ (of : OfRatings Kind) where
    acknowledged-each : (z : ℕ) (cs : List CpuId) (numbers : List (Option ℕ))
        → Each Kind (acknowledged_steps z cs numbers)
    acknowledged-each z [] numbers = tt
    acknowledged-each z (d ∷ cs) [] = tt
    acknowledged-each z (d ∷ cs) (x ∷ xs) = (of.acknowledged _ _ _, acknowledged-each z cs xs)

    thresholds-each : (z t : ℕ) (cs : List CpuId) → Each Kind (threshold_steps z t cs)
    thresholds-each z t [] = tt
    thresholds-each z t (d ∷ cs) = (of.threshold _ _ _, thresholds-each z t cs)

    mark_steps-each : (z found mark : ℕ) → Each Kind (mark_steps z found mark)
    mark_steps-each z found mark = by (nat_eq mark found)
      where
        by : (b : Bool) → Each Kind (if b then [] else SetM (record { number = z }) mark ∷ [])
        by true = tt
        by false = (of.set_mark _ _, tt)

    module _ (facts : Facts) (p : ℕ) (online : List CpuId) (Chooses : Choice) where
      rates-each : (z t m : ℕ) (h : History) (steps : List Step) → Rates facts p online Chooses z t m h steps
          → Each Kind steps
      rates-each z t m h steps rates = subst (Each Kind) (sym rates.in_order)
          (each-append (mark_steps z m (mark_for facts p online h z rates.usual t)) (threshold_steps z t online)
          (mark_steps-each z m (mark_for facts p online h z rates.usual t)) (thresholds-each z t online))

      marked-each : (z t m : ℕ) (h : History) (steps : List Step) → RatesMarked facts p online Chooses z t m h steps
          → Each Kind steps
      marked-each z t m h steps (unmarked h') = tt
      marked-each z t m h steps (marked t' m' h' ks unlike rates) = rates-each z t' m' h' ks rates

      visits-each : (Rated : ℕ → ℕ → ℕ → History → List Step → Type 0)
          → ((z t m : ℕ) (h : History) (steps : List Step) → Rated z t m h steps → Each Kind steps)
          → (gs ts : List ℕ) (h : History) (steps : List Step) → VisitsEach facts p online Rated gs ts h steps
          → Each Kind steps
      visits-each Rated rated gs ts h steps (none h') = tt
      visits-each Rated rated gs ts h steps (next z t gs' ts' h' first more visit visits) =
          each-append first more
          (subst (Each Kind) (sym visit.in_order) (each-append visit.loads visit.further
          (subst (Each Kind) (sym visit.loads_are)
          (each-append (acknowledged_steps z online visit.numbers)
          (LoadM (record { number = z }) visit.mark.mark visit.mark.number ∷ [])
          (acknowledged-each z online visit.numbers) (of.looks.mark _ _ _, tt)))
          (rated z t visit.mark.mark (after p visit.loads h') visit.further visit.rated)))
          (visits-each Rated rated gs' ts' (after p first h') more visits)

    pub node-each : (facts : Facts) (Chooses : Choice) (n : PlaceId) (p : ℕ) (h : History) (steps : List Step)
        → RatesNode facts Chooses n p h steps → Each Kind steps
    node-each facts Chooses n p h steps rates = subst (Each Kind) (sym rates.in_order)
        (each-append (in_turn state_steps 0 rates.states) rates.further (states-each of.looks 0 rates.states)
        (visits-each facts p (online_from 0 rates.states) Chooses
        (RatesMarked facts p (online_from 0 rates.states) Chooses)
        (marked-each facts p (online_from 0 rates.states) Chooses) (zones_on facts.layout (node_number facts.layout n))
        rates.thresholds (after p (in_turn state_steps 0 rates.states) h) rates.further rates.visits))

    nodes-each : (first : ℕ) (largest : ℕ → ℕ) (cs : List CpuId) (i : ℕ) (nodes : List ℕ)
        → Each Kind (in_turn (λ i node. threshold_steps (first + i) (largest node) cs) i nodes)
    nodes-each first largest cs i [] = tt
    nodes-each first largest cs i (node ∷ nodes) = each-append (threshold_steps (first + i) (largest node) cs)
        (in_turn (λ i node. threshold_steps (first + i) (largest node) cs) (suc i) nodes)
        (thresholds-each (first + i) (largest node) cs) (nodes-each first largest cs (suc i) nodes)

    pub refresh-each : (facts : Facts) (normal : ZoneSize → ℕ → ℕ → Type 0) (p : ℕ) (h : History) (steps : List Step)
        → Refreshes facts normal p h steps → Each Kind steps
    refresh-each facts normal p h steps refresh =
        let online = online_from 0 refresh.states in
        let loads = in_turn state_steps 0 refresh.states in
        let largest = largest_on facts.layout refresh.thresholds in
        subst (Each Kind) (sym refresh.in_order)
        (each-append (loads ++ refresh.further)
        (in_turn (λ i node. threshold_steps (length facts.layout.zones + i) (largest node) online) 0 facts.layout.nodes)
        (each-append loads refresh.further (states-each of.looks 0 refresh.states)
        (visits-each facts p online (ByNormal normal) (Rates facts p online (ByNormal normal))
        (rates-each facts p online (ByNormal normal)) (numbers_below (length facts.layout.zones))
        refresh.thresholds (after p loads h) refresh.further refresh.visits))
        (nodes-each (length facts.layout.zones) largest online 0 facts.layout.nodes))

    settles-each : (facts : Facts) (normal : ZoneSize → ℕ → ℕ → Type 0) (n : PlaceId) (p : ℕ) (answer : Balance)
        (h : History) (steps : List Step) → SetsAfterYes facts normal n p answer h steps → Each Kind steps
    settles-each facts normal n p (Yes g verdict) h steps settles =
        node-each facts (ByNormal normal) n p h steps settles
    settles-each facts normal n p No h steps settles = subst (Each Kind) (sym settles) tt

    pub turn-each : (header : Header) (base : State) (pressure normal : ZoneSize → ℕ → ℕ → Type 0) (n : PlaceId)
        (order most p : ℕ) (h : History) (steps : List Step) (answer : Balance)
        → IsTurn header base pressure normal n order most p h steps answer → Each Kind steps
    turn-each header base pressure normal n order most p h steps answer turn =
        let facts = facts_of header base in
        subst (Each Kind) (sym turn.in_order)
        (each-append turn.pressed (turn.test ++ turn.further)
        (node-each facts (ByPressure pressure normal) n p h turn.pressed turn.presses)
        (each-append turn.test turn.further
        (balance-each of.looks header most order (zones_up_to header.layout most (node_number header.layout n))
        turn.test answer turn.tests)
        (settles-each facts normal n p answer (after p (turn.pressed ++ turn.test) h) turn.further turn.settles)))

  module _ (of : OfFolds Kind) where
    adds-each : (n : ℕ) (ds : List ℤ) → Each Kind (in_turn to_place n ds)
    adds-each n [] = tt
    adds-each n (pos zero ∷ ds) = adds-each (suc n) ds
    adds-each n (pos (suc d) ∷ ds) = (of.place _ _, adds-each (suc n) ds)
    adds-each n (negsuc d ∷ ds) = (of.place _ _, adds-each (suc n) ds)

    groups-each : (c : CpuId) (j : ℕ) (ws : List Diffs) → Each Kind (in_turn (group_steps c) j ws)
    groups-each c j [] = tt
    groups-each c j (w ∷ ws) = (
      of.take _ _ _,
      each-append (in_turn to_place (first_of_group j) w.values)
          (in_turn (group_steps c) (suc j) ws) (adds-each (first_of_group j) w.values) (groups-each c (suc j) ws),
    )

    place-each : (shape : Shape) (b : Bool) (c : CpuId) (g : ℕ) (found : FoundPlace)
        → Each Kind (place_steps shape b c g found)
    place-each shape true c g found = (
      of.threshold _ _ _,
      each-append
          (in_turn (group_steps c) (group_of (counter_at shape g 0)) found.groups)
          (SetA (record { number = g }) found.threshold.number ∷ [])
          (groups-each c (group_of (counter_at shape g 0)) found.groups) (of.acknowledge _ _, tt),
    )
    place-each shape false c g found = groups-each c (group_of (counter_at shape g 0)) found.groups

    places-each : (shape : Shape) (is_own : Bool) (c : CpuId) (g : ℕ) (places : List FoundPlace)
        → Each Kind (in_turn (λ g found. place_steps shape (acknowledges shape is_own g) c g found) g places)
    places-each shape is_own c g [] = tt
    places-each shape is_own c g (found ∷ places) =
        each-append (place_steps shape (acknowledges shape is_own g) c g found)
        (in_turn (λ g found. place_steps shape (acknowledges shape is_own g) c g found) (suc g) places)
        (place-each shape (acknowledges shape is_own g) c g found) (places-each shape is_own c (suc g) places)

    item-each : (i : ℕ) (z : ℤ) → Each Kind (to_system i z)
    item-each i (pos zero) = tt
    item-each i (pos (suc n)) = (of.system _ _, tt)
    item-each i (negsuc n) = (of.system _ _, tt)

    systems-each : (shape : Shape) (ws : List Diffs) (i n : ℕ) → Each Kind (system_steps shape ws i n)
    systems-each shape ws i zero = tt
    systems-each shape ws i (suc n) = each-append (to_system i (taken_of_item shape i 0 ws))
        (system_steps shape ws (suc i) n) (item-each i (taken_of_item shape i 0 ws)) (systems-each shape ws (suc i) n)

    pub fold-each : (shape : Shape) (is_own : Bool) (c : CpuId) (steps : List Step) → IsFold shape is_own c steps
        → Each Kind steps
    fold-each shape is_own c steps fold = subst (Each Kind) (sym fold.in_order)
        (each-append (in_turn (λ g found. place_steps shape (acknowledges shape is_own g) c g found) 0 fold.places)
        (system_steps shape (lists_of fold.places) 0 (item_count shape))
        (places-each shape is_own c 0 fold.places)
        (systems-each shape (lists_of fold.places) 0 (item_count shape)))
