-- The plan of each call goes one way where the rules are functions.
use Rattle.std.proofs.Common.{◌≡◌, ℕ, suc, zero, ◌/◌, nat_eq, ℤ, ◌+ℤ◌, Bool, true, false, List, [], ◌∷◌, ◌++◌, length}
use Rattle.std.proofs.Common.{sym, ◌∙◌}
use Rattle.std.specs.Prelude.{Option, Some, None, is_some}
use Rattle.vms_world.specs.Common.{Area, ByNormal, ByPressure, Choice, CounterId, CpuId, CpuState, Diffs, Facts, Header}
use Rattle.vms_world.specs.Common.{High, LoadD, LoadT, Miss, Mode, PlaceId, Put, SetA, SetO, Shape, State, Step, Take}
use Rattle.vms_world.specs.Common.{WaterMark, ZoneSize, acknowledges, after, areas_from, areas_of, size_at, blocks_at}
use Rattle.vms_world.specs.Common.{carried_by, counter_at, entry, facts_of, first_of_group, free_pages, group_of}
use Rattle.vms_world.specs.Common.{has_room, in_turn, is_doubtful, item_count, limit_of, node_number, numbers_below}
use Rattle.vms_world.specs.Common.{online_from, place_count, rating_steps, system_steps, to_place, zones_on}
use Rattle.vms_world.specs.Common.{zones_up_to, Balance, Yes, No, OrderVerdict, Verdict}
use Rattle.vms_core.specs.Pages.{History}
use Rattle.vms_core.specs.declared.states.MarkRead.{MarkRead}
use Rattle.vms_calls.specs.LookReadings.{differential_told, mark_told, online_told, value_told}
use Rattle.vms_calls.specs.PageCalls.{owns_cpu}
use Rattle.vms_calls.specs.declared.page_calls.PageAnswer.{PageAnswer}
use Rattle.vms_calls.specs.declared.page_calls.PageAnswer.TheVariants as answer
use Rattle.vms_calls.specs.declared.page_calls.PageCall.{PageCall}
use Rattle.vms_calls.specs.declared.page_calls.PageCall.TheVariants.{Bury, Change, Fold, SetNormal, SetPressure}
use Rattle.vms_calls.specs.declared.page_calls.PageCall.TheVariants.{Snapshot, System, Test, Turn, Value}
use Rattle.vms_plans.specs.declared.due_steps.DueStep.TheVariants.{LoadsGroup}
use Rattle.vms_plans.specs.Common.{Plan, acknowledged_plan, and_then, answering, balance_plan, blocks_plan, burial_plan}
use Rattle.vms_plans.specs.Common.{carrying, change_plan, either, ends, exchanged_plan, fold_plan, found_plan}
use Rattle.vms_plans.specs.Common.{frees_plan, further_plan, groups_plan, loaded_plan, looks_plan, makes, makes_all}
use Rattle.vms_plans.specs.Common.{mark_plan, marked_plan, node_plan, node_steps, order_plan, ordered, place_groups}
use Rattle.vms_plans.specs.Common.{place_plan, places_plan, plan_of, rates_plan, recorded, refresh_plan, settles_plan}
use Rattle.vms_plans.specs.Common.{snapshot_plan, state_told, states_plan, taken_plan, test_plan, tested, turn_plan}
use Rattle.vms_plans.specs.Common.{visit_plan, visits_plan, waits, won_plan, zones_plan}
use Rattle.vms_own_acts.specs.Common.{IsFunction}
use Rattle.vms_own_acts.proofs.OneWay.{IsOneWay, one-and_then, one-either, one-makes_all, one-recorded}

looks-one : (k : CounterId) (c n : ℕ) (sum : ℤ) → IsOneWay (looks_plan k c n sum)
looks-one k c zero sum = (tt {0})
looks-one k c (suc n) sum = λ state. one-either (online_told state)
    (waits (LoadsGroup (record { number = c }) (record { number = group_of k.number }))
    (λ load. looks_plan k (suc c) n (sum +ℤ differential_told k.number load)))
    (looks_plan k (suc c) n sum)
    (λ load. looks-one k (suc c) n (sum +ℤ differential_told k.number load))
    (looks-one k (suc c) n sum)

snapshot-one : (shape : Shape) (k : CounterId) → IsOneWay (snapshot_plan shape k)
snapshot-one shape k = λ load. looks-one k 0 shape.cpus (value_told load)

frees-one : (header : Header) (g : PlaceId) (mark : WaterMark) (most : ℕ) (doubt : Bool) (value : ℤ)
    → IsOneWay (frees_plan header g mark most doubt value)
frees-one header g mark most true value =
    one-and_then (snapshot_plan header.layout (free_pages header.layout g))
    (λ free. ends (tested header g mark most false free))
    (snapshot-one header.layout (free_pages header.layout g)) (λ free. (tt {0}))
frees-one header g mark most false value = (tt {0})

test-one : (header : Header) (g : PlaceId) (mark : WaterMark) (most : ℕ) → IsOneWay (test_plan header g mark most)
test-one header g mark most = λ first load second. frees-one header g mark most
    (is_doubtful (mark_told first) (value_told load) (mark_told second)) (value_told load)

module _ (shape : Shape) (cpu : CpuId) (k : CounterId) (delta : ℤ) (how : Mode) where
  won-one : (step : Step) → IsOneWay (won_plan shape cpu k delta how step)
  won-one (Put l w u d m) =
      one-makes_all (carrying shape k (carried_by how u (entry w.values k.number) delta)) (ends (tt {0})) (tt {0})
  won-one _ = (tt {0})

  exchanged-one : (t : ℕ) (step : Step) → IsOneWay (exchanged_plan shape cpu k delta how t step)
  exchanged-one t (Miss j v) = won-one
  exchanged-one t (Put l w u d m) = won-one (Put l w u d m)
  exchanged-one t _ = (tt {0})

  found-one : (t : ℕ) (step : Step) → IsOneWay (found_plan shape cpu k delta how t step)
  found-one t (LoadD c j w) = exchanged-one t
  found-one t _ = (tt {0})

  loaded-one : (step : Step) → IsOneWay (loaded_plan shape cpu k delta how step)
  loaded-one (LoadT g t a) = found-one t
  loaded-one _ = (tt {0})

taken-one : (j : ℕ) (more : Diffs → Plan (List Diffs)) → ((w : Diffs) → IsOneWay (more w)) → (step : Step)
    → IsOneWay (taken_plan j more step)
taken-one j more later (Take d i w) =
    one-makes_all (in_turn to_place (first_of_group j) w.values) (more w) (later w)
taken-one j more later _ = (tt {0})

groups-one : (c : CpuId) (j n : ℕ) (ws : List Diffs) → IsOneWay (groups_plan c j n ws)
groups-one c j zero ws = (tt {0})
groups-one c j (suc n) ws = taken-one j (λ w. groups_plan c (suc j) n (ws ++ (w ∷ [])))
    (λ w. groups-one c (suc j) n (ws ++ (w ∷ [])))

module _ (shape : Shape) (is_own : Bool) (c : CpuId) where
  acknowledged-one : (g : ℕ) (ws : List Diffs) (step : Step)
      → IsOneWay (acknowledged_plan shape is_own c g ws step)
  acknowledged-one g ws (LoadT f t a) =
      one-and_then (place_groups shape is_own c g ws) (λ taken. makes (SetA (record { number = g }) a) (ends taken))
      (groups-one c (group_of (counter_at shape g 0)) (shape.positions / 8) ws) (λ taken step. (tt {0}))
  acknowledged-one g ws _ = (tt {0})

  place-one : (b : Bool) (g : ℕ) (ws : List Diffs) → IsOneWay (place_plan shape is_own c b g ws)
  place-one true g ws = acknowledged-one g ws
  place-one false g ws = groups-one c (group_of (counter_at shape g 0)) (shape.positions / 8) ws

  places-one : (g n : ℕ) (ws : List Diffs) → IsOneWay (places_plan shape is_own c g n ws)
  places-one g zero ws = (tt {0})
  places-one g (suc n) ws = one-and_then (place_plan shape is_own c (acknowledges shape is_own g) g ws)
      (λ taken. places_plan shape is_own c (suc g) n taken) (place-one (acknowledges shape is_own g) g ws)
      (λ taken. places-one (suc g) n taken)

  fold-one : IsOneWay (fold_plan shape is_own c)
  fold-one = one-and_then (places_plan shape is_own c 0 (place_count shape) [])
      (λ taken. makes_all (system_steps shape taken 0 (item_count shape)) (ends (tt {0})))
      (places-one 0 (place_count shape) [])
      (λ taken. one-makes_all (system_steps shape taken 0 (item_count shape)) (ends (tt {0})) (tt {0}))

states-one : (c n : ℕ) (states : List CpuState) → IsOneWay (states_plan c n states)
states-one c zero states = (tt {0})
states-one c (suc n) states = λ load. states-one (suc c) n (states ++ (state_told load ∷ []))

mark-one : (g : ℕ) (cs : List CpuId) → IsOneWay (mark_plan g cs)
mark-one g [] = λ load. (tt {0})
mark-one g (c ∷ cs) = λ load. mark-one g cs

-- two thresholds are chosen and no others
abbrev pub IsOneChoice : Choice → Type 0
IsOneChoice Chooses = (size : ZoneSize) (n t usual u v : ℕ) → Chooses size n t usual → Chooses size n u v
    → (t ≡ u) × (usual ≡ v)

one-pressure : (pressure normal : ZoneSize → ℕ → ℕ → Type 0) → IsFunction pressure → IsFunction normal
    → IsOneChoice (ByPressure pressure normal)
one-pressure pressure normal is_p is_n size n t usual u v first other =
    (is_p.one size n t u first.0 other.0, is_n.one size n usual v first.1 other.1)

one-normal : (normal : ZoneSize → ℕ → ℕ → Type 0) → IsFunction normal → IsOneChoice (ByNormal normal)
one-normal normal is_n size n t usual u v first other =
    let same : t ≡ u = is_n.one size n t u first.0 other.0 in
    (same, first.1 ∙ same ∙ sym other.1)

module _ (facts : Facts) (p : ℕ) (online : List CpuId) (Chooses : Choice) (one : IsOneChoice Chooses) where
  rates-one : (g m : ℕ) (h : History) → IsOneWay (rates_plan facts p online Chooses g m h)
  rates-one g m h = (
    one (size_at facts.sizes g) (length online),
    λ t usual. one-makes_all (rating_steps facts p online h g m usual t) (ends t) (tt {0}),
  )

  marked-one : (g m : ℕ) (h : History) → IsOneWay (marked_plan facts p online Chooses g m h)
  marked-one g m h =
      one-either (nat_eq m 0) (ends 0) (rates_plan facts p online Chooses g m h) (tt {0}) (rates-one g m h)

module _ (p : ℕ) (online : List CpuId) (rated : ℕ → ℕ → History → Plan ℕ)
    (rated_one : (g m : ℕ) (h : History) → IsOneWay (rated g m h)) where
  visit-one : (g : ℕ) (h : History) → IsOneWay (visit_plan p online rated g h)
  visit-one g h = one-and_then (recorded p h (mark_plan g online))
      (λ (found : MarkRead × History). recorded p found.1 (rated g found.0.mark found.1))
      (one-recorded p h (mark_plan g online) (mark-one g online))
      (λ found. one-recorded p found.1 (rated g found.0.mark found.1) (rated_one g found.0.mark found.1))

  visits-one : (gs ts : List ℕ) (h : History) → IsOneWay (visits_plan p online rated gs ts h)
  visits-one [] ts h = (tt {0})
  visits-one (g ∷ gs) ts h = one-and_then (visit_plan p online rated g h)
      (λ (visited : ℕ × History). visits_plan p online rated gs (ts ++ (visited.0 ∷ [])) visited.1)
      (visit-one g h) (λ visited. visits-one gs (ts ++ (visited.0 ∷ [])) visited.1)

module _ (facts : Facts) (p : ℕ) where
  abbrev cpus : Plan (List CpuState)
  cpus = states_plan 0 facts.layout.cpus []

  cpus-one : (h : History) → IsOneWay (recorded p h cpus)
  cpus-one h = one-recorded p h cpus (states-one 0 facts.layout.cpus [])

  node-one : (Chooses : Choice) → IsOneChoice Chooses → (n : PlaceId) (h : History)
      → IsOneWay (node_plan facts p Chooses n h)
  node-one Chooses one n h = one-and_then (recorded p h cpus)
      (λ (found : List CpuState × History). and_then (visits_plan p (online_from 0 found.0)
      (marked_plan facts p (online_from 0 found.0) Chooses) (zones_on facts.layout (node_number facts.layout n)) []
      found.1) (λ thresholds. ends (tt {0})))
      (cpus-one h)
      (λ found. one-and_then (visits_plan p (online_from 0 found.0)
      (marked_plan facts p (online_from 0 found.0) Chooses) (zones_on facts.layout (node_number facts.layout n)) []
      found.1) (λ thresholds. ends (tt {0}))
      (visits-one p (online_from 0 found.0) (marked_plan facts p (online_from 0 found.0) Chooses)
      (marked-one facts p (online_from 0 found.0) Chooses one) (zones_on facts.layout (node_number facts.layout n)) []
      found.1) (λ thresholds. (tt {0})))

  refresh-one : (normal : ZoneSize → ℕ → ℕ → Type 0) → IsFunction normal → (h : History)
      → IsOneWay (refresh_plan facts p normal h)
  refresh-one normal is_n h = one-and_then (recorded p h cpus)
      (λ (found : List CpuState × History). and_then (visits_plan p (online_from 0 found.0)
      (rates_plan facts p (online_from 0 found.0) (ByNormal normal)) (numbers_below (length facts.layout.zones)) []
      found.1) (λ thresholds. makes_all (node_steps facts p (online_from 0 found.0) thresholds) (ends (tt {0}))))
      (cpus-one h)
      (λ found. one-and_then (visits_plan p (online_from 0 found.0)
      (rates_plan facts p (online_from 0 found.0) (ByNormal normal)) (numbers_below (length facts.layout.zones)) []
      found.1) (λ thresholds. makes_all (node_steps facts p (online_from 0 found.0) thresholds) (ends (tt {0})))
      (visits-one p (online_from 0 found.0) (rates_plan facts p (online_from 0 found.0) (ByNormal normal))
      (rates-one facts p (online_from 0 found.0) (ByNormal normal) (one-normal normal is_n))
      (numbers_below (length facts.layout.zones)) [] found.1)
      (λ thresholds. one-makes_all (node_steps facts p (online_from 0 found.0) thresholds) (ends (tt {0})) (tt {0})))

  burial-one : (normal : ZoneSize → ℕ → ℕ → Type 0) → IsFunction normal → (c : CpuId) (h : History)
      → IsOneWay (burial_plan facts p normal c h)
  burial-one normal is_n c h = one-and_then (recorded p h (fold_plan facts.layout false c))
      (λ (folded : Unit {0} × History). makes (SetO c) (refresh_plan facts p normal (after p (SetO c ∷ []) folded.1)))
      (one-recorded p h (fold_plan facts.layout false c) (fold-one facts.layout false c))
      (λ folded step. refresh-one normal is_n (after p (SetO c ∷ []) folded.1))

blocks-one : (shape : Shape) (g : PlaceId) (areas : List Area) → IsOneWay (blocks_plan shape g areas)
blocks-one shape g [] = (tt {0})
blocks-one shape g (area ∷ areas) = one-and_then (snapshot_plan shape (blocks_at shape g area))
    (λ blocks. either (nat_eq blocks 0) (blocks_plan shape g areas) (ends (Some area.order)))
    (snapshot-one shape (blocks_at shape g area))
    (λ blocks. one-either (nat_eq blocks 0) (blocks_plan shape g areas) (ends (Some area.order))
    (blocks-one shape g areas) (tt {0}))

further-one : (header : Header) (g : PlaceId) (mark : WaterMark) (most order : ℕ) (verdict : Verdict)
    → IsOneWay (further_plan header g mark most order verdict)
further-one header g mark most zero verdict = (tt {0})
further-one header g mark most (suc n) verdict =
    let areas = areas_from (suc n) (areas_of header.items) in
    one-either (has_room (limit_of header g.number mark most) (suc n) verdict.free)
    (and_then (blocks_plan header.layout g areas) (λ area. ends (ordered verdict (is_some area) area)))
    (ends (ordered verdict false None))
    (one-and_then (blocks_plan header.layout g areas) (λ area. ends (ordered verdict (is_some area) area))
    (blocks-one header.layout g areas) (λ area. (tt {0})))
    (tt {0})

order-one : (header : Header) (g : PlaceId) (mark : WaterMark) (most order : ℕ)
    → IsOneWay (order_plan header g mark most order)
order-one header g mark most order = one-and_then (test_plan header g mark most)
    (further_plan header g mark most order) (test-one header g mark most)
    (λ verdict. further-one header g mark most order verdict)

zones-one : (header : Header) (most order : ℕ) (gs : List ℕ) → IsOneWay (zones_plan header most order gs)
zones-one header most order [] = (tt {0})
zones-one header most order (g ∷ gs) = one-and_then (order_plan header (record { number = g }) High most order)
    (λ (verdict : OrderVerdict). either verdict.yes (ends (Yes (record { number = g }) verdict))
    (zones_plan header most order gs))
    (order-one header (record { number = g }) High most order)
    (λ verdict. one-either verdict.yes (ends (Yes (record { number = g }) verdict)) (zones_plan header most order gs)
    (tt {0}) (zones-one header most order gs))

module _ (header : Header) (base : State) (pressure normal : ZoneSize → ℕ → ℕ → Type 0)
    (is_p : IsFunction pressure) (is_n : IsFunction normal) where
  module _ (n : PlaceId) (p : ℕ) where
    settles-one : (answer : Balance) (h : History) → IsOneWay (settles_plan header base pressure normal n p answer h)
    settles-one (Yes g verdict) h = one-and_then (node_plan (facts_of header base) p (ByNormal normal) n h)
        (λ done. ends (Yes g verdict))
        (node-one (facts_of header base) p (ByNormal normal) (one-normal normal is_n) n h) (λ done. (tt {0}))
    settles-one No h = (tt {0})

    turn-one : (order most : ℕ) (h : History) → IsOneWay (turn_plan header base pressure normal n p order most h)
    turn-one order most h =
        one-and_then (recorded p h (node_plan (facts_of header base) p (ByPressure pressure normal) n h))
        (λ (pressed : Unit {0} × History). and_then (recorded p pressed.1 (balance_plan header n order most))
        (λ (settled : Balance × History). settles_plan header base pressure normal n p settled.0 settled.1))
        (one-recorded p h (node_plan (facts_of header base) p (ByPressure pressure normal) n h)
        (node-one (facts_of header base) p (ByPressure pressure normal) (one-pressure pressure normal is_p is_n) n h))
        (λ pressed. one-and_then (recorded p pressed.1 (balance_plan header n order most))
        (λ (settled : Balance × History). settles_plan header base pressure normal n p settled.0 settled.1)
        (one-recorded p pressed.1 (balance_plan header n order most)
        (zones-one header most order (zones_up_to header.layout most (node_number header.layout n))))
        (λ settled. settles-one settled.0 settled.1))

  one-answering : {A : Type 0} (tell : A → PageAnswer) (plan : Plan A) → IsOneWay plan
      → IsOneWay (answering tell plan)
  one-answering tell plan here = one-and_then plan (λ a. ends (tell a)) here (λ a. (tt {0}))

  pub call-one : (call : PageCall) (owner : Option CpuId) (p : ℕ) (h : History)
      → IsOneWay (plan_of header base pressure normal call owner p h)
  call-one (Change k delta how) None p h = (tt {0})
  call-one (Change k delta how) (Some own) p h =
      one-answering (λ made. answer.Done) (change_plan header.layout own k delta how)
      (loaded-one header.layout own k delta how)
  call-one (Fold c) owner p h =
      one-answering (λ made. answer.Done) (fold_plan header.layout (owns_cpu owner c) c)
      (fold-one header.layout (owns_cpu owner c) c)
  call-one (Test g mark most) owner p h =
      one-answering (λ verdict. answer.Tested verdict) (test_plan header g mark most)
      (test-one header g mark most)
  call-one (Value k) owner p h = λ load. (tt {0})
  call-one (Snapshot k) owner p h =
      one-answering (λ pages. answer.Snapshot pages) (snapshot_plan header.layout k) (snapshot-one header.layout k)
  call-one (System i) owner p h = λ load. (tt {0})
  call-one (SetPressure n) (Some own) p h = (tt {0})
  call-one (SetPressure n) None p h =
      one-answering (λ made. answer.Done) (node_plan (facts_of header base) p (ByPressure pressure normal) n h)
      (node-one (facts_of header base) p (ByPressure pressure normal) (one-pressure pressure normal is_p is_n) n h)
  call-one (SetNormal n) (Some own) p h = (tt {0})
  call-one (SetNormal n) None p h =
      one-answering (λ made. answer.Done) (node_plan (facts_of header base) p (ByNormal normal) n h)
      (node-one (facts_of header base) p (ByNormal normal) (one-normal normal is_n) n h)
  call-one (Bury c) (Some own) p h = (tt {0})
  call-one (Bury c) None p h =
      one-answering (λ made. answer.Done) (burial_plan (facts_of header base) p normal c h)
      (burial-one (facts_of header base) p normal is_n c h)
  call-one (Turn n order most) (Some own) p h = (tt {0})
  call-one (Turn n order most) None p h =
      one-answering (λ balance. answer.Balanced balance) (turn_plan header base pressure normal n p order most h)
      (turn-one n p order most h)
