-- The plans of all calls are open.
use Rattle.std.proofs.Common.{◌≡◌, ℕ, suc, zero, ◌/◌, nat_eq, ℤ, pos, ◌+ℤ◌, Bool, true, false, List, [], ◌∷◌, ◌++◌}
use Rattle.std.proofs.Common.{length, refl, arith}
use Rattle.std.proofs.lemmas.Int.{ints}
use Rattle.std.specs.Prelude.{Some, None, is_some, slice_index_or, replicate}
use Rattle.vms_calls.specs.Common.{AreBytes, CounterId, CpuId, Diffs, Header, Mode, PlaceId, WaterMark, ZoneSize, Shape}
use Rattle.vms_calls.specs.Common.{Absent, CpuState, High, Area, areas_from, areas_of, after, online_from, limit_of}
use Rattle.vms_calls.specs.Common.{counter_at, first_of_group, place_of, group_of, item_count, place_count, MarkRead}
use Rattle.vms_calls.specs.Common.{State, Facts, Step, LoadA, LoadD, LoadG, LoadM, LoadO, LoadS, LoadT, Miss, Put, SetA}
use Rattle.vms_calls.specs.Common.{SetO, Take, History, carried_by, eight_zeros, entry, Choice, ByNormal, ByPressure}
use Rattle.vms_calls.specs.Common.{acknowledges, blocks_at, facts_of, free_pages, has_room, in_turn, is_doubtful}
use Rattle.vms_calls.specs.Common.{node_number, numbers_below, rating_steps, system_steps, to_place, zones_on}
use Rattle.vms_calls.specs.Common.{zones_up_to}
use Rattle.vms_core.proofs.Common.{get_or-copies}
use Rattle.vms_calls.specs.LookReadings.{differential_told, mark_told, online_told, value_told}
use Rattle.vms_calls.specs.PageCalls.{owns_cpu}
use Rattle.vms_calls.specs.declared.answers.Balance.{Balance}
use Rattle.vms_calls.specs.declared.answers.Balance.TheVariants.{Yes, No}
use Rattle.vms_calls.specs.declared.answers.OrderVerdict.{OrderVerdict}
use Rattle.vms_calls.specs.declared.answers.Verdict.{Verdict}
use Rattle.vms_calls.specs.declared.page_calls.PageAnswer.{PageAnswer}
use Rattle.vms_calls.specs.declared.page_calls.PageAnswer.TheVariants as answer
use Rattle.vms_calls.specs.declared.page_calls.PageCall.TheVariants.{Change, Fold, Test, Value, Snapshot, System}
use Rattle.vms_calls.specs.declared.page_calls.PageCall.TheVariants.{SetPressure, SetNormal, Bury, Turn}
use Rattle.vms_plans.specs.declared.due_steps.DueStep.TheVariants.{Makes, LoadsThreshold, LoadsGroup, Exchanges}
use Rattle.vms_plans.specs.declared.due_steps.DueStep.TheVariants.{ExchangesZeros, Takes, LoadsValue, LoadsSystem}
use Rattle.vms_plans.specs.declared.due_steps.DueStep.TheVariants.{LoadsMark, LoadsState, LoadsAcknowledged}
use Rattle.vms_plans.specs.Common.{Plan, Fits, ends, refuses, waits, asks, either, makes, makes_all, and_then, recorded}
use Rattle.vms_plans.specs.Common.{looks_plan, snapshot_plan, tested, frees_plan, test_plan, carrying, change_plan}
use Rattle.vms_plans.specs.Common.{exchanged_plan, found_plan, loaded_plan, won_plan, acknowledged_plan, fold_plan}
use Rattle.vms_plans.specs.Common.{groups_plan, place_groups, place_plan, places_plan, taken_plan, state_told}
use Rattle.vms_plans.specs.Common.{states_plan, mark_plan, rates_plan, marked_plan, visit_plan, visits_plan, node_plan}
use Rattle.vms_plans.specs.Common.{node_steps, refresh_plan, burial_plan, balance_plan, blocks_plan, further_plan}
use Rattle.vms_plans.specs.Common.{order_plan, ordered, settles_plan, turn_plan, zones_plan, IsOpen, PlansAreOpen}
use Rattle.vms_plans.specs.Common.{SomeStepFits, answering}

open-and_then : {A B : Type 0} (plan : Plan A) (more : A → Plan B) → IsOpen plan → ((a : A) → IsOpen (more a))
    → IsOpen (and_then plan more)
open-and_then (ends a) more here later = later a
open-and_then refuses more here later = absurd here
open-and_then (waits due next) more here later = λ step fits. open-and_then (next step) more (here step fits) later
open-and_then (asks Allows next) more here later =
    λ t usual allowed. open-and_then (next t usual) more (here t usual allowed) later

open-recorded : {A : Type 0} (p : ℕ) (h : History) (plan : Plan A) → IsOpen plan → IsOpen (recorded p h plan)
open-recorded p h (ends a) here = (tt {0})
open-recorded p h refuses here = here
open-recorded p h (waits due next) here =
    λ step fits. open-recorded p (after p (step ∷ []) h) (next step) (here step fits)
open-recorded p h (asks Allows next) here =
    λ t usual allowed. open-recorded p h (next t usual) (here t usual allowed)

open-makes_all : {A : Type 0} (ks : List Step) (plan : Plan A) → IsOpen plan → IsOpen (makes_all ks plan)
open-makes_all [] plan here = here
open-makes_all (k ∷ ks) plan here = λ step fits. open-makes_all ks plan here

open-either : {A : Type 0} (b : Bool) (plan other : Plan A) → IsOpen plan → IsOpen other
    → IsOpen (either b plan other)
open-either true plan other here there = here
open-either false plan other here there = there

looks-open : (k : CounterId) (c n : ℕ) (sum : ℤ) → IsOpen (looks_plan k c n sum)
looks-open k c zero sum = (tt {0})
looks-open k c (suc n) sum = λ state fits. open-either (online_told state)
    (waits (LoadsGroup (record { number = c }) (record { number = group_of k.number }))
    (λ load. looks_plan k (suc c) n (sum +ℤ differential_told k.number load)))
    (looks_plan k (suc c) n sum)
    (λ load fits. looks-open k (suc c) n (sum +ℤ differential_told k.number load))
    (looks-open k (suc c) n sum)

snapshot-open : (shape : Shape) (k : CounterId) → IsOpen (snapshot_plan shape k)
snapshot-open shape k = λ load fits. looks-open k 0 shape.cpus (value_told load)

frees-open : (header : Header) (g : PlaceId) (mark : WaterMark) (most : ℕ) (doubt : Bool) (value : ℤ)
    → IsOpen (frees_plan header g mark most doubt value)
frees-open header g mark most true value =
    open-and_then (snapshot_plan header.layout (free_pages header.layout g))
    (λ free. ends (tested header g mark most false free))
    (snapshot-open header.layout (free_pages header.layout g)) (λ free. (tt {0}))
frees-open header g mark most false value = (tt {0})

test-open : (header : Header) (g : PlaceId) (mark : WaterMark) (most : ℕ) → IsOpen (test_plan header g mark most)
test-open header g mark most = λ first fits load fits' second fits''. frees-open header g mark most
    (is_doubtful (mark_told first) (value_told load) (mark_told second)) (value_told load)

module _ (shape : Shape) (cpu : CpuId) (k : CounterId) (delta : ℤ) (how : Mode) where
  won-open : (t : ℕ) (step : Step) → Fits (ExchangesZeros k t delta how) step
      → IsOpen (won_plan shape cpu k delta how step)
  won-open t (Put l w u d m) fits =
      open-makes_all (carrying shape k (carried_by how u (entry w.values k.number) delta)) (ends (tt {0})) (tt {0})
  won-open t step fits = absurd fits

  exchanged-open : (w : Diffs) (t : ℕ) (step : Step) → Fits (Exchanges k w t delta how) step
      → IsOpen (exchanged_plan shape cpu k delta how t step)
  exchanged-open w t (Put l v u d m) fits =
      open-makes_all (carrying shape k (carried_by how u (entry v.values k.number) delta)) (ends (tt {0})) (tt {0})
  exchanged-open w t (Miss j v) fits = won-open t
  exchanged-open w t step fits = absurd fits

  found-open : (t : ℕ) (step : Step) → Fits (LoadsGroup cpu (record { number = group_of k.number })) step
      → IsOpen (found_plan shape cpu k delta how t step)
  found-open t (LoadD c j w) fits = exchanged-open w t
  found-open t step fits = absurd fits

  loaded-open : (step : Step) → Fits (LoadsThreshold (record { number = place_of shape k.number })) step
      → IsOpen (loaded_plan shape cpu k delta how step)
  loaded-open (LoadT g t a) fits = found-open t
  loaded-open step fits = absurd fits

taken-open : (c : CpuId) (j : ℕ) (more : Diffs → Plan (List Diffs)) → ((w : Diffs) → IsOpen (more w)) → (step : Step)
    → Fits (Takes c (record { number = j })) step → IsOpen (taken_plan j more step)
taken-open c j more later (Take d i w) fits =
    open-makes_all (in_turn to_place (first_of_group j) w.values) (more w) (later w)
taken-open c j more later step fits = absurd fits

groups-open : (c : CpuId) (j n : ℕ) (ws : List Diffs) → IsOpen (groups_plan c j n ws)
groups-open c j zero ws = (tt {0})
groups-open c j (suc n) ws = taken-open c j (λ w. groups_plan c (suc j) n (ws ++ (w ∷ [])))
    (λ w. groups-open c (suc j) n (ws ++ (w ∷ [])))

module _ (shape : Shape) (is_own : Bool) (c : CpuId) where
  acknowledged-open : (g : ℕ) (ws : List Diffs) (step : Step) → Fits (LoadsThreshold (record { number = g })) step
      → IsOpen (acknowledged_plan shape is_own c g ws step)
  acknowledged-open g ws (LoadT f t a) fits =
      open-and_then (place_groups shape is_own c g ws) (λ taken. makes (SetA (record { number = g }) a) (ends taken))
      (groups-open c (group_of (counter_at shape g 0)) (shape.positions / 8) ws) (λ taken step fits. (tt {0}))
  acknowledged-open g ws step fits = absurd fits

  place-open : (b : Bool) (g : ℕ) (ws : List Diffs) → IsOpen (place_plan shape is_own c b g ws)
  place-open true g ws = acknowledged-open g ws
  place-open false g ws = groups-open c (group_of (counter_at shape g 0)) (shape.positions / 8) ws

  places-open : (g n : ℕ) (ws : List Diffs) → IsOpen (places_plan shape is_own c g n ws)
  places-open g zero ws = (tt {0})
  places-open g (suc n) ws = open-and_then (place_plan shape is_own c (acknowledges shape is_own g) g ws)
      (λ taken. places_plan shape is_own c (suc g) n taken) (place-open (acknowledges shape is_own g) g ws)
      (λ taken. places-open (suc g) n taken)

  fold-open : IsOpen (fold_plan shape is_own c)
  fold-open = open-and_then (places_plan shape is_own c 0 (place_count shape) [])
      (λ taken. makes_all (system_steps shape taken 0 (item_count shape)) (ends (tt {0})))
      (places-open 0 (place_count shape) [])
      (λ taken. open-makes_all (system_steps shape taken 0 (item_count shape)) (ends (tt {0})) (tt {0}))

states-open : (c n : ℕ) (states : List CpuState) → IsOpen (states_plan c n states)
states-open c zero states = (tt {0})
states-open c (suc n) states = λ load fits. states-open (suc c) n (states ++ (state_told load ∷ []))

mark-open : (g : ℕ) (cs : List CpuId) → IsOpen (mark_plan g cs)
mark-open g [] = λ load fits. (tt {0})
mark-open g (c ∷ cs) = λ load fits. mark-open g cs

module _ (facts : Facts) (p : ℕ) (online : List CpuId) (Chooses : Choice) where
  rates-open : (g m : ℕ) (h : History) → IsOpen (rates_plan facts p online Chooses g m h)
  rates-open g m h =
      λ t usual allowed. open-makes_all (rating_steps facts p online h g m usual t) (ends t) (tt {0})

  marked-open : (g m : ℕ) (h : History) → IsOpen (marked_plan facts p online Chooses g m h)
  marked-open g m h =
      open-either (nat_eq m 0) (ends 0) (rates_plan facts p online Chooses g m h) (tt {0}) (rates-open g m h)

module _ (p : ℕ) (online : List CpuId) (rated : ℕ → ℕ → History → Plan ℕ)
    (rated_open : (g m : ℕ) (h : History) → IsOpen (rated g m h)) where
  visit-open : (g : ℕ) (h : History) → IsOpen (visit_plan p online rated g h)
  visit-open g h = open-and_then (recorded p h (mark_plan g online))
      (λ (found : MarkRead × History). recorded p found.1 (rated g found.0.mark found.1))
      (open-recorded p h (mark_plan g online) (mark-open g online))
      (λ found. open-recorded p found.1 (rated g found.0.mark found.1) (rated_open g found.0.mark found.1))

  visits-open : (gs ts : List ℕ) (h : History) → IsOpen (visits_plan p online rated gs ts h)
  visits-open [] ts h = (tt {0})
  visits-open (g ∷ gs) ts h = open-and_then (visit_plan p online rated g h)
      (λ (visited : ℕ × History). visits_plan p online rated gs (ts ++ (visited.0 ∷ [])) visited.1)
      (visit-open g h) (λ visited. visits-open gs (ts ++ (visited.0 ∷ [])) visited.1)

module _ (facts : Facts) (p : ℕ) where
  abbrev cpus : Plan (List CpuState)
  cpus = states_plan 0 facts.layout.cpus []

  cpus-open : (h : History) → IsOpen (recorded p h cpus)
  cpus-open h = open-recorded p h cpus (states-open 0 facts.layout.cpus [])

  node-open : (Chooses : Choice) (n : PlaceId) (h : History) → IsOpen (node_plan facts p Chooses n h)
  node-open Chooses n h = open-and_then (recorded p h cpus)
      (λ (found : List CpuState × History). and_then (visits_plan p (online_from 0 found.0)
      (marked_plan facts p (online_from 0 found.0) Chooses) (zones_on facts.layout (node_number facts.layout n)) []
      found.1) (λ thresholds. ends (tt {0})))
      (cpus-open h)
      (λ found. open-and_then (visits_plan p (online_from 0 found.0)
      (marked_plan facts p (online_from 0 found.0) Chooses) (zones_on facts.layout (node_number facts.layout n)) []
      found.1) (λ thresholds. ends (tt {0}))
      (visits-open p (online_from 0 found.0) (marked_plan facts p (online_from 0 found.0) Chooses)
      (marked-open facts p (online_from 0 found.0) Chooses) (zones_on facts.layout (node_number facts.layout n)) []
      found.1) (λ thresholds. (tt {0})))

  refresh-open : (normal : ZoneSize → ℕ → ℕ → Type 0) (h : History) → IsOpen (refresh_plan facts p normal h)
  refresh-open normal h = open-and_then (recorded p h cpus)
      (λ (found : List CpuState × History). and_then (visits_plan p (online_from 0 found.0)
      (rates_plan facts p (online_from 0 found.0) (ByNormal normal)) (numbers_below (length facts.layout.zones)) []
      found.1) (λ thresholds. makes_all (node_steps facts p (online_from 0 found.0) thresholds) (ends (tt {0}))))
      (cpus-open h)
      (λ found. open-and_then (visits_plan p (online_from 0 found.0)
      (rates_plan facts p (online_from 0 found.0) (ByNormal normal)) (numbers_below (length facts.layout.zones)) []
      found.1) (λ thresholds. makes_all (node_steps facts p (online_from 0 found.0) thresholds) (ends (tt {0})))
      (visits-open p (online_from 0 found.0) (rates_plan facts p (online_from 0 found.0) (ByNormal normal))
      (rates-open facts p (online_from 0 found.0) (ByNormal normal)) (numbers_below (length facts.layout.zones)) []
      found.1)
      (λ thresholds. open-makes_all (node_steps facts p (online_from 0 found.0) thresholds) (ends (tt {0})) (tt {0})))

  burial-open : (normal : ZoneSize → ℕ → ℕ → Type 0) (c : CpuId) (h : History)
      → IsOpen (burial_plan facts p normal c h)
  burial-open normal c h = open-and_then (recorded p h (fold_plan facts.layout false c))
      (λ (folded : Unit {0} × History). makes (SetO c) (refresh_plan facts p normal (after p (SetO c ∷ []) folded.1)))
      (open-recorded p h (fold_plan facts.layout false c) (fold-open facts.layout false c))
      (λ folded step fits. refresh-open normal (after p (SetO c ∷ []) folded.1))

blocks-open : (shape : Shape) (g : PlaceId) (areas : List Area) → IsOpen (blocks_plan shape g areas)
blocks-open shape g [] = (tt {0})
blocks-open shape g (area ∷ areas) = open-and_then (snapshot_plan shape (blocks_at shape g area))
    (λ blocks. either (nat_eq blocks 0) (blocks_plan shape g areas) (ends (Some area.order)))
    (snapshot-open shape (blocks_at shape g area))
    (λ blocks. open-either (nat_eq blocks 0) (blocks_plan shape g areas) (ends (Some area.order))
    (blocks-open shape g areas) (tt {0}))

further-open : (header : Header) (g : PlaceId) (mark : WaterMark) (most order : ℕ) (verdict : Verdict)
    → IsOpen (further_plan header g mark most order verdict)
further-open header g mark most zero verdict = (tt {0})
further-open header g mark most (suc n) verdict =
    let areas : List Area = areas_from (suc n) (areas_of header.items) in
    open-either (has_room (limit_of header g.number mark most) (suc n) verdict.free)
    (and_then (blocks_plan header.layout g areas) (λ area. ends (ordered verdict (is_some area) area)))
    (ends (ordered verdict false None))
    (open-and_then (blocks_plan header.layout g areas) (λ area. ends (ordered verdict (is_some area) area))
    (blocks-open header.layout g areas) (λ area. (tt {0})))
    (tt {0})

order-open : (header : Header) (g : PlaceId) (mark : WaterMark) (most order : ℕ)
    → IsOpen (order_plan header g mark most order)
order-open header g mark most order = open-and_then (test_plan header g mark most)
    (further_plan header g mark most order) (test-open header g mark most)
    (λ verdict. further-open header g mark most order verdict)

zones-open : (header : Header) (most order : ℕ) (gs : List ℕ) → IsOpen (zones_plan header most order gs)
zones-open header most order [] = (tt {0})
zones-open header most order (g ∷ gs) = open-and_then (order_plan header (record { number = g }) High most order)
    (λ (verdict : OrderVerdict). either verdict.yes (ends (Yes (record { number = g }) verdict))
    (zones_plan header most order gs))
    (order-open header (record { number = g }) High most order)
    (λ verdict. open-either verdict.yes (ends (Yes (record { number = g }) verdict)) (zones_plan header most order gs)
    (tt {0}) (zones-open header most order gs))

module _ (header : Header) (base : State) (pressure normal : ZoneSize → ℕ → ℕ → Type 0) (n : PlaceId) (p : ℕ) where
  settles-open : (answer : Balance) (h : History) → IsOpen (settles_plan header base pressure normal n p answer h)
  settles-open (Yes g verdict) h = open-and_then (node_plan (facts_of header base) p (ByNormal normal) n h)
      (λ done. ends (Yes g verdict)) (node-open (facts_of header base) p (ByNormal normal) n h) (λ done. (tt {0}))
  settles-open No h = (tt {0})

  turn-open : (order most : ℕ) (h : History) → IsOpen (turn_plan header base pressure normal n p order most h)
  turn-open order most h =
      open-and_then (recorded p h (node_plan (facts_of header base) p (ByPressure pressure normal) n h))
      (λ (pressed : Unit {0} × History). and_then (recorded p pressed.1 (balance_plan header n order most))
      (λ (settled : Balance × History). settles_plan header base pressure normal n p settled.0 settled.1))
      (open-recorded p h (node_plan (facts_of header base) p (ByPressure pressure normal) n h)
      (node-open (facts_of header base) p (ByPressure pressure normal) n h))
      (λ pressed. open-and_then (recorded p pressed.1 (balance_plan header n order most))
      (λ (settled : Balance × History). settles_plan header base pressure normal n p settled.0 settled.1)
      (open-recorded p pressed.1 (balance_plan header n order most)
      (zones-open header most order (zones_up_to header.layout most (node_number header.layout n))))
      (λ settled. settles-open settled.0 settled.1))

open-answering : {A : Type 0} (tell : A → PageAnswer) (plan : Plan A) → IsOpen plan → IsOpen (answering tell plan)
open-answering tell plan here = open-and_then plan (λ a. ends (tell a)) here (λ a. (tt {0}))

pub plans-open : (pressure normal : ZoneSize → ℕ → ℕ → Type 0) → PlansAreOpen pressure normal
plans-open pressure normal header base (Change k delta how) None p h may = absurd may
plans-open pressure normal header base (Change k delta how) (Some own) p h may =
    open-answering (λ made. answer.Done) (change_plan header.layout own k delta how)
    (loaded-open header.layout own k delta how)
plans-open pressure normal header base (Fold c) owner p h may =
    open-answering (λ made. answer.Done) (fold_plan header.layout (owns_cpu owner c) c)
    (fold-open header.layout (owns_cpu owner c) c)
plans-open pressure normal header base (Test g mark most) owner p h may =
    open-answering (λ verdict. answer.Tested verdict) (test_plan header g mark most)
    (test-open header g mark most)
plans-open pressure normal header base (Value k) owner p h may = λ load fits. (tt {0})
plans-open pressure normal header base (Snapshot k) owner p h may =
    open-answering (λ pages. answer.Snapshot pages) (snapshot_plan header.layout k) (snapshot-open header.layout k)
plans-open pressure normal header base (System i) owner p h may = λ load fits. (tt {0})
plans-open pressure normal header base (SetPressure n) (Some own) p h may = absurd may
plans-open pressure normal header base (SetPressure n) None p h may =
    open-answering (λ made. answer.Done) (node_plan (facts_of header base) p (ByPressure pressure normal) n h)
    (node-open (facts_of header base) p (ByPressure pressure normal) n h)
plans-open pressure normal header base (SetNormal n) (Some own) p h may = absurd may
plans-open pressure normal header base (SetNormal n) None p h may =
    open-answering (λ made. answer.Done) (node_plan (facts_of header base) p (ByNormal normal) n h)
    (node-open (facts_of header base) p (ByNormal normal) n h)
plans-open pressure normal header base (Bury c) (Some own) p h may = absurd may
plans-open pressure normal header base (Bury c) None p h may =
    open-answering (λ made. answer.Done) (burial_plan (facts_of header base) p normal c h)
    (burial-open (facts_of header base) p normal c h)
plans-open pressure normal header base (Turn n order most) (Some own) p h may = absurd may
plans-open pressure normal header base (Turn n order most) None p h may =
    open-answering (λ balance. answer.Balanced balance) (turn_plan header base pressure normal n p order most h)
    (turn-open header base pressure normal n p order most h)

-- a list of eight zeros
zero_at : (n k : ℕ) → slice_index_or (replicate n (pos 0)) k (pos 0) ≡ pos 0
zero_at n k = get_or-copies n k (pos 0)

byte_zero : AreBytes eight_zeros
byte_zero k = rw (zero_at 8 k) (omega (arith, ints), omega (arith, ints))

zeros : Diffs
zeros = record { values = eight_zeros; bytes = byte_zero }

pub some-fits : SomeStepFits
unfolding zeros
some-fits (Makes step) = (step, refl)
some-fits (LoadsThreshold g) = (LoadT g 0 0, refl)
some-fits (LoadsGroup c j) = (LoadD c j zeros, (refl, refl))
some-fits (Exchanges k w t delta how) = (Put k w t delta how, refl)
some-fits (ExchangesZeros k t delta how) = (Put k zeros t delta how, (refl, refl))
some-fits (Takes c j) = (Take c j zeros, (refl, refl, refl))
some-fits (LoadsValue k) = (LoadG k (pos 0), refl)
some-fits (LoadsSystem i) = (LoadS i (pos 0), refl)
some-fits (LoadsMark g) = (LoadM g 0 0, refl)
some-fits (LoadsState c) = (LoadO c Absent, refl)
some-fits (LoadsAcknowledged c g) = (LoadA c g None, (refl, refl))
