-- The plans of the calls that set thresholds and marks, and of a burial, from the history in which a call begins.
use Rattle.std.specs.Prelude.{ℕ, zero, suc, ◌+◌, nat_eq, false, List, [], ◌∷◌, ◌++◌, length}
use Rattle.vms_calls.specs.Common.{CpuId, PlaceId, CpuState, Absent, ZoneSize, after, size_at, online_from, MarkRead}
use Rattle.vms_calls.specs.Common.{Facts, Step, LoadO, SetO, History, in_turn, Choice, ByNormal, rating_steps}
use Rattle.vms_calls.specs.Common.{threshold_steps, node_number, numbers_below, zones_on, largest_on}
use Rattle.vms_calls.specs.LookReadings.{mark_told}
use Rattle.vms_plans.specs.declared.due_steps.DueStep.TheVariants.{LoadsMark, LoadsState, LoadsAcknowledged}
use Rattle.vms_plans.specs.FoldPlans.{fold_plan}
use Rattle.vms_plans.specs.Plans.{Plan, ends, waits, asks, either, makes, makes_all, and_then, recorded}

-- the state of a CPU that a load tells
abbrev pub state_told : Step → CpuState
state_told (LoadO c x) = x
state_told _ = Absent

-- the states of n CPUs from CPU c on, with those that were loaded before
abbrev pub states_plan : ℕ → ℕ → List CpuState → Plan (List CpuState)
states_plan c zero states = ends states
states_plan c (suc n) states =
    waits (LoadsState (record { number = c })) (λ load. states_plan (suc c) n (states ++ (state_told load ∷ [])))

-- what these CPUs acknowledged last of zone g, and then its mark
abbrev pub mark_plan : ℕ → List CpuId → Plan MarkRead
mark_plan g [] = waits (LoadsMark (record { number = g })) (λ load. ends (mark_told load))
mark_plan g (c ∷ cs) = waits (LoadsAcknowledged c (record { number = g })) (λ load. mark_plan g cs)

module _ (facts : Facts) (p : ℕ) (online : List CpuId) (Chooses : Choice) where
  -- zone g, whose mark was found to be m, gets a threshold that the rules choose: the answer
  abbrev pub rates_plan : ℕ → ℕ → History → Plan ℕ
  rates_plan g m h = asks (Chooses (size_at facts.sizes g) (length online))
      (λ t usual. makes_all (rating_steps facts p online h g m usual t) (ends t))

  -- the same where the mark is not 0
  abbrev pub marked_plan : ℕ → ℕ → History → Plan ℕ
  marked_plan g m h = either (nat_eq m 0) (ends 0) (rates_plan g m h)

-- visits of zones, with the thresholds that zones before them got
module _ (p : ℕ) (online : List CpuId) (rated : ℕ → ℕ → History → Plan ℕ) where
  abbrev pub visit_plan : ℕ → History → Plan (ℕ × History)
  visit_plan g h = and_then (recorded p h (mark_plan g online))
      (λ (found : MarkRead × History). recorded p found.1 (rated g found.0.mark found.1))

  abbrev pub visits_plan : List ℕ → List ℕ → History → Plan (List ℕ)
  visits_plan [] ts h = ends ts
  visits_plan (g ∷ gs) ts h =
      and_then (visit_plan g h) (λ (visited : ℕ × History). visits_plan gs (ts ++ (visited.0 ∷ [])) visited.1)

module _ (facts : Facts) (p : ℕ) where
  -- the thresholds of a node's zones
  abbrev pub node_plan : Choice → PlaceId → History → Plan (Unit {0})
  node_plan Chooses n h = and_then (recorded p h (states_plan 0 facts.layout.cpus []))
      (λ (found : List CpuState × History). and_then (visits_plan p (online_from 0 found.0)
      (marked_plan facts p (online_from 0 found.0) Chooses) (zones_on facts.layout (node_number facts.layout n)) []
      found.1) (λ thresholds. ends tt))

  -- the thresholds of the nodes, each the largest of its zones
  abbrev pub node_steps : List CpuId → List ℕ → List Step
  node_steps online thresholds = in_turn (λ i node. threshold_steps (length facts.layout.zones + i)
      (largest_on facts.layout thresholds node) online) 0 facts.layout.nodes

  -- a refresh
  abbrev pub refresh_plan : (ZoneSize → ℕ → ℕ → Type 0) → History → Plan (Unit {0})
  refresh_plan normal h = and_then (recorded p h (states_plan 0 facts.layout.cpus []))
      (λ (found : List CpuState × History). and_then (visits_plan p (online_from 0 found.0)
      (rates_plan facts p (online_from 0 found.0) (ByNormal normal)) (numbers_below (length facts.layout.zones)) []
      found.1) (λ thresholds. makes_all (node_steps (online_from 0 found.0) thresholds) (ends tt)))

  -- a burial: the fold, the CPU is made absent, and a refresh
  abbrev pub burial_plan : (ZoneSize → ℕ → ℕ → Type 0) → CpuId → History → Plan (Unit {0})
  burial_plan normal c h = and_then (recorded p h (fold_plan facts.layout false c))
      (λ (folded : Unit {0} × History).
      makes (SetO c) (refresh_plan normal (after p (SetO c ∷ []) folded.1)))
