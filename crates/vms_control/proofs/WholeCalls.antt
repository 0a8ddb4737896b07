-- The loads of the CPUs' states and the visits make a whole call.
use Rattle.std.proofs.Common.{◌≡◌, ◌≢◌, ℕ, ◌<◌, ◌≤◌, ◌&&◌, nat_le, nat_lt, Bool, true, false, if◌then◌else◌, List, ◌++◌}
use Rattle.std.proofs.Common.{length, refl, ap, ◌∙◌, subst, arith}
use Rattle.vms_calls.specs.Common.{CpuId, PlaceId, CpuState, ZoneSize, online_from, Shape, IsPlace, in_turn}
use Rattle.vms_calls.specs.Common.{KnowsByOwnSteps, ByNormal, ByPressure, Choice, Rates, RatesMarked, RatesNode}
use Rattle.vms_calls.specs.Common.{Refreshes, VisitsEach, node_number, numbers_below, state_steps, zones_on, Facts}
use Rattle.vms_calls.specs.Common.{Step, IsControl, CarriesNothing, carried, carried_of_item, pages, state_after}
use Rattle.vms_calls.specs.Common.{most_sets, after, own, choice_of, rated_by}
use Rattle.vms_calls.proofs.Common.{Each, node-each, refresh-each, states-each, IsStill, ratings-still, still-leaves}
use Rattle.vms_calls.specs.declared.choices.Rating.{Rating}
use Rattle.vms_calls.specs.declared.choices.Rating.TheVariants.{Pressure, Normal, Refresh}
use Rattle.vms_control.specs.Common.{MayStillSet, SetsAtMost, never, once}
use Rattle.vms_control.proofs.LargestSets.{largest-may}
use Rattle.vms_control.proofs.NodeThresholds.{node_steps}
use Rattle.vms_control.proofs.PassCalls.{control-old, has-made, sums-made}
use Rattle.vms_control.proofs.QuietSteps.{SetsNothing, looks-set_nothing, quiet-sets}
use Rattle.vms_control.proofs.SameSums.{marked-same, rates-same, visits_each-same}
use Rattle.vms_control.proofs.StepCounts.{still-may}
use Rattle.vms_seats.specs.Common.{Pass, Shared, IsFrom, Made}
use Rattle.vms_seats.proofs.Common.{calls-both}
use Rattle.vms_words.specs.Common.{largest_sets}

pub once-little : (from to g : ℕ) → once from to g ≤ 1
once-little from to g = by (nat_le from g && nat_lt g to)
  where
    by : (b : Bool) → (if b then 1 else 0) ≤ 1
    by true = omega arith
    by false = omega arith

-- steps that move nothing leave what the pass carries
pub still-nothing : (shape : Shape) (new old : Pass Facts Step) (steps : List Step) → Made pages new old steps
    → Each IsStill steps → CarriesNothing shape (own old.seen old.number)
    → CarriesNothing shape (own new.seen new.number)
still-nothing shape new old steps made still nothing =
    let mine : own new.seen new.number ≡ after old.number steps (own old.seen old.number) =
    ap (own new.seen) made.number ∙ made.made.made in
    let leaves = still-leaves shape old.number steps (own old.seen old.number) still in
    record {
      counters = λ k. ap (carried k) mine ∙ leaves.carries.counters k ∙ nothing.counters k;
      items = λ i. ap (carried_of_item shape i) mine ∙ leaves.carries.items i ∙ nothing.items i;
    }

module _ (words : Shared Facts) (mid old : Pass Facts Step) (of : IsFrom old words) (states : List CpuState)
    (loaded : Made pages mid old (in_turn state_steps 0 states)) where
  pub first-control : IsControl mid.seen mid.number → IsControl old.seen old.number
  first-control = control-old words mid old (in_turn state_steps 0 states) of loaded

  -- the loads set nothing
  pub loaded-still : IsControl mid.seen mid.number → SetsAtMost words.facts never never mid.seen old.seen
  loaded-still control = quiet-sets words.facts mid.seen old.seen old.number (in_turn state_steps 0 states)
      (has-made words mid old (in_turn state_steps 0 states) of loaded) (first-control control)
      (states-each SetsNothing looks-set_nothing 0 states)

  -- so each word may be set once more after them
  pub loaded-room : largest_sets words.facts.layout (state_after words.facts old.seen) < most_sets
      → IsControl mid.seen mid.number → (g : ℕ) → IsPlace words.facts.layout g → MayStillSet words.facts mid.seen g
  loaded-room room control g g_in =
      still-may words.facts never never mid.seen old.seen g g_in (loaded-still control) refl refl
      (largest-may words.facts old.seen room g g_in)

  module _ (know : KnowsByOwnSteps) (control : IsControl mid.seen mid.number)
      (one_each : length states ≡ words.facts.layout.cpus) (online : List CpuId) (found : online ≡ online_from 0 states)
      (new : Pass Facts Step) where
    abbrev zones : PlaceId → List ℕ
    zones n = zones_on words.facts.layout (node_number words.facts.layout n)

    node-made : (n : PlaceId) (Chooses : Choice) → (ts : List ℕ) (steps : List Step)
        → VisitsEach words.facts mid.number online (RatesMarked words.facts mid.number online Chooses) (zones n) ts
        mid.seen steps → Made pages new mid steps
        → (steps : List Step) × RatesNode words.facts Chooses n old.number old.seen steps × Made pages new old steps
    node-made n Chooses ts steps visits made =
        let p = old.number in
        let loads = in_turn state_steps 0 states in
        let cs = online_from 0 states in
        let at_old : VisitsEach words.facts p cs (RatesMarked words.facts p cs Chooses) (zones n) ts mid.seen steps =
        subst (λ (ds : List CpuId). VisitsEach words.facts p ds (RatesMarked words.facts p ds Chooses) (zones n) ts
        mid.seen steps) found
        (subst (λ (q : ℕ). VisitsEach words.facts q online (RatesMarked words.facts q online Chooses) (zones n) ts
        mid.seen steps) loaded.number visits) in (
          loads ++ steps,
          record {
            states = states;
            one_each = one_each;
            thresholds = ts;
            further = steps;
            visits = visits_each-same words.facts p cs (RatesMarked words.facts p cs Chooses)
                (marked-same words.facts p cs Chooses) (zones n) ts mid.seen (after p loads old.seen) steps
                (sums-made words mid old loads of loaded know (first-control control)) at_old;
            in_order = refl;
          },
          calls-both pages new mid old loads steps made loaded,
        )

    pub node-call : (n : PlaceId) (pressure normal : ZoneSize → ℕ → ℕ → Type 0) (rating : Rating) → rating ≢ Refresh
        → (ts : List ℕ) × (steps : List Step) × VisitsEach words.facts mid.number online
        (rated_by rating pressure normal words.facts mid.number online) (zones n) ts mid.seen steps
        × Made pages new mid steps
        → (steps : List Step) × RatesNode words.facts (choice_of rating pressure normal) n old.number old.seen steps
        × Made pages new old steps
    node-call n pressure normal Pressure other visited =
        node-made n (ByPressure pressure normal) visited.0 visited.1 visited.2 visited.3
    node-call n pressure normal Normal other visited =
        node-made n (ByNormal normal) visited.0 visited.1 visited.2 visited.3
    node-call n pressure normal Refresh other visited = absurd (other refl)

    -- all zones are visited, and then the thresholds of all nodes are set
    pub refresh-call : (normal : ZoneSize → ℕ → ℕ → Type 0) (ts : List ℕ) (visited : Pass Facts Step)
        → (steps : List Step) × VisitsEach words.facts mid.number online
        (Rates words.facts mid.number online (ByNormal normal)) (numbers_below (length words.facts.layout.zones)) ts
        mid.seen steps × Made pages visited mid steps
        → Made pages new visited (in_turn (node_steps words.facts.layout ts online) 0 words.facts.layout.nodes)
        → (steps : List Step) × Refreshes words.facts normal old.number old.seen steps × Made pages new old steps
    refresh-call normal ts visited visits nodes_set =
        let p = old.number in
        let loads = in_turn state_steps 0 states in
        let cs = online_from 0 states in
        let gs = numbers_below (length words.facts.layout.zones) in
        let steps = visits.0 in
        let last = in_turn (node_steps words.facts.layout ts cs) 0 words.facts.layout.nodes in
        let at_old : VisitsEach words.facts p cs (Rates words.facts p cs (ByNormal normal)) gs ts mid.seen steps =
        subst (λ (ds : List CpuId). VisitsEach words.facts p ds (Rates words.facts p ds (ByNormal normal)) gs ts
        mid.seen steps) found
        (subst (λ (q : ℕ). VisitsEach words.facts q online (Rates words.facts q online (ByNormal normal)) gs ts mid.seen
        steps) loaded.number visits.1) in
        let set : Made pages new visited last =
        subst (λ (ds : List CpuId). Made pages new visited
        (in_turn (node_steps words.facts.layout ts ds) 0 words.facts.layout.nodes)) found nodes_set in (
          (loads ++ steps) ++ last,
          record {
            states = states;
            one_each = one_each;
            thresholds = ts;
            further = steps;
            visits = visits_each-same words.facts p cs (Rates words.facts p cs (ByNormal normal))
                (rates-same words.facts p cs (ByNormal normal)) gs ts mid.seen (after p loads old.seen) steps
                (sums-made words mid old loads of loaded know (first-control control)) at_old;
            in_order = refl;
          },
          calls-both pages new visited old (loads ++ steps) last set
              (calls-both pages visited mid old loads steps visits.2 loaded),
        )

pub refresh-nothing : (facts : Facts) (normal : ZoneSize → ℕ → ℕ → Type 0) (new old : Pass Facts Step)
    (steps : List Step) → Refreshes facts normal old.number old.seen steps → Made pages new old steps
    → CarriesNothing facts.layout (own old.seen old.number) → CarriesNothing facts.layout (own new.seen new.number)
refresh-nothing facts normal new old steps refresh made =
    still-nothing facts.layout new old steps made
    (refresh-each IsStill ratings-still facts normal old.number old.seen steps refresh)

-- what the pass carried it carries after the call
pub node-nothing : (facts : Facts) (Chooses : Choice) (n : PlaceId) (new old : Pass Facts Step) (steps : List Step)
    → RatesNode facts Chooses n old.number old.seen steps → Made pages new old steps
    → CarriesNothing facts.layout (own old.seen old.number) → CarriesNothing facts.layout (own new.seen new.number)
node-nothing facts Chooses n new old steps rates made =
    still-nothing facts.layout new old steps made
    (node-each IsStill ratings-still facts Chooses n old.number old.seen steps rates)
