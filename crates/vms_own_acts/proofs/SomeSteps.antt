-- For other crates too: each call on the page counters makes a step.
use Rattle.std.proofs.Common.{◌≡◌, ℕ, suc, zero, ◌≤◌, ◌/◌, Bool, true, false, List, [], sym, subst, arith, ⊎_elim}
use Rattle.std.specs.Prelude.{None, Option, Some}
use Rattle.vms_world.specs.Common.{ByNormal, ByPressure, Choice, CpuId, CpuState, Diffs, Facts, Header, IsLayout}
use Rattle.vms_world.specs.Common.{PlaceId, Shape, State, ZoneSize, acknowledges, counter_at, facts_of, group_of}
use Rattle.vms_world.specs.Common.{place_count}
use Rattle.vms_core.specs.Pages.{History}
use Rattle.vms_calls.specs.PageCalls.{owns_cpu}
use Rattle.vms_calls.specs.declared.page_calls.PageCall.{PageCall}
use Rattle.vms_calls.specs.declared.page_calls.PageCall.TheVariants.{Bury, Change, Fold, SetNormal, SetPressure}
use Rattle.vms_calls.specs.declared.page_calls.PageCall.TheVariants.{Snapshot, System, Test, Turn, Value}
use Rattle.vms_plans.specs.Common.{Plan, Runs, and_then, burial_plan, fold_plan, groups_plan, node_plan, place_plan}
use Rattle.vms_plans.specs.Common.{places_plan, plan_of, recorded, states_plan, turn_plan}
use Rattle.vms_plans.proofs.PlanLaws.{splits-and_then, told-recorded}
use Rattle.vms_own_acts.proofs.StepLists.{nothing_first}

-- no answer comes before a step
abbrev pub IsUnended : {A : Type 0} → Plan A → Type 0
IsUnended {A} plan = (answer : A) → Runs plan [] answer → ⊥

unended-and_then : {A B : Type 0} (plan : Plan A) (more : A → Plan B) → IsUnended plan → IsUnended (and_then plan more)
unended-and_then plan more some b run =
    let parts = splits-and_then plan more [] b run in
    let none : parts.first ≡ [] = nothing_first parts.first parts.rest (sym parts.in_order) in
    some parts.answer (subst (λ ks. Runs plan ks parts.answer) none parts.run)

unended-recorded : {A : Type 0} (p : ℕ) (h : History) (plan : Plan A) → IsUnended plan → IsUnended (recorded p h plan)
unended-recorded p h plan some found run = some found.0 (told-recorded p plan h [] found run).0

groups-some : (c : CpuId) (j n : ℕ) (ws : List Diffs) → 1 ≤ n → IsUnended (groups_plan c j n ws)
groups-some c j zero ws some = absurd (omega arith)
groups-some c j (suc n) ws some = λ a run. run

states-some : (c n : ℕ) (states : List CpuState) → 1 ≤ n → IsUnended (states_plan c n states)
states-some c zero states some = absurd (omega arith)
states-some c (suc n) states some = λ a run. run

module _ (shape : Shape) (layout : IsLayout shape) where
  groups_in : 1 ≤ shape.positions / 8
  groups_in = ⊎_elim (λ is. subst (λ n. 1 ≤ n / 8) (sym is) (omega arith))
      (λ is. subst (λ n. 1 ≤ n / 8) (sym is) (omega arith)) layout.positions

  module _ (is_own : Bool) (c : CpuId) where
    place-some : (b : Bool) (g : ℕ) (ws : List Diffs) → IsUnended (place_plan shape is_own c b g ws)
    place-some true g ws = λ a run. run
    place-some false g ws =
        groups-some c (group_of (counter_at shape g 0)) (shape.positions / 8) ws groups_in

    places-some : (g n : ℕ) (ws : List Diffs) → 1 ≤ n → IsUnended (places_plan shape is_own c g n ws)
    places-some g zero ws some = absurd (omega arith)
    places-some g (suc n) ws some =
        unended-and_then (place_plan shape is_own c (acknowledges shape is_own g) g ws)
        (λ taken. places_plan shape is_own c (suc g) n taken) (place-some (acknowledges shape is_own g) g ws)

    fold-some : IsUnended (fold_plan shape is_own c)
    fold-some = unended-and_then (places_plan shape is_own c 0 (place_count shape) []) _
        (places-some 0 (place_count shape) [] (omega (arith, layout.some_zone)))

module _ (facts : Facts) (layout : IsLayout facts.layout) (p : ℕ) where
  cpus-some : (h : History) → IsUnended (recorded p h (states_plan 0 facts.layout.cpus []))
  cpus-some h = unended-recorded p h (states_plan 0 facts.layout.cpus [])
      (states-some 0 facts.layout.cpus [] layout.cpus_least)

  node-some : (Chooses : Choice) (n : PlaceId) (h : History) → IsUnended (node_plan facts p Chooses n h)
  node-some Chooses n h =
      unended-and_then (recorded p h (states_plan 0 facts.layout.cpus [])) _ (cpus-some h)

  burial-some : (normal : ZoneSize → ℕ → ℕ → Type 0) (c : CpuId) (h : History)
      → IsUnended (burial_plan facts p normal c h)
  burial-some normal c h = unended-and_then (recorded p h (fold_plan facts.layout false c)) _
      (unended-recorded p h (fold_plan facts.layout false c) (fold-some facts.layout layout false c))

module _ (header : Header) (layout : IsLayout header.layout) (base : State)
    (pressure normal : ZoneSize → ℕ → ℕ → Type 0) where
  pub call-some : (call : PageCall) (owner : Option CpuId) (p : ℕ) (h : History)
      → IsUnended (plan_of header base pressure normal call owner p h)
  call-some (Change k delta how) None p h = λ a run. run
  call-some (Change k delta how) (Some own) p h = λ a run. run
  call-some (Fold c) owner p h = unended-and_then (fold_plan header.layout (owns_cpu owner c) c) _
      (fold-some header.layout layout (owns_cpu owner c) c)
  call-some (Test g mark most) owner p h = λ a run. run
  call-some (Value k) owner p h = λ a run. run
  call-some (Snapshot k) owner p h = λ a run. run
  call-some (System i) owner p h = λ a run. run
  call-some (SetPressure n) (Some own) p h = λ a run. run
  call-some (SetPressure n) None p h =
      unended-and_then (node_plan (facts_of header base) p (ByPressure pressure normal) n h) _
      (node-some (facts_of header base) layout p (ByPressure pressure normal) n h)
  call-some (SetNormal n) (Some own) p h = λ a run. run
  call-some (SetNormal n) None p h =
      unended-and_then (node_plan (facts_of header base) p (ByNormal normal) n h) _
      (node-some (facts_of header base) layout p (ByNormal normal) n h)
  call-some (Bury c) (Some own) p h = λ a run. run
  call-some (Bury c) None p h = unended-and_then (burial_plan (facts_of header base) p normal c h) _
      (burial-some (facts_of header base) layout p normal c h)
  call-some (Turn n order most) (Some own) p h = λ a run. run
  call-some (Turn n order most) None p h =
      unended-and_then (turn_plan header base pressure normal n p order most h) _
      (unended-and_then (recorded p h (node_plan (facts_of header base) p (ByPressure pressure normal) n h)) _
      (unended-recorded p h (node_plan (facts_of header base) p (ByPressure pressure normal) n h)
      (node-some (facts_of header base) layout p (ByPressure pressure normal) n h)))
