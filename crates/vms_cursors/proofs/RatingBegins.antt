-- How a call that gives thresholds begins.
use Rattle.std.proofs.Common.{◌≡◌, ℕ, suc, zero, ◌+◌, List, [], ◌∷◌, ◌++◌, length, refl, sym, ap, ◌∙◌, arith}
use Rattle.std.specs.Prelude.{filter}
use Rattle.vms_calls.specs.Common.{ByNormal, ByPressure, CpuState, Facts, History, PlaceId, Shape, ZoneSize}
use Rattle.vms_calls.specs.Common.{numbers_below, online_from}
use Rattle.vms_plans.specs.Common.{Plan, and_then, node_plan, recorded, refresh_plan, states_plan, visits_plan}
use Rattle.vms_cursors.specs.RatingCalls.{after_zones, visited_from, visits}
use Rattle.vms_cursors.specs.Ratings.{rated_plan, rating_at}
use Rattle.vms_cursors.specs.declared.online_cpus.OnlineCpus.{OnlineCpus}
use Rattle.vms_cursors.specs.declared.rating_calls.RatingCall.{RatingCall}
use Rattle.vms_cursors.specs.declared.rating_calls.RatingCall.TheVariants.{Pressure, Normal, Refresh}
use Rattle.vms_cursors.specs.declared.rating_positions.RatingPosition.TheVariants.{States}
use Rattle.vms_cursors.proofs.FlaggedCpus.{all_left}
use Rattle.vms_cursors.proofs.KeptNumbers.{kept-are, kept-last}

pub all-are : (shape : Shape) (n : ℕ) → numbers_below n ≡ visited_from shape Refresh 0 n
all-are shape zero = refl
all-are shape (suc n) =
    let start : n ≡ 0 + n = omega arith in
    ap (λ xs. xs ++ (n ∷ [])) (all-are shape n)
    ∙ ap (λ k. visited_from shape Refresh 0 n ++ (k ∷ [])) start
    ∙ sym (kept-last (visits shape Refresh) 0 n)

module _ (facts : Facts) (p : ℕ) (pressure normal : ZoneSize → ℕ → ℕ → Type 0) (h : History) (online : OnlineCpus) where
  -- what follows the states, where these zones are visited
  abbrev follows : RatingCall → List ℕ → List CpuState × History → Plan (Unit {0})
  follows call gs found = and_then (visits_plan p (online_from 0 found.0)
      (rated_plan facts p pressure normal call (online_from 0 found.0)) gs [] found.1)
      (λ all. after_zones facts p call (online_from 0 found.0) all)

  begins : (call : RatingCall) (gs : List ℕ) → gs ≡ visited_from facts.layout call 0 (length facts.layout.zones)
      → and_then (recorded p h (states_plan 0 facts.layout.cpus [])) (follows call gs)
      ≡ rating_at facts p pressure normal call h (States online 0)
  begins call gs same =
      ap (λ zs. and_then (recorded p h (states_plan 0 facts.layout.cpus [])) (follows call zs)) same
      ∙ ap (λ n. and_then (recorded p h (states_plan 0 n []))
      (follows call (visited_from facts.layout call 0 (length facts.layout.zones)))) (sym (all_left facts.layout.cpus))

  pub pressure-begins : (n : PlaceId) → node_plan facts p (ByPressure pressure normal) n h
      ≡ rating_at facts p pressure normal (Pressure n) h (States online 0)
  pressure-begins n = begins (Pressure n)
      (filter (visits facts.layout (Pressure n)) (numbers_below (length facts.layout.zones)))
      (kept-are (visits facts.layout (Pressure n)) (length facts.layout.zones))

  pub normal-begins : (n : PlaceId) → node_plan facts p (ByNormal normal) n h
      ≡ rating_at facts p pressure normal (Normal n) h (States online 0)
  normal-begins n = begins (Normal n)
      (filter (visits facts.layout (Normal n)) (numbers_below (length facts.layout.zones)))
      (kept-are (visits facts.layout (Normal n)) (length facts.layout.zones))

  pub refresh-begins : refresh_plan facts p normal h
      ≡ rating_at facts p pressure normal Refresh h (States online 0)
  refresh-begins = begins Refresh (numbers_below (length facts.layout.zones))
      (all-are facts.layout (length facts.layout.zones))
