-- The plan of what is left of a call that gives thresholds at each position.
use Rattle.std.specs.Prelude.{◌≡◌, ℕ, suc, ◌+◌, ◌-◌, ◌<◌, ◌≤◌, true, List, [], ◌∷◌, ◌++◌, length, take, drop}
use Rattle.vms_calls.specs.Common.{CpuId, CpuState, Facts, History, MarkRead, SetM, Shape, Step, ZoneSize, in_turn}
use Rattle.vms_calls.specs.Common.{largest_on, online_from, threshold_steps}
use Rattle.vms_plans.specs.Common.{Plan, and_then, either, ends, makes_all, mark_plan, rates_plan, recorded}
use Rattle.vms_plans.specs.Common.{states_plan, visits_plan}
use Rattle.vms_cursors.specs.OnlineCpus.{flagged, is_flagged}
use Rattle.vms_cursors.specs.RatingCalls.{after_zones, choice_in, spares, visited_from}
use Rattle.vms_cursors.specs.declared.rating_calls.RatingCall.{RatingCall}
use Rattle.vms_cursors.specs.declared.rating_calls.RatingCall.TheVariants.{Refresh}
use Rattle.vms_cursors.specs.declared.rated.Rated.{Rated}
use Rattle.vms_cursors.specs.declared.rating_positions.RatingPosition.{RatingPosition}
use Rattle.vms_cursors.specs.declared.rating_positions.RatingPosition.TheVariants.{States, Zones, Numbers, Asks, Mark}
use Rattle.vms_cursors.specs.declared.rating_positions.RatingPosition.TheVariants.{Thresholds, Nodes}

module _ (facts : Facts) (p : ℕ) (pressure normal : ZoneSize → ℕ → ℕ → Type 0) (call : RatingCall) where
  -- how a zone with a mark is rated
  abbrev pub rated_plan : List CpuId → ℕ → ℕ → History → Plan ℕ
  rated_plan online g m h = either (spares call m) (ends 0)
      (rates_plan facts p online (choice_in call pressure normal) g m h)

  -- visits of these zones after those that got the thresholds `before`, and what follows
  abbrev pub zones_plan : List CpuId → List ℕ → List ℕ → List ℕ → History → Plan (Unit {0})
  zones_plan online before gs ts h = and_then (visits_plan p online (rated_plan online) gs ts h)
      (λ all. after_zones facts p call online (before ++ all))

  -- once the CPUs are known
  abbrev pub online_plan : List CpuId → History → Plan (Unit {0})
  online_plan online h =
      zones_plan online [] (visited_from facts.layout call 0 (length facts.layout.zones)) [] h

  -- from CPU c on, with these known
  abbrev pub states_from : List CpuId → ℕ → History → Plan (Unit {0})
  states_from online c h = and_then (recorded p h (states_plan c (facts.layout.cpus - c) []))
      (λ (found : List CpuState × History). online_plan (online ++ online_from c found.0) found.1)

  module _ (seen : Rated) where
    abbrev pub online_in : List CpuId
    online_in = flagged seen.online.flags 0 facts.layout.cpus

    -- from zone g on
    abbrev pub zones_from : ℕ → History → Plan (Unit {0})
    zones_from g h = zones_plan online_in (take g seen.thresholds)
        (visited_from facts.layout call g (length facts.layout.zones - g)) [] h

    -- after zone g got a threshold
    abbrev pub zone_end : ℕ → ℕ × History → Plan (Unit {0})
    zone_end g visited = zones_plan online_in (take g seen.thresholds)
        (visited_from facts.layout call (g + 1) (length facts.layout.zones - (g + 1))) (visited.0 ∷ []) visited.1

    -- in zone g, from CPU c on
    abbrev pub numbers_from : ℕ → ℕ → History → Plan (Unit {0})
    numbers_from g c h =
        and_then (recorded p h (mark_plan g (flagged seen.online.flags c (facts.layout.cpus - c))))
        (λ (found : MarkRead × History).
        and_then (recorded p found.1 (rated_plan online_in g found.0.mark found.1)) (zone_end g))

    abbrev pub asks_plan : ℕ → ℕ → History → Plan (Unit {0})
    asks_plan g m h = and_then
        (recorded p h (rates_plan facts p online_in (choice_in call pressure normal) g m h)) (zone_end g)

    -- these steps, which give zone g a threshold
    abbrev pub sets_plan : ℕ → ℕ → List Step → History → Plan (Unit {0})
    sets_plan g t steps h = and_then (recorded p h (makes_all steps (ends t))) (zone_end g)

    abbrev pub thresholds_left : ℕ → ℕ → ℕ → List Step
    thresholds_left g t c = threshold_steps g t (flagged seen.online.flags c (facts.layout.cpus - c))

    -- the thresholds of these nodes, of which the first has number i, from CPU c on
    abbrev pub nodes_left : ℕ → ℕ → List ℕ → List Step
    nodes_left i c [] = []
    nodes_left i c (node ∷ nodes) = thresholds_left (length facts.layout.zones + i)
        (largest_on facts.layout (take (length facts.layout.zones) seen.thresholds) node) c
        ++ in_turn (λ k node. threshold_steps (length facts.layout.zones + k)
        (largest_on facts.layout (take (length facts.layout.zones) seen.thresholds) node) online_in) (suc i) nodes

  abbrev pub rating_at : History → RatingPosition → Plan (Unit {0})
  rating_at h (States online c) = states_from (flagged online.flags 0 c) c h
  rating_at h (Zones seen g) = zones_from seen g h
  rating_at h (Numbers seen g c) = numbers_from seen g c h
  rating_at h (Asks seen g m) = asks_plan seen g m h
  rating_at h (Mark seen g t m) = sets_plan seen g t (SetM (record { number = g }) m ∷ thresholds_left seen g t 0) h
  rating_at h (Thresholds seen g t c) = sets_plan seen g t (thresholds_left seen g t c) h
  rating_at h (Nodes seen i c) = makes_all (nodes_left seen i c (drop i facts.layout.nodes)) (ends tt)

-- no rule is asked
abbrev pub IsAnswered : RatingPosition → Type 0
IsAnswered (Asks seen g m) = ⊥
IsAnswered _ = Unit {0}

-- the number of CPUs, of zones, or of the zone is one of the layout
abbrev pub IsPositionWithin : Shape → RatingPosition → Type 0
IsPositionWithin shape (States online c) = c ≤ shape.cpus
IsPositionWithin shape (Zones seen g) = g ≤ length shape.zones
IsPositionWithin shape (Numbers seen g c) = g < length shape.zones
IsPositionWithin shape (Asks seen g m) = g < length shape.zones
IsPositionWithin shape (Mark seen g t m) = g < length shape.zones
IsPositionWithin shape (Thresholds seen g t c) = g < length shape.zones
IsPositionWithin shape (Nodes seen i c) = Unit {0}

-- only a refresh goes on after the zones
abbrev pub IsOfNode : RatingCall → Type 0
IsOfNode Refresh = ⊥
IsOfNode _ = Unit {0}

-- a step is due at the position, or the call has ended there
abbrev pub IsSettled : Shape → RatingCall → RatingPosition → Type 0
IsSettled shape call (States online c) = c < shape.cpus
IsSettled shape call (Zones seen g) = (length shape.zones ≤ g) × IsOfNode call
IsSettled shape call (Numbers seen g c) = c < shape.cpus → is_flagged seen.online.flags c ≡ true
IsSettled shape call (Asks seen g m) = ⊥
IsSettled shape call (Mark seen g t m) = Unit {0}
IsSettled shape call (Thresholds seen g t c) = (c < shape.cpus) × (is_flagged seen.online.flags c ≡ true)
IsSettled shape call (Nodes seen i c) =
    i < length shape.nodes → (c < shape.cpus) × (is_flagged seen.online.flags c ≡ true)
