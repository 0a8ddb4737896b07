-- Snapshots, tests and folds ask no rule, and a call that gives thresholds asks one at its questions alone.
use Rattle.std.proofs.Common.{ℕ, suc, zero, ◌+◌, ◌-◌, ◌*◌, ◌/◌, drop, take, ℤ, Bool, true, false, List, [], ◌∷◌, ◌++◌}
use Rattle.std.proofs.Common.{length}
use Rattle.std.specs.Prelude.{None, Option, Some}
use Rattle.vms_calls.specs.Common.{CounterId, CpuId, CpuState, Diffs, Facts, Header, History, MarkRead, PlaceId, Shape}
use Rattle.vms_calls.specs.Common.{WaterMark, ZoneSize, acknowledges, counter_at, first_of_group, free_pages, group_of}
use Rattle.vms_calls.specs.Common.{in_turn, item_count, online_from, place_count, to_place}
use Rattle.vms_plans.specs.Common.{Plan, and_then, ends, groups_plan, makes_all, mark_plan, place_plan, places_plan}
use Rattle.vms_plans.specs.Common.{looks_plan, node_steps, recorded, states_plan, tested, visits_plan}
use Rattle.vms_cursors.specs.Folds.{fold_at, groups_from, items_from, items_left, place_end, places_from}
use Rattle.vms_cursors.specs.OnlineCpus.{flagged}
use Rattle.vms_cursors.specs.RatingCalls.{after_zones, visited_from}
use Rattle.vms_cursors.specs.Ratings.{IsAnswered, nodes_left, online_in, online_plan, rated_plan, rating_at}
use Rattle.vms_cursors.specs.Ratings.{thresholds_left, zone_end, zones_plan}
use Rattle.vms_cursors.specs.Snapshots.{snapshot_at}
use Rattle.vms_cursors.specs.Tests.{test_at}
use Rattle.vms_cursors.specs.declared.fold_positions.FoldPosition.{FoldPosition}
use Rattle.vms_cursors.specs.declared.fold_positions.FoldPosition.TheVariants.{Places, Groups, Entries, Items}
use Rattle.vms_cursors.specs.declared.folds.Fold.{Fold}
use Rattle.vms_cursors.specs.declared.rated.Rated.{Rated}
use Rattle.vms_cursors.specs.declared.rating_calls.RatingCall.{RatingCall}
use Rattle.vms_cursors.specs.declared.rating_calls.RatingCall.TheVariants.{Normal, Pressure, Refresh}
use Rattle.vms_cursors.specs.declared.rating_positions.RatingPosition.{RatingPosition}
use Rattle.vms_cursors.specs.declared.rating_positions.RatingPosition.TheVariants as rating
use Rattle.vms_cursors.specs.declared.snapshot_positions.SnapshotPosition.{SnapshotPosition}
use Rattle.vms_cursors.specs.declared.snapshot_positions.SnapshotPosition.TheVariants as snapshot
use Rattle.vms_cursors.specs.declared.taken.Taken.{Taken}
use Rattle.vms_cursors.specs.declared.test_positions.TestPosition.{TestPosition}
use Rattle.vms_cursors.specs.declared.test_positions.TestPosition.TheVariants as test
use Rattle.vms_cursors.proofs.Followed.{AsksNone, none-and_then, none-makes_all, none-recorded}

looks-ask : (k : CounterId) (c n : ℕ) (sum : ℤ) → AsksNone (looks_plan k c n sum)
looks-ask k c zero sum = (tt {0})
looks-ask k c (suc n) sum = (tt {0})

pub snapshot-asks : (shape : Shape) (k : CounterId) (at : SnapshotPosition) → AsksNone (snapshot_at shape k at)
snapshot-asks shape k snapshot.Begun = (tt {0})
snapshot-asks shape k (snapshot.Looks looked) = looks-ask k looked.cpus (shape.cpus - looked.cpus) looked.sum
snapshot-asks shape k (snapshot.Online found) = (tt {0})

pub test-asks : (header : Header) (g : PlaceId) (mark : WaterMark) (most : ℕ) (at : TestPosition)
    → AsksNone (test_at header g mark most at)
test-asks header g mark most test.Begun = (tt {0})
test-asks header g mark most (test.Marked first) = (tt {0})
test-asks header g mark most (test.Valued first value) = (tt {0})
test-asks header g mark most (test.Fast value) = (tt {0})
test-asks header g mark most (test.Doubtful at) =
    none-and_then (snapshot_at header.layout (free_pages header.layout g) at)
    (λ free. ends (tested header g mark most false free))
    (snapshot-asks header.layout (free_pages header.layout g) at) (λ free. (tt {0}))

-- folds
module _ (shape : Shape) (is_own : Bool) (c : CpuId) where
  groups-ask : (j n : ℕ) (ws : List Diffs) → AsksNone (groups_plan c j n ws)
  groups-ask j zero ws = (tt {0})
  groups-ask j (suc n) ws = (tt {0})

  place-asks : (b : Bool) (g : ℕ) (ws : List Diffs) → AsksNone (place_plan shape is_own c b g ws)
  place-asks true g ws = (tt {0})
  place-asks false g ws = groups-ask (group_of (counter_at shape g 0)) (shape.positions / 8) ws

  places-ask : (g n : ℕ) (ws : List Diffs) → AsksNone (places_plan shape is_own c g n ws)
  places-ask g zero ws = (tt {0})
  places-ask g (suc n) ws = none-and_then (place_plan shape is_own c (acknowledges shape is_own g) g ws)
      (λ taken. places_plan shape is_own c (suc g) n taken) (place-asks (acknowledges shape is_own g) g ws)
      (λ taken. places-ask (suc g) n taken)

module _ (shape : Shape) (fold : Fold) where
  from_place-asks : (taken : Taken) (g : ℕ) (ws : List Diffs) → AsksNone (places_from shape taken fold g ws)
  from_place-asks taken g ws = none-and_then (places_plan shape fold.is_own fold.cpu g (place_count shape - g) ws)
      (λ all. items_from shape taken all 0)
      (places-ask shape fold.is_own fold.cpu g (place_count shape - g) ws)
      (λ all. none-makes_all (items_left shape taken all 0 (item_count shape - 0)) (ends (tt {0})) (tt {0}))

  end-asks : (taken : Taken) (g : ℕ) (number : Option ℕ) (ws : List Diffs)
      → AsksNone (place_end shape taken fold g number ws)
  end-asks taken g (Some a) ws = (tt {0})
  end-asks taken g None ws = from_place-asks taken (g + 1) ws

  from_groups-ask : (taken : Taken) (g : ℕ) (number : Option ℕ) → AsksNone (groups_from shape taken fold g number)
  from_groups-ask taken g number =
      none-and_then (groups_plan fold.cpu taken.groups (shape.positions / 8 * (g + 1) - taken.groups) [])
      (place_end shape taken fold g number)
      (groups-ask shape fold.is_own fold.cpu taken.groups (shape.positions / 8 * (g + 1) - taken.groups) [])
      (end-asks taken g number)

  pub fold-asks : (at : FoldPosition) → AsksNone (fold_at shape fold at)
  fold-asks (Places taken g) = from_place-asks taken g []
  fold-asks (Groups taken g number) = from_groups-ask taken g number
  fold-asks (Entries taken g number w n) =
      none-makes_all (in_turn to_place (first_of_group (taken.groups - 1) + n) (drop n w.values))
      (groups_from shape taken fold g number) (from_groups-ask taken g number)
  fold-asks (Items taken i) = none-makes_all (items_left shape taken [] i (item_count shape - i))
      (ends (tt {0})) (tt {0})

-- calls that give thresholds
states-ask : (c n : ℕ) (states : List CpuState) → AsksNone (states_plan c n states)
states-ask c zero states = (tt {0})
states-ask c (suc n) states = (tt {0})

mark-asks : {B : Type 0} (p : ℕ) (h : History) (g : ℕ) (cs : List CpuId) (more : MarkRead × History → Plan B)
    → AsksNone (and_then (recorded p h (mark_plan g cs)) more)
mark-asks p h g [] more = (tt {0})
mark-asks p h g (c ∷ cs) more = (tt {0})

visits-ask : (p : ℕ) (online : List CpuId) (rated : ℕ → ℕ → History → Plan ℕ) (gs ts : List ℕ) (h : History)
    → AsksNone (visits_plan p online rated gs ts h)
visits-ask p online rated [] ts h = (tt {0})
visits-ask p [] rated (g ∷ gs) ts h = (tt {0})
visits-ask p (c ∷ cs) rated (g ∷ gs) ts h = (tt {0})

module _ (facts : Facts) (p : ℕ) (pressure normal : ZoneSize → ℕ → ℕ → Type 0) where
  nodes-ask : (call : RatingCall) (online : List CpuId) (ts : List ℕ) → AsksNone (after_zones facts p call online ts)
  nodes-ask Refresh online ts = none-makes_all (node_steps facts p online ts) (ends (tt {0})) (tt {0})
  nodes-ask (Pressure n) online ts = (tt {0})
  nodes-ask (Normal n) online ts = (tt {0})

  module _ (call : RatingCall) where
    zones-ask : (online : List CpuId) (before gs ts : List ℕ) (h : History)
        → AsksNone (zones_plan facts p pressure normal call online before gs ts h)
    zones-ask online before gs ts h =
        none-and_then (visits_plan p online (rated_plan facts p pressure normal call online) gs ts h)
        (λ all. after_zones facts p call online (before ++ all))
        (visits-ask p online (rated_plan facts p pressure normal call online) gs ts h)
        (λ all. nodes-ask call online (before ++ all))

    zone_end-asks : (seen : Rated) (g : ℕ) (visited : ℕ × History)
        → AsksNone (zone_end facts p pressure normal call seen g visited)
    zone_end-asks seen g visited =
        zones-ask (online_in facts p pressure normal call seen) (take g seen.thresholds)
        (visited_from facts.layout call (g + 1) (length facts.layout.zones - (g + 1))) (visited.0 ∷ []) visited.1

    pub rating-asks : (h : History) (at : RatingPosition) → IsAnswered at
        → AsksNone (rating_at facts p pressure normal call h at)
    rating-asks h (rating.States online c) answered =
        none-and_then (recorded p h (states_plan c (facts.layout.cpus - c) []))
        (λ (found : List CpuState × History).
        online_plan facts p pressure normal call (flagged online.flags 0 c ++ online_from c found.0) found.1)
        (none-recorded p h (states_plan c (facts.layout.cpus - c) []) (states-ask c (facts.layout.cpus - c) []))
        (λ found. zones-ask (flagged online.flags 0 c ++ online_from c found.0) []
        (visited_from facts.layout call 0 (length facts.layout.zones)) [] found.1)
    rating-asks h (rating.Zones seen g) answered =
        zones-ask (online_in facts p pressure normal call seen) (take g seen.thresholds)
        (visited_from facts.layout call g (length facts.layout.zones - g)) [] h
    rating-asks h (rating.Numbers seen g c) answered =
        mark-asks p h g (flagged seen.online.flags c (facts.layout.cpus - c)) (λ (found : MarkRead × History).
        and_then (recorded p found.1 (rated_plan facts p pressure normal call
        (online_in facts p pressure normal call seen) g found.0.mark found.1))
        (zone_end facts p pressure normal call seen g))
    rating-asks h (rating.Asks seen g m) answered = absurd answered
    rating-asks h (rating.Mark seen g t m) answered = (tt {0})
    rating-asks h (rating.Thresholds seen g t c) answered =
        let ks = thresholds_left facts p pressure normal call seen g t c in
        none-and_then (recorded p h (makes_all ks (ends t))) (zone_end facts p pressure normal call seen g)
        (none-recorded p h (makes_all ks (ends t)) (none-makes_all ks (ends t) (tt {0}))) (zone_end-asks seen g)
    rating-asks h (rating.Nodes seen i c) answered =
        none-makes_all (nodes_left facts p pressure normal call seen i c (drop i facts.layout.nodes)) (ends (tt {0}))
        (tt {0})
