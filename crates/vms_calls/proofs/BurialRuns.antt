-- The steps of a burial meet their conditions in a row.
use Rattle.std.proofs.Common.{◌≡◌, ℕ, suc, ◌+◌, ◌<◌, ◌≤◌, ◌⊎◌, ⊎_elim, zero, false, ℤ, pos, negsuc, true≢false, List}
use Rattle.std.proofs.Common.{[], ◌∷◌, ◌++◌, length, None, refl, sym, ap, ◌∙◌, subst, arith}
use Rattle.std.specs.Prelude.{All}
use Rattle.std.proofs.lemmas.Bool.{cases_lt}
use Rattle.vms_history.specs.Common.{Diffs, CpuId, Dead, ZoneSize, IsLayout, IsCpu, IsZone, IsGroup, place_count}
use Rattle.vms_history.specs.Common.{item_count, counter_at, group_of, IsValidSize, size_at, own, after}
use Rattle.vms_history.specs.Common.{GivesThresholds}
use Rattle.vms_history.proofs.Common.{own-after, after-steps}
use Rattle.vms_core.specs.declared.steps.Facts.{Facts}
use Rattle.vms_core.specs.declared.steps.Step.{Step}
use Rattle.vms_core.specs.declared.steps.Step.TheVariants.{SetO}
use Rattle.vms_calls.specs.Common.{Buries, Refreshes, FoundPlace, HasGroups, IsFold, place_steps, system_steps}
use Rattle.vms_calls.specs.Common.{to_system, group_steps, lists_of, taken_of_item, acknowledges, in_turn}
use Rattle.vms_core.specs.Common.{HasTakenAll, CarriesNothing, moved, History, cpu_in, has_taken}
use Rattle.vms_calls.proofs.Agreement.{event}
use Rattle.vms_calls.proofs.FoldRuns.{fold-runs}
use Rattle.vms_calls.proofs.FoldSums.{group-moved, next_group}
use Rattle.vms_calls.proofs.StepRuns.{Runs, runs-append}
use Rattle.vms_calls.proofs.TakenSteps.{OnlyMoves, HasTake, only-append, only-groups, has-group, has-left, has-right}
use Rattle.vms_calls.proofs.TakenSteps.{has_taken-made, cpus-kept}
use Rattle.vms_calls.proofs.VisitRuns.{refresh-runs}

only-systems : (facts : Facts) (ws : List Diffs) (i n : ℕ) → OnlyMoves (system_steps facts.layout ws i n)
only-systems facts ws i zero = tt
only-systems facts ws i (suc n) = by (taken_of_item facts.layout i 0 ws) (only-systems facts ws (suc i) n)
  where
    by : (d : ℤ) → OnlyMoves (system_steps facts.layout ws (suc i) n)
        → OnlyMoves (to_system i d ++ system_steps facts.layout ws (suc i) n)
    by (pos zero) rest = rest
    by (pos (suc d)) rest = rest
    by (negsuc d) rest = rest

module _ (facts : Facts) (layout : IsLayout facts.layout) (c : CpuId) where
  -- the steps on the places from z on
  abbrev taking : ℕ → List FoundPlace → List Step
  taking z places = in_turn (λ g found. place_steps facts.layout (acknowledges facts.layout false g) c g found) z places

  only-places : (z : ℕ) (places : List FoundPlace) → OnlyMoves (taking z places)
  only-places z [] = tt
  only-places z (found ∷ places) =
      only-append (in_turn (group_steps c) (group_of (counter_at facts.layout z 0)) found.groups)
      (taking (suc z) places) (only-groups c (group_of (counter_at facts.layout z 0)) found.groups)
      (only-places (suc z) places)

  has-places : (z : ℕ) (places : List FoundPlace) → All (HasGroups facts.layout) places → (j : ℕ)
      → group_of (counter_at facts.layout z 0) ≤ j → j < group_of (counter_at facts.layout (z + length places) 0)
      → HasTake c.number j (taking z places)
  has-places z [] has j from to =
      absurd (let same : z + 0 ≡ z = omega arith in let least = rw same at to in omega arith)
  has-places z (found ∷ places) has j from to =
      let here = has 0 found (omega arith) in
      let first = group_of (counter_at facts.layout z 0) in
      let groups = in_turn (group_steps c) first found.groups in
      let next = next_group (moved 0) c (λ n w. pos 0) (group-moved 0 c) facts.layout layout (λ g t a. refl) (λ g a.
      refl) z in
      ⊎_elim
      (λ (below : j < first + length found.groups).
      has-left c.number j groups (taking (suc z) places) (has-group c first found.groups j from below))
      (λ (above : first + length found.groups ≤ j).
      has-right c.number j groups (taking (suc z) places)
      (has-places (suc z) places (λ n d less. has (suc n) d (omega arith)) j
      (let count = here.one_each in omega arith)
      (let same : z + suc (length places) ≡ suc z + length places = omega arith in rw same at to)))
      (cases_lt j (first + length found.groups))

  fold-only : (steps : List Step) → IsFold facts.layout false c steps → OnlyMoves steps
  fold-only steps fold = subst OnlyMoves (sym fold.in_order)
      (only-append (taking 0 fold.places) (system_steps facts.layout (lists_of fold.places) 0 (item_count facts.layout))
      (only-places 0 fold.places) (only-systems facts (lists_of fold.places) 0 (item_count facts.layout)))

  fold-takes : (steps : List Step) → IsFold facts.layout false c steps → (j : ℕ) → IsGroup facts.layout j
      → HasTake c.number j steps
  fold-takes steps fold j j_in = subst (HasTake c.number j) (sym fold.in_order)
      (has-left c.number j (taking 0 fold.places)
      (system_steps facts.layout (lists_of fold.places) 0 (item_count facts.layout))
      (has-places 0 fold.places fold.groups j (omega arith) (rw fold.one_each (all_groups layout.positions))))
    where
      all_groups : ((facts.layout.positions ≡ 8) ⊎ (facts.layout.positions ≡ 16))
          → j < group_of (counter_at facts.layout (0 + place_count facts.layout) 0)
      all_groups = ⊎_elim
          (λ (e : facts.layout.positions ≡ 8). rw e (let known = rw e at j_in in omega arith))
          (λ (e : facts.layout.positions ≡ 16). rw e (let known = rw e at j_in in omega arith))

module _ (facts : Facts) (layout : IsLayout facts.layout)
    (size : (z : ℕ) → IsZone facts.layout z → IsValidSize (size_at facts.sizes z)) (p : ℕ)
    (normal : ZoneSize → ℕ → ℕ
    → Type 0) (normals : GivesThresholds normal) (c : CpuId) (c_in : IsCpu facts.layout c.number) where
  pub burial-runs : (g : History) (steps : List Step) → cpu_in facts c.number g ≡ Dead
      → CarriesNothing facts.layout (own g p)
      → Buries facts normal c p g steps → Runs facts p None steps g (λ now. Unit {0})
  burial-runs g steps dead nothing buries = subst (λ ks. Runs facts p None ks g (λ now. Unit {0})) (sym buries.in_order)
      (runs-append facts p None buries.fold (SetO c ∷ buries.refresh) g (λ now. Unit {0})
      (fold-runs facts layout p None c c_in false (λ is. absurd (true≢false (sym is))) buries.fold g
      (λ now. Runs facts p None (SetO c ∷ buries.refresh) now (λ later. Unit {0})) buries.folds nothing (
        λ knows. record {
          control = knows.owner;
          cpu = c_in;
          dead = cpus-kept p facts c.number buries.fold g (fold-only facts layout c buries.fold buries.folds) ∙ dead;
          took_all = took_all;
        },
        λ knows told. refresh-runs facts layout size p normal normals (event facts p (SetO c) ∷ after p buries.fold g)
            buries.refresh
            (subst (λ now. Refreshes facts normal p now buries.refresh) (after-steps p buries.fold (SetO c ∷ []) g)
            buries.refreshes),
      )))
    where
      took_all : HasTakenAll facts c.number (own (after p buries.fold g) p)
      took_all j j_in =
          ap (has_taken c.number j) (own-after p buries.fold g)
          ∙ has_taken-made p c.number j buries.fold (own g p)
          (fold-takes facts layout c buries.fold buries.folds j j_in)
