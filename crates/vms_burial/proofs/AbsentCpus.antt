-- Once the control pass has folded a dead CPU, the CPU may become absent, whatever others did.
use Rattle.std.proofs.Common.{◌≡◌, ℕ, ◌+◌, false, List, [], ◌∷◌, ◌++◌, length, map, Option, None, refl, arith}
use Rattle.std.proofs.lemmas.List.{length-map}
use Rattle.vms_world.specs.Common.{CpuId, ZoneSize, online_from, IsCpu, GivesThresholds, own, after, IsFold, in_turn}
use Rattle.vms_world.specs.Common.{MakesBurial, ControlsIn, HasMade, ByNormal, Rates, Refreshes, VisitsEach}
use Rattle.vms_world.specs.Common.{acknowledged_steps, largest_on, numbers_below, rating_steps, state_steps}
use Rattle.vms_world.specs.Common.{threshold_steps, next, Facts, Step, LoadM, SetO, cpu_at, SetsAbsent, pages}
use Rattle.vms_base.specs.declared.kinds.CpuState.TheVariants.{Dead}
use Rattle.vms_history.proofs.Common.{base_can_begin}
use Rattle.vms_calls.specs.Ratings.VisitsEach.{none}
use Rattle.vms_core.specs.Own.{CarriesNothing}
use Rattle.vms_core.specs.Pages.{History, state_after}

-- a rule that answers 1
abbrev pub IsOne : ZoneSize → ℕ → ℕ → Type 0
IsOne size online t = t ≡ 1

pub one-gives : GivesThresholds IsOne
one-gives size online t valid some few is = (omega (arith, is), omega (arith, is))

-- some refresh may follow in any history
module _ (facts : Facts) (p : ℕ) (online : List CpuId) where
  some-visits : (gs : List ℕ) (h : History)
      → (ts : List ℕ) × (steps : List Step)
      × VisitsEach facts p online (Rates facts p online (ByNormal IsOne)) gs ts h steps
  some-visits [] h = ([], [], none h)
  some-visits (g ∷ gs) h =
      let numbers : List (Option ℕ) = map (λ (c : CpuId). None) online in
      let loads : List Step = acknowledged_steps g online numbers ++ (LoadM (record { number = g }) 0 0 ∷ []) in
      let further : List Step = rating_steps facts p online (after p loads h) g 0 1 1 in
      let rest = some-visits gs (after p (loads ++ further) h) in (
        1 ∷ rest.0,
        (loads ++ further) ++ rest.1,
        next g 1 gs rest.0 h (loads ++ further) rest.1 (record {
          numbers = numbers;
          one_each = length-map online (λ (c : CpuId). None);
          mark = record { mark = 0; number = 0 };
          loads = loads;
          loads_are = refl {a = loads};
          further = further;
          rated = record { usual = 1; chosen = (refl {a = 1}, refl {a = 1}); in_order = refl {a = further} };
          in_order = refl {a = loads ++ further};
        }) rest.2,
      )

some-refresh : (facts : Facts) (p : ℕ) (h : History) → length facts.base.cpu ≡ facts.layout.cpus
    → (steps : List Step) × Refreshes facts IsOne p h steps
some-refresh facts p h one_each =
    let online = online_from 0 facts.base.cpu in
    let looks : List Step = in_turn state_steps 0 facts.base.cpu in
    let visits = some-visits facts p online (numbers_below (length facts.layout.zones)) (after p looks h) in
    let steps : List Step =
    (looks ++ visits.1)
    ++ in_turn
    (λ i node. threshold_steps (length facts.layout.zones + i) (largest_on facts.layout visits.0 node) online) 0
    facts.layout.nodes in (
      steps,
      record {
        states = facts.base.cpu;
        one_each = one_each;
        thresholds = visits.0;
        further = visits.1;
        visits = visits.2;
        in_order = refl {a = steps};
      },
    )

pub folded-absent : MakesBurial IsOne → (facts : Facts) (earlier later : History) (p : ℕ) (c : CpuId)
    (fold : List Step) → ControlsIn facts earlier p → IsCpu facts.layout c.number
    → cpu_at (state_after facts earlier) c.number ≡ Dead → CarriesNothing facts.layout (own earlier p)
    → IsFold facts.layout false c fold → HasMade facts later earlier p fold
    → SetsAbsent facts later (state_after facts later) p c
folded-absent burial facts earlier later p c fold controls c_in dead nothing folds made =
    let shaped = (base_can_begin pages facts earlier controls.living.legal).opening.shaped in
    let refresh = some-refresh facts p (after p (fold ++ (SetO c ∷ [])) earlier) shaped.cpu in
    (burial facts earlier p c controls c_in dead nothing later fold (SetO c) refresh.0 (record {
      fold = fold;
      folds = folds;
      refresh = refresh.0;
      refreshes = refresh.1;
      in_order = refl;
    }) made tt).2
