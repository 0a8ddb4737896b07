-- The calls that set thresholds and marks, under rules that allow what others answered.
use Rattle.std.proofs.Common.{◌≡◌, ℕ, zero, suc, ◌<◌, ◌≤◌, nat_eq, List, [], ◌∷◌, ◌++◌, length, arith}
use Rattle.std.proofs.lemmas.List.Elements.{All-append, All-cons, All-filter, All-head, All-nil, All-tail}
use Rattle.std.specs.Prelude.{All}
use Rattle.vms_calls.proofs.VisitRuns.{online_from-few}
use Rattle.vms_calls.specs.RatingReadings.{SomeOnline}
use Rattle.vms_calls.specs.Ratings.VisitsEach.{none}
use Rattle.vms_world.specs.Common.{IsBase, Buries, ByNormal, ByPressure, Choice, CpuId, CpuState, Facts, IsValidSize}
use Rattle.vms_world.specs.Common.{PlaceId, Rates, RatesMarked, RatesNode, Refreshes, SetO, Step, Visits, VisitsEach}
use Rattle.vms_world.specs.Common.{ZoneSize, after, marked, next, node_number, node_of_zone, numbers_below, online_from}
use Rattle.vms_world.specs.Common.{size_at, unmarked}
use Rattle.vms_core.specs.Pages.{History}
use Rattle.vms_written_rules.specs.Rules.{Allows}

-- where a choice is made, another may be made alike
abbrev pub Follows : Choice → Choice → Type 0
Follows Other Chooses = (size : ZoneSize) (online t usual : ℕ) → IsValidSize size → 1 ≤ online → online ≤ 128
    → Chooses size online t usual → Other size online t usual

pub Follows-normal : (normal other : ZoneSize → ℕ → ℕ → Type 0) → Allows other normal
    → Follows (ByNormal other) (ByNormal normal)
Follows-normal normal other allows size online t usual valid least most is =
    (allows size online t valid least most is.0, is.1)

pub Follows-pressure : (pressure normal pressure' normal' : ZoneSize → ℕ → ℕ → Type 0) → Allows pressure' pressure
    → Allows normal' normal → Follows (ByPressure pressure' normal') (ByPressure pressure normal)
Follows-pressure pressure normal pressure' normal' by_pressure by_normal size online t usual valid least most is =
    (by_pressure size online t valid least most is.0, by_normal size online usual valid least most is.1)

-- numbers below a bound
numbers-below : (m n : ℕ) → m ≤ n → All (λ g. g < n) (numbers_below m)
numbers-below zero n most = All-nil (λ g. g < n)
numbers-below (suc m) n most =
    All-append (λ g. g < n) (numbers_below m) (m ∷ []) (numbers-below m n (omega (arith, most)))
    (All-cons (λ g. g < n) m [] (omega (arith, most)) (All-nil (λ g. g < n)))

module _ (facts : Facts) (base : IsBase facts) (p : ℕ) where
  valid-size : (g : ℕ) → g < length facts.layout.zones → IsValidSize (size_at facts.sizes g)
  valid-size g g_in = base.sizes g (record { managed = 0; min = 0; low = 0; high = 0 })
      (let as_many = base.one_size_each in omega (arith, g_in, as_many))

  few-found : (states : List CpuState) → length states ≡ facts.layout.cpus → length (online_from 0 states) ≤ 128
  few-found states one_each =
      let most = base.layout.cpus_most in
      omega (arith, online_from-few 0 states, one_each, most)

  module _ (online : List CpuId) where
    -- visits go by how a zone is rated
    module _ (Rated Other : ℕ → ℕ → ℕ → History → List Step → Type 0)
        (so : (g t m : ℕ) (h : History) (steps : List Step) → g < length facts.layout.zones → Rated g t m h steps
        → Other g t m h steps) where
      Visits-so : (g t : ℕ) (h : History) (steps : List Step) → g < length facts.layout.zones
          → Visits facts p online Rated g t h steps → Visits facts p online Other g t h steps
      Visits-so g t h steps g_in is = record {
        numbers = is.numbers;
        one_each = is.one_each;
        mark = is.mark;
        loads = is.loads;
        loads_are = is.loads_are;
        further = is.further;
        rated = so g t is.mark.mark (after p is.loads h) is.further g_in is.rated;
        in_order = is.in_order;
      }

      VisitsEach-so : (gs ts : List ℕ) (h : History) (steps : List Step) → All (λ g. g < length facts.layout.zones) gs
          → VisitsEach facts p online Rated gs ts h steps → VisitsEach facts p online Other gs ts h steps
      VisitsEach-so gs ts h steps zones (none k) = none k
      VisitsEach-so gs ts h steps zones (next g t fs us k first rest visits later) =
          next g t fs us k first rest
          (Visits-so g t k first (All-head (λ f. f < length facts.layout.zones) g fs zones) visits)
          (VisitsEach-so fs us (after p first k) rest (All-tail (λ f. f < length facts.layout.zones) g fs zones) later)

    module _ (some : 1 ≤ length online) (few : length online ≤ 128) (Chooses Other : Choice)
        (follows : Follows Other Chooses) where
      Rates-follow : (g t m : ℕ) (h : History) (steps : List Step) → g < length facts.layout.zones
          → Rates facts p online Chooses g t m h steps → Rates facts p online Other g t m h steps
      Rates-follow g t m h steps g_in is = record {
        usual = is.usual;
        chosen = follows (size_at facts.sizes g) (length online) t is.usual (valid-size g g_in) some few is.chosen;
        in_order = is.in_order;
      }

      RatesMarked-follow : (g t m : ℕ) (h : History) (steps : List Step) → g < length facts.layout.zones
          → RatesMarked facts p online Chooses g t m h steps → RatesMarked facts p online Other g t m h steps
      RatesMarked-follow g t m h steps g_in (unmarked k) = unmarked k
      RatesMarked-follow g t m h steps g_in (marked s n k ks other rates) =
          marked s n k ks other (Rates-follow g s n k ks g_in rates)

  pub RatesNode-follow : (Chooses Other : Choice) → Follows Other Chooses → (n : PlaceId) (h : History)
      (steps : List Step) (rates : RatesNode facts Chooses n p h steps) → SomeOnline rates.states
      → RatesNode facts Other n p h steps
  RatesNode-follow Chooses Other follows n h steps rates some =
      let online : List CpuId = online_from 0 rates.states in
      record {
        states = rates.states;
        one_each = rates.one_each;
        thresholds = rates.thresholds;
        further = rates.further;
        visits = VisitsEach-so online (RatesMarked facts p online Chooses) (RatesMarked facts p online Other)
            (RatesMarked-follow online some (few-found rates.states rates.one_each) Chooses Other follows) _ _ _ _
            (All-filter (λ g. nat_eq (node_of_zone facts.layout g) (node_number facts.layout n))
            (λ g. g < length facts.layout.zones)
            (numbers_below (length facts.layout.zones))
            (numbers-below (length facts.layout.zones) (length facts.layout.zones) (omega arith))) rates.visits;
        in_order = rates.in_order;
      }

  module _ (normal other : ZoneSize → ℕ → ℕ → Type 0) (allows : Allows other normal) where
    pub Refreshes-allowed : (h : History) (steps : List Step) (refresh : Refreshes facts normal p h steps)
        → SomeOnline refresh.states → Refreshes facts other p h steps
    Refreshes-allowed h steps refresh some =
        let online : List CpuId = online_from 0 refresh.states in
        record {
          states = refresh.states;
          one_each = refresh.one_each;
          thresholds = refresh.thresholds;
          further = refresh.further;
          visits = VisitsEach-so online (Rates facts p online (ByNormal normal)) (Rates facts p online (ByNormal other))
              (Rates-follow online some (few-found refresh.states refresh.one_each) (ByNormal normal) (ByNormal other)
              (Follows-normal normal other allows)) _ _ _ _
              (numbers-below (length facts.layout.zones) (length facts.layout.zones) (omega arith)) refresh.visits;
          in_order = refresh.in_order;
        }

    pub Buries-allowed : (c : CpuId) (h : History) (steps : List Step) (buries : Buries facts normal c p h steps)
        → SomeOnline buries.refreshes.states → Buries facts other c p h steps
    Buries-allowed c h steps buries some = record {
      fold = buries.fold;
      folds = buries.folds;
      refresh = buries.refresh;
      refreshes = Refreshes-allowed (after p (buries.fold ++ (SetO c ∷ [])) h) buries.refresh buries.refreshes some;
      in_order = buries.in_order;
    }
