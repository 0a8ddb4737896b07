-- For other crates too: a call that goes by rules goes by any rules that may answer all that these answer.
use Rattle.std.proofs.Common.{ℕ, List, [], ◌∷◌, ◌++◌, length}
use Rattle.vms_world.specs.Common.{Header, CpuId, PlaceId, ZoneSize, online_from, size_at, after, State, Facts, Step}
use Rattle.vms_world.specs.Common.{SetO, facts_of, in_turn, Buries, ByNormal, ByPressure, Choice, Rates, RatesMarked}
use Rattle.vms_world.specs.Common.{RatesNode, Refreshes, SetsNormal, SetsPressure, Visits, VisitsEach, node_number}
use Rattle.vms_world.specs.Common.{numbers_below, state_steps, zones_on, unmarked, marked, next, Balance, IsTurn}
use Rattle.vms_world.specs.Common.{SetsAfterYes, Yes, No}
use Rattle.vms_core.specs.Pages.{History}
use Rattle.vms_calls.specs.Ratings.VisitsEach.{none}

-- a rule may answer all that another answers
abbrev pub Includes : (answers more : ZoneSize → ℕ → ℕ → Type 0) → Type 0
Includes answers more = (size : ZoneSize) (online t : ℕ) → answers size online t → more size online t

-- the same of choices
abbrev IncludesChoice : Choice → Choice → Type 0
IncludesChoice Chooses More =
    (size : ZoneSize) (online t usual : ℕ) → Chooses size online t usual → More size online t usual

module _ (facts : Facts) (p : ℕ) (online : List CpuId) where
  module _ (Chooses More : Choice) (more : IncludesChoice Chooses More) where
    Rates-more : (g t m : ℕ) (h : History) (steps : List Step) → Rates facts p online Chooses g t m h steps
        → Rates facts p online More g t m h steps
    Rates-more g t m h steps rates = record {
      usual = rates.usual;
      chosen = more (size_at facts.sizes g) (length online) t rates.usual rates.chosen;
      in_order = rates.in_order;
    }

    RatesMarked-more : (g t m : ℕ) (h : History) (steps : List Step) → RatesMarked facts p online Chooses g t m h steps
        → RatesMarked facts p online More g t m h steps
    RatesMarked-more g t m h steps (unmarked k) = unmarked k
    RatesMarked-more g t m h steps (marked t' m' k ks other rates) =
        marked t' m' k ks other (Rates-more g t' m' k ks rates)

  module _ (Rated More : ℕ → ℕ → ℕ → History → List Step → Type 0)
      (more : (g t m : ℕ) (h : History) (steps : List Step) → Rated g t m h steps → More g t m h steps) where
    Visits-more : (g t : ℕ) (h : History) (steps : List Step) → Visits facts p online Rated g t h steps
        → Visits facts p online More g t h steps
    Visits-more g t h steps visits = record {
      numbers = visits.numbers;
      one_each = visits.one_each;
      mark = visits.mark;
      loads = visits.loads;
      loads_are = visits.loads_are;
      further = visits.further;
      rated = more g t visits.mark.mark (after p visits.loads h) visits.further visits.rated;
      in_order = visits.in_order;
    }

    VisitsEach-more : (gs ts : List ℕ) (h : History) (steps : List Step) → VisitsEach facts p online Rated gs ts h steps
        → VisitsEach facts p online More gs ts h steps
    VisitsEach-more gs ts h steps (none k) = none k
    VisitsEach-more gs ts h steps (next g t gs' ts' k first rest visits later) =
        next g t gs' ts' k first rest (Visits-more g t k first visits)
        (VisitsEach-more gs' ts' (after p first k) rest later)

RatesNode-more : (facts : Facts) (Chooses More : Choice) → IncludesChoice Chooses More → (n : PlaceId) (p : ℕ)
    (h : History) (steps : List Step) → RatesNode facts Chooses n p h steps → RatesNode facts More n p h steps
RatesNode-more facts Chooses More more n p h steps rates =
    let online = online_from 0 rates.states in
    record {
      states = rates.states;
      one_each = rates.one_each;
      thresholds = rates.thresholds;
      further = rates.further;
      visits = VisitsEach-more facts p online (RatesMarked facts p online Chooses) (RatesMarked facts p online More)
          (RatesMarked-more facts p online Chooses More more) (zones_on facts.layout (node_number facts.layout n))
          rates.thresholds (after p (in_turn state_steps 0 rates.states) h) rates.further rates.visits;
      in_order = rates.in_order;
    }

IncludesChoice-normal : (normal more : ZoneSize → ℕ → ℕ → Type 0) → Includes normal more
    → IncludesChoice (ByNormal normal) (ByNormal more)
IncludesChoice-normal normal more is size online t usual (answer, same) = (is size online t answer, same)

IncludesChoice-pressure : (pressure normal more_pressure more_normal : ZoneSize → ℕ → ℕ → Type 0)
    → Includes pressure more_pressure → Includes normal more_normal
    → IncludesChoice (ByPressure pressure normal) (ByPressure more_pressure more_normal)
IncludesChoice-pressure pressure normal more_pressure more_normal is_pressure is_normal size online t usual
    (answer, other) = (is_pressure size online t answer, is_normal size online usual other)

module _ (normal more : ZoneSize → ℕ → ℕ → Type 0) (includes : Includes normal more) where
  pub SetsNormal-more : (facts : Facts) (n : PlaceId) (p : ℕ) (h : History) (steps : List Step)
      → SetsNormal facts normal n p h steps → SetsNormal facts more n p h steps
  SetsNormal-more facts =
      RatesNode-more facts (ByNormal normal) (ByNormal more) (IncludesChoice-normal normal more includes)

  Refreshes-more : (facts : Facts) (p : ℕ) (h : History) (steps : List Step) → Refreshes facts normal p h steps
      → Refreshes facts more p h steps
  Refreshes-more facts p h steps refreshes =
      let online = online_from 0 refreshes.states in
      record {
        states = refreshes.states;
        one_each = refreshes.one_each;
        thresholds = refreshes.thresholds;
        further = refreshes.further;
        visits = VisitsEach-more facts p online (Rates facts p online (ByNormal normal))
            (Rates facts p online (ByNormal more))
            (Rates-more facts p online (ByNormal normal) (ByNormal more) (IncludesChoice-normal normal more includes))
            (numbers_below (length facts.layout.zones)) refreshes.thresholds
            (after p (in_turn state_steps 0 refreshes.states) h) refreshes.further refreshes.visits;
        in_order = refreshes.in_order;
      }

  pub Buries-more : (facts : Facts) (c : CpuId) (p : ℕ) (h : History) (steps : List Step)
      → Buries facts normal c p h steps → Buries facts more c p h steps
  Buries-more facts c p h steps buries = record {
    fold = buries.fold;
    folds = buries.folds;
    refresh = buries.refresh;
    refreshes = Refreshes-more facts p (after p (buries.fold ++ (SetO c ∷ [])) h) buries.refresh buries.refreshes;
    in_order = buries.in_order;
  }

  module _ (pressure more_pressure : ZoneSize → ℕ → ℕ → Type 0)
      (includes_pressure : Includes pressure more_pressure) where
    pub SetsPressure-more : (facts : Facts) (n : PlaceId) (p : ℕ) (h : History) (steps : List Step)
        → SetsPressure facts pressure normal n p h steps → SetsPressure facts more_pressure more n p h steps
    SetsPressure-more facts = RatesNode-more facts (ByPressure pressure normal) (ByPressure more_pressure more)
        (IncludesChoice-pressure pressure normal more_pressure more includes_pressure includes)

    SetsAfterYes-more : (facts : Facts) (n : PlaceId) (p : ℕ) (answer : Balance) (h : History) (steps : List Step)
        → SetsAfterYes facts normal n p answer h steps → SetsAfterYes facts more n p answer h steps
    SetsAfterYes-more facts n p (Yes g verdict) h steps sets = SetsNormal-more facts n p h steps sets
    SetsAfterYes-more facts n p No h steps nothing = nothing

    pub IsTurn-more : (header : Header) (base : State) (n : PlaceId) (order most p : ℕ) (h : History)
        (steps : List Step) (answer : Balance)
        → IsTurn header base pressure normal n order most p h steps answer
        → IsTurn header base more_pressure more n order most p h steps answer
    IsTurn-more header base n order most p h steps answer turn = record {
      pressed = turn.pressed;
      presses = SetsPressure-more (facts_of header base) n p h turn.pressed turn.presses;
      test = turn.test;
      tests = turn.tests;
      further = turn.further;
      settles = SetsAfterYes-more (facts_of header base) n p answer (after p (turn.pressed ++ turn.test) h) turn.further
          turn.settles;
      in_order = turn.in_order;
    }
