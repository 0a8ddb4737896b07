-- Steps by rules that answer as the kernel's do are steps by the kernel's.
use Rattle.std.proofs.Common.{ℕ, List}
use Rattle.vms_world.specs.Common.{RatesNode, Visits, VisitsEach, IsTurn, Balance, ByNormal, ByPressure, Choice, CpuId}
use Rattle.vms_world.specs.Common.{Facts, Header, No, PlaceId, State, Rates, RatesMarked, Refreshes, SetsAfterYes, Step}
use Rattle.vms_world.specs.Common.{Yes, ZoneSize, after, facts_of, marked, next, online_from, unmarked}
use Rattle.vms_calls.specs.Ratings.VisitsEach.{none}
use Rattle.vms_control.specs.SettledMarks.{SettlesAll, SettlesNode}
use Rattle.vms_core.specs.Pages.{History}
use Rattle.vms_seats.specs.Common.{Pass}
use Rattle.vozhkell_c.specs.Openings.{GoesByNormal, GoesByPressure, normal_rule, pressure_rule}

module _ (facts : Facts) (p : ℕ) (online : List CpuId) where
  -- visits whose ratings are of another kind too
  module _ (Rated Rates' : ℕ → ℕ → ℕ → History → List Step → Type 0)
      (into : (g t m : ℕ) (h : History) (steps : List Step) → Rated g t m h steps → Rates' g t m h steps) where
    visit-into : (g t : ℕ) (h : History) (steps : List Step) → Visits facts p online Rated g t h steps
        → Visits facts p online Rates' g t h steps
    visit-into g t h steps visit = record {
      numbers = visit.numbers;
      one_each = visit.one_each;
      mark = visit.mark;
      loads = visit.loads;
      loads_are = visit.loads_are;
      further = visit.further;
      rated = into g t visit.mark.mark (after p visit.loads h) visit.further visit.rated;
      in_order = visit.in_order;
    }

    visits-into : (gs ts : List ℕ) (h : History) (steps : List Step) → VisitsEach facts p online Rated gs ts h steps
        → VisitsEach facts p online Rates' gs ts h steps
    visits-into gs ts h steps (none h') = none h'
    visits-into gs ts h steps (next z t gs' ts' h' first more visit visits) =
        next z t gs' ts' h' first more (visit-into z t h' first visit)
        (visits-into gs' ts' (after p first h') more visits)

  -- ratings that choose as another choice does
  module _ (Chooses Other : Choice)
      (into : (size : ZoneSize) (online t usual : ℕ) → Chooses size online t usual → Other size online t usual) where
    rates-into : (g t m : ℕ) (h : History) (steps : List Step) → Rates facts p online Chooses g t m h steps
        → Rates facts p online Other g t m h steps
    rates-into g t m h steps is =
        record { usual = is.usual; chosen = into _ _ _ _ is.chosen; in_order = is.in_order }

    marked-into : (g t m : ℕ) (h : History) (steps : List Step) → RatesMarked facts p online Chooses g t m h steps
        → RatesMarked facts p online Other g t m h steps
    marked-into g t m h steps (unmarked h') = unmarked h'
    marked-into g t m h steps (marked t' m' h' ks other rates) =
        marked t' m' h' ks other (rates-into g t' m' h' ks rates)

module _ (Chooses Other : Choice)
    (into : (size : ZoneSize) (online t usual : ℕ) → Chooses size online t usual → Other size online t usual) where
  node-into : (facts : Facts) (n : PlaceId) (p : ℕ) (h : History) (steps : List Step)
      → RatesNode facts Chooses n p h steps → RatesNode facts Other n p h steps
  node-into facts n p h steps is = record {
    states = is.states;
    one_each = is.one_each;
    thresholds = is.thresholds;
    further = is.further;
    visits = visits-into facts p (online_from 0 is.states) _ _
        (marked-into facts p (online_from 0 is.states) Chooses Other into) _ is.thresholds _ is.further is.visits;
    in_order = is.in_order;
  }

  settled-into : (facts : Facts) (n : PlaceId) (new old : Pass Facts Step) → SettlesNode facts Chooses n new old
      → SettlesNode facts Other n new old
  settled-into facts n new old is = (
    is.0,
    is.1,
    λ g zone there marked_then newest.
        let left = is.2 g zone there marked_then newest in
        record { t = left.t; usual = left.usual; chosen = into _ _ _ _ left.chosen; mark = left.mark },
  )

module _ (normal : ZoneSize → ℕ → ℕ → Type 0) (goes_normal : GoesByNormal normal) where
  by-normal : (size : ZoneSize) (online t usual : ℕ) → ByNormal normal size online t usual
      → ByNormal normal_rule size online t usual
  by-normal size online t usual is = (goes_normal size online t is.0, is.1)

  pub normal-kernel : (facts : Facts) (n : PlaceId) (p : ℕ) (h : History) (steps : List Step)
      → RatesNode facts (ByNormal normal) n p h steps → RatesNode facts (ByNormal normal_rule) n p h steps
  normal-kernel = node-into (ByNormal normal) (ByNormal normal_rule) by-normal

  pub normal_marks-kernel : (facts : Facts) (n : PlaceId) (new old : Pass Facts Step)
      → SettlesNode facts (ByNormal normal) n new old → SettlesNode facts (ByNormal normal_rule) n new old
  normal_marks-kernel = settled-into (ByNormal normal) (ByNormal normal_rule) by-normal

  pub refresh-kernel : (facts : Facts) (p : ℕ) (h : History) (steps : List Step) → Refreshes facts normal p h steps
      → Refreshes facts normal_rule p h steps
  refresh-kernel facts p h steps is = record {
    states = is.states;
    one_each = is.one_each;
    thresholds = is.thresholds;
    further = is.further;
    visits = visits-into facts p (online_from 0 is.states) _ _
        (rates-into facts p (online_from 0 is.states) (ByNormal normal) (ByNormal normal_rule) by-normal) _
        is.thresholds _ is.further is.visits;
    in_order = is.in_order;
  }

  pub refresh_marks-kernel : (facts : Facts) (new old : Pass Facts Step) → SettlesAll facts normal new old
      → SettlesAll facts normal_rule new old
  refresh_marks-kernel facts new old is = (
    is.0,
    is.1,
    λ g zone newest.
        let left = is.2 g zone newest in
        record { t = left.t; usual = left.usual; chosen = by-normal _ _ _ _ left.chosen; mark = left.mark },
  )

  module _ (pressure : ZoneSize → ℕ → ℕ → Type 0) (goes_pressure : GoesByPressure pressure) where
    by-pressure : (size : ZoneSize) (online t usual : ℕ) → ByPressure pressure normal size online t usual
        → ByPressure pressure_rule normal_rule size online t usual
    by-pressure size online t usual is = (goes_pressure size online t is.0, goes_normal size online usual is.1)

    pub pressure-kernel : (facts : Facts) (n : PlaceId) (p : ℕ) (h : History) (steps : List Step)
        → RatesNode facts (ByPressure pressure normal) n p h steps
        → RatesNode facts (ByPressure pressure_rule normal_rule) n p h steps
    pressure-kernel = node-into (ByPressure pressure normal) (ByPressure pressure_rule normal_rule) by-pressure

    pub pressure_marks-kernel : (facts : Facts) (n : PlaceId) (new old : Pass Facts Step)
        → SettlesNode facts (ByPressure pressure normal) n new old
        → SettlesNode facts (ByPressure pressure_rule normal_rule) n new old
    pressure_marks-kernel = settled-into (ByPressure pressure normal) (ByPressure pressure_rule normal_rule) by-pressure

    after-yes : (facts : Facts) (n : PlaceId) (p : ℕ) (answer : Balance) (h : History) (steps : List Step)
        → SetsAfterYes facts normal n p answer h steps → SetsAfterYes facts normal_rule n p answer h steps
    after-yes facts n p (Yes g verdict) h steps sets = normal-kernel facts n p h steps sets
    after-yes facts n p No h steps sets = sets

    pub turn-kernel : (header : Header) (base : State) (n : PlaceId) (order most p : ℕ) (h : History)
        (steps : List Step) (answer : Balance) → IsTurn header base pressure normal n order most p h steps answer
        → IsTurn header base pressure_rule normal_rule n order most p h steps answer
    turn-kernel header base n order most p h steps answer is = record {
      pressed = is.pressed;
      presses = pressure-kernel (facts_of header base) n p h is.pressed is.presses;
      test = is.test;
      tests = is.tests;
      further = is.further;
      settles = after-yes (facts_of header base) n p answer _ is.further is.settles;
      in_order = is.in_order;
    }
