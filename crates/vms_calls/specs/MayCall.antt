-- The steps of each call may be made one after another, whatever other callers do between them, and whatever the later
-- ones will tell.
use Rattle.std.specs.Prelude.{◌≡◌, ℕ, ◌≤◌, Bool, true, ℤ, List, length, All, Some}
use Rattle.vms_history.specs.Common.{Header, CounterId, CpuId, ItemId, PlaceId, Online, Dead, Mode, WaterMark, ZoneSize}
use Rattle.vms_history.specs.Common.{IsHeader, Shape, IsCpu, IsZone, IsCounter, IsItem, own, after, owner_in}
use Rattle.vms_core.specs.declared.states.State.{State}
use Rattle.vms_core.specs.declared.steps.Facts.{Facts}
use Rattle.vms_core.specs.declared.steps.Step.{Step}
use Rattle.vms_core.specs.Common.{mark_at, cpu_at, IsControl, CarriesNothing, History, state_after, sets, threshold_in}
use Rattle.vms_core.specs.Common.{peak, cpu_in, peak_sum, role}
use Rattle.vms_calls.specs.Changes.{IsChange}
use Rattle.vms_calls.specs.Folds.{IsFold}
use Rattle.vms_calls.specs.LoneChanges.{MayChange}
use Rattle.vms_calls.specs.HeaderFacts.{facts_of}
use Rattle.vms_calls.specs.declared.answers.Verdict.{Verdict}
use Rattle.vms_calls.specs.Looks.{IsPlaceValue, IsSystemValue, IsSnapshot, IsWatermarkTest}
use Rattle.vms_calls.specs.MayMake.{HasMade, MayBegin, IsLivePass, ControlsIn}
use Rattle.vms_calls.specs.Ratings.{Choice, Rates, RatesNode, Refreshes, Buries, mark_left}
use Rattle.vms_calls.specs.declared.answers.OrderVerdict.{OrderVerdict}
use Rattle.vms_calls.specs.declared.answers.Balance.{Balance}
use Rattle.vms_calls.specs.Turns.{IsOrderTest, IsBalanceTest, IsTurn}

-- a live pass may load the value of a counter, and of an item
abbrev pub MakesPlaceValue : Type 0
MakesPlaceValue = (facts : Facts) (h : History) (p : ℕ) (k : CounterId) → IsLivePass facts h p →
    IsCounter facts.layout k.number → MayBegin facts p h (λ steps. (answer : ℕ) × IsPlaceValue k steps answer)

abbrev pub MakesSystemValue : Type 0
MakesSystemValue = (facts : Facts) (h : History) (p : ℕ) (i : ItemId) → IsLivePass facts h p →
    IsItem facts.layout i.number → MayBegin facts p h (λ steps. (answer : ℕ) × IsSystemValue i steps answer)

-- a live pass may take a snapshot of a counter
abbrev pub MakesSnapshot : Type 0
MakesSnapshot = (facts : Facts) (h : History) (p : ℕ) (k : CounterId) → IsLivePass facts h p →
    IsCounter facts.layout k.number →
    MayBegin facts p h (λ steps. (answer : ℕ) × IsSnapshot facts.layout k steps answer)

-- a live pass may test a watermark of a zone
abbrev pub MakesTest : Type 0
MakesTest = (header : Header) (base : State) (h : History) (p : ℕ) (g : PlaceId) (mark : WaterMark) (most : ℕ) →
    IsLivePass (facts_of header base) h p → IsZone header.layout g.number →
    MayBegin (facts_of header base) p h
    (λ steps. (answer : Verdict) × IsWatermarkTest header g mark most steps answer)

-- a live pass may test a zone for an order
abbrev pub MakesOrderTest : Type 0
MakesOrderTest = (header : Header) (base : State) (h : History) (p : ℕ) (g : PlaceId) (mark : WaterMark)
    (most order : ℕ) → IsHeader header → IsLivePass (facts_of header base) h p → IsZone header.layout g.number →
    MayBegin (facts_of header base) p h
    (λ steps. (answer : OrderVerdict) × IsOrderTest header g mark most order steps answer)

-- a live pass may test whether a node is balanced
abbrev pub MakesBalanceTest : Type 0
MakesBalanceTest = (header : Header) (base : State) (h : History) (p : ℕ) (n : PlaceId) (order most : ℕ) →
    IsHeader header → IsLivePass (facts_of header base) h p →
    MayBegin (facts_of header base) p h (λ steps. (answer : Balance) × IsBalanceTest header n order most steps answer)

-- the control pass may make a turn
abbrev pub MakesTurn : (pressure normal : ZoneSize → ℕ → ℕ → Type 0) → Type 0
MakesTurn pressure normal = (header : Header) (base : State) (h : History) (p : ℕ) (n : PlaceId) (order most : ℕ) →
    IsHeader header → ControlsIn (facts_of header base) h p →
    MayBegin (facts_of header base) p h
    (λ steps. (answer : Balance) × IsTurn header base pressure normal n order most p h steps answer)

-- these CPUs of the layout are online
abbrev pub AreOnline : Shape → State → List CpuId → Type 0
AreOnline shape s online = All (λ c. IsCpu shape c.number × (cpu_at s c.number ≡ Online)) online

-- the control pass may rate a zone: give it a threshold, where it found its mark and which CPUs are online
abbrev pub MakesRating : Choice → Type 0
MakesRating Chooses = (facts : Facts) (h : History) (p : ℕ) (online : List CpuId) (g t m : ℕ) →
    ControlsIn facts h p → AreOnline facts.layout (state_after facts h) online → length online ≤ facts.layout.cpus →
    IsZone facts.layout g → mark_at (state_after facts h) g ≡ m →
    MayBegin facts p h (λ steps. Rates facts p online Chooses g t m h steps)

-- the control pass may set the thresholds of a node's zones
abbrev pub MakesNodeRating : Choice → Type 0
MakesNodeRating Chooses = (facts : Facts) (h : History) (p : ℕ) (n : PlaceId) → ControlsIn facts h p →
    MayBegin facts p h (λ steps. RatesNode facts Chooses n p h steps)

-- the control pass may refresh all thresholds
abbrev pub MakesRefresh : (ZoneSize → ℕ → ℕ → Type 0) → Type 0
MakesRefresh normal = (facts : Facts) (h : History) (p : ℕ) → ControlsIn facts h p →
    MayBegin facts p h (λ steps. Refreshes facts normal p h steps)

-- a live pass that carries nothing may fold a CPU, with acknowledgements where it owns the CPU
abbrev pub MakesFold : Type 0
MakesFold = (facts : Facts) (h : History) (p : ℕ) (is_own : Bool) (c : CpuId) → IsLivePass facts h p →
    IsCpu facts.layout c.number → (is_own ≡ true → owner_in role h p ≡ Some c) →
    CarriesNothing facts.layout (own h p) → MayBegin facts p h (λ steps. IsFold facts.layout is_own c steps)

-- the control pass may bury a dead CPU where it carries nothing
abbrev pub MakesBurial : (ZoneSize → ℕ → ℕ → Type 0) → Type 0
MakesBurial normal = (facts : Facts) (h : History) (p : ℕ) (c : CpuId) → ControlsIn facts h p →
    IsCpu facts.layout c.number → cpu_at (state_after facts h) c.number ≡ Dead →
    CarriesNothing facts.layout (own h p) → MayBegin facts p h (λ steps. Buries facts normal c p h steps)

-- the owner of a CPU that may change a counter may make the steps of the change
abbrev pub MakesChange : Type 0
MakesChange = (facts : Facts) (h : History) (p : ℕ) (cpu : CpuId) (k : CounterId) (delta : ℤ) (how : Mode) →
    MayChange facts h p cpu k delta → MayBegin facts p h (λ steps. IsChange facts.layout cpu k delta how steps)

-- peaks, thresholds, marks and the CPUs' states are what these steps of pass p in a row make of the earlier history
pub record AreAsInRow (facts : Facts) (later earlier : History) (p : ℕ) (steps : List Step) : Type 0 where
  pub sets : (c g : ℕ) → sets c g later ≡ sets c g (after p steps earlier)
  pub thresholds : (c g : ℕ) → threshold_in facts c g later ≡ threshold_in facts c g (after p steps earlier)
  pub peaks : (c g : ℕ) → peak facts c g later ≡ peak facts c g (after p steps earlier)
  pub cpus : (c : ℕ) → cpu_in facts c later ≡ cpu_in facts c (after p steps earlier)
  pub marks : (g : ℕ) →
      mark_at (state_after facts later) g ≡ mark_left g (mark_at (state_after facts earlier) g) steps
  -- and what further steps of the pass would make of the sum of the peaks is the same
  pub peak_sums : (more : List Step) (g : ℕ) →
      peak_sum facts g (after p more later) ≡ peak_sum facts g (after p more (after p steps earlier))

-- this holds of what the control pass made while others acted
abbrev pub KnowsByOwnSteps : Type 0
KnowsByOwnSteps = (facts : Facts) (later earlier : History) (p : ℕ) (steps : List Step) →
    HasMade facts later earlier p steps → IsControl earlier p → AreAsInRow facts later earlier p steps
