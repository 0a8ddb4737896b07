-- The steps of the calls that set thresholds and marks, and of a burial, on top of the history in which a call begins.
use Rattle.std.specs.Prelude.{◌≡◌, ◌≢◌, ℕ, suc, zero, ◌+◌, ◌-◌, nat_eq, false, List, [], ◌∷◌, ◌++◌, length, map, filter}
use Rattle.std.specs.Prelude.{slice_index_or, if◌then◌else◌, Option}
use Rattle.vms_history.specs.Common.{CpuId, PlaceId, CpuState, ZoneSize, Covers, linux_mark_of, cover_mark_of, Shape}
use Rattle.vms_history.specs.Common.{node_of_zone, after, size_at, largest_below, online_from}
use Rattle.vms_core.specs.declared.states.MarkRead.{MarkRead}
use Rattle.vms_core.specs.declared.steps.Facts.{Facts}
use Rattle.vms_core.specs.declared.steps.Step.{Step}
use Rattle.vms_core.specs.declared.steps.Step.TheVariants.{LoadM, LoadO, LoadA, SetT, SetM, SetO}
use Rattle.vms_calls.specs.Folds.{IsFold}
use Rattle.vms_calls.specs.Lists.{in_turn}
use Rattle.vms_core.specs.Common.{History, peak_sum}

-- a load of a CPU's state
abbrev pub state_steps : ℕ → CpuState → List Step
state_steps c x = LoadO (record { number = c }) x ∷ []

-- loads of what these CPUs acknowledged last of zone g
abbrev pub acknowledged_steps : ℕ → List CpuId → List (Option ℕ) → List Step
acknowledged_steps g (c ∷ cs) (x ∷ xs) = LoadA c (record { number = g }) x ∷ acknowledged_steps g cs xs
acknowledged_steps g _ _ = []

-- a threshold is set on each of these CPUs
abbrev pub threshold_steps : ℕ → ℕ → List CpuId → List Step
threshold_steps g t cs = map (λ c. SetT c (record { number = g }) t) cs

-- a mark is set where it is another than the one that was found
abbrev pub mark_steps : ℕ → ℕ → ℕ → List Step
mark_steps g found mark = if nat_eq mark found then [] else SetM (record { number = g }) mark ∷ []

-- the mark that covers zone g once threshold t stands on these CPUs: Linux's mark of the usual threshold, raised to
-- what all CPUs may hide then, the dead ones too
abbrev pub mark_for : Facts → ℕ → List CpuId → History → ℕ → ℕ → ℕ → ℕ
mark_for facts p online h g usual t = cover_mark_of (size_at facts.sizes g)
    (linux_mark_of (size_at facts.sizes g) (length online) usual)
    (peak_sum facts g (after p (threshold_steps g t online) h))

-- the steps that give zone g threshold t where mark m was found: the mark comes first
abbrev pub rating_steps : Facts → ℕ → List CpuId → History → ℕ → ℕ → ℕ → ℕ → List Step
rating_steps facts p online h g m usual t =
    mark_steps g m (mark_for facts p online h g usual t) ++ threshold_steps g t online

-- which two thresholds a call may choose for a zone of a size where so many CPUs are online: the one that it sets, and
-- the usual one, which Linux's mark is for
abbrev pub Choice : Type 1
Choice = ZoneSize → ℕ → ℕ → ℕ → Type 0

-- the normal rule is asked once: the threshold that is set is the usual one
abbrev pub ByNormal : (ZoneSize → ℕ → ℕ → Type 0) → Choice
ByNormal normal size online t usual = normal size online t × (usual ≡ t)

-- under pressure each rule is asked once: that of pressure for the threshold that is set, the normal one for the usual
abbrev pub ByPressure : (pressure normal : ZoneSize → ℕ → ℕ → Type 0) → Choice
ByPressure pressure normal size online t usual = pressure size online t × normal size online usual

module _ (facts : Facts) (p : ℕ) (online : List CpuId) where
  -- zone g gets threshold t
  pub record Rates (Chooses : Choice) (g t m : ℕ) (h : History) (steps : List Step) : Type 0 where
    pub usual : ℕ
    pub chosen : Chooses (size_at facts.sizes g) (length online) t usual
    pub in_order : steps ≡ rating_steps facts p online h g m usual t

  -- the same where the zone's mark is not 0, and no step and threshold 0 where it is
  pub data RatesMarked (Chooses : Choice) (g : ℕ) : ℕ → ℕ → History → List Step → Type 0 where
    unmarked : (h : History) → RatesMarked Chooses g 0 0 h []
    marked : (t m : ℕ) (h : History) (steps : List Step) → m ≢ 0 → Rates Chooses g t m h steps
        → RatesMarked Chooses g t m h steps

  -- a visit of zone g: what was acknowledged and the mark are loaded, and then the zone is rated
  pub record Visits (Rated : ℕ → ℕ → ℕ → History → List Step → Type 0) (g t : ℕ) (h : History) (steps : List Step)
      : Type 0 where
    pub numbers : List (Option ℕ)
    pub one_each : length numbers ≡ length online
    pub mark : MarkRead
    pub loads : List Step
    pub loads_are : loads ≡ acknowledged_steps g online numbers
        ++ (LoadM (record { number = g }) mark.mark mark.number ∷ [])
    pub further : List Step
    pub rated : Rated g t mark.mark (after p loads h) further
    pub in_order : steps ≡ loads ++ further

  -- visits of zones in a row, and the thresholds that they get
  pub data VisitsEach (Rated : ℕ → ℕ → ℕ → History → List Step → Type 0)
      : List ℕ → List ℕ → History → List Step → Type 0 where
    none : (h : History) → VisitsEach Rated [] [] h []
    next : (g t : ℕ) (gs ts : List ℕ) (h : History) (first rest : List Step) → Visits Rated g t h first
        → VisitsEach Rated gs ts (after p first h) rest → VisitsEach Rated (g ∷ gs) (t ∷ ts) h (first ++ rest)

-- the number of the node at a place
abbrev pub node_number : Shape → PlaceId → ℕ
node_number shape n = slice_index_or shape.nodes (n.number - length shape.zones) 0

-- the numbers below n, in order
abbrev pub numbers_below : ℕ → List ℕ
numbers_below zero = []
numbers_below (suc n) = numbers_below n ++ (n ∷ [])

-- the zones of a node
abbrev pub zones_on : Shape → ℕ → List ℕ
zones_on shape node = filter (λ g. nat_eq (node_of_zone shape g) node) (numbers_below (length shape.zones))

-- the largest of the zones' thresholds on a node, given those of all zones
abbrev pub largest_on : Shape → List ℕ → ℕ → ℕ
largest_on shape ts node =
    largest_below (λ g. if nat_eq (node_of_zone shape g) node then slice_index_or ts g 0 else 0) (length shape.zones)

-- a call that looks which CPUs are online and then visits the zones of a node
pub record RatesNode (facts : Facts) (Chooses : Choice) (n : PlaceId) (p : ℕ) (h : History) (steps : List Step)
    : Type 0 where
  pub states : List CpuState
  pub one_each : length states ≡ facts.layout.cpus
  pub thresholds : List ℕ
  pub further : List Step
  pub visits : VisitsEach facts p (online_from 0 states) (RatesMarked facts p (online_from 0 states) Chooses)
      (zones_on facts.layout (node_number facts.layout n)) thresholds (after p (in_turn state_steps 0 states) h) further
  pub in_order : steps ≡ in_turn state_steps 0 states ++ further

-- `set_pressure`, and `set_normal`
abbrev pub SetsPressure : Facts → (pressure normal : ZoneSize → ℕ → ℕ → Type 0) → PlaceId → ℕ → History → List Step
    → Type 0
SetsPressure facts pressure normal n p h steps = RatesNode facts (ByPressure pressure normal) n p h steps

abbrev pub SetsNormal : Facts → (normal : ZoneSize → ℕ → ℕ → Type 0) → PlaceId → ℕ → History → List Step → Type 0
SetsNormal facts normal n p h steps = RatesNode facts (ByNormal normal) n p h steps

-- a refresh: every zone gets its normal threshold, and then every node the largest of its zones
pub record Refreshes (facts : Facts) (normal : ZoneSize → ℕ → ℕ → Type 0) (p : ℕ) (h : History) (steps : List Step)
    : Type 0 where
  pub states : List CpuState
  pub one_each : length states ≡ facts.layout.cpus
  pub thresholds : List ℕ
  pub further : List Step
  pub visits : VisitsEach facts p (online_from 0 states) (Rates facts p (online_from 0 states) (ByNormal normal))
      (numbers_below (length facts.layout.zones)) thresholds (after p (in_turn state_steps 0 states) h) further
  pub in_order : steps ≡ (in_turn state_steps 0 states ++ further)
      ++ in_turn (λ i node. threshold_steps (length facts.layout.zones + i) (largest_on facts.layout thresholds node)
      (online_from 0 states)) 0 facts.layout.nodes

-- a burial of a dead CPU by the control pass: it is folded and made absent, and then comes a refresh
pub record Buries (facts : Facts) (normal : ZoneSize → ℕ → ℕ → Type 0) (c : CpuId) (p : ℕ) (h : History)
    (steps : List Step) : Type 0 where
  pub fold : List Step
  pub folds : IsFold facts.layout false c fold
  pub refresh : List Step
  pub refreshes : Refreshes facts normal p (after p (fold ++ (SetO c ∷ [])) h) refresh
  pub in_order : steps ≡ fold ++ (SetO c ∷ refresh)

-- the mark of zone g that steps leave, where it was m before
abbrev pub mark_left_by : ℕ → Step → ℕ → ℕ
mark_left_by g (SetM f mark) m = if nat_eq f.number g then mark else m
mark_left_by g _ m = m

abbrev pub mark_left : ℕ → ℕ → List Step → ℕ
mark_left g m [] = m
mark_left g m (step ∷ steps) = mark_left g (mark_left_by g step m) steps

-- rating a zone leaves a mark that covers what all CPUs may hide then
abbrev pub RatingCovers : Type 0
RatingCovers = (facts : Facts) (p : ℕ) (online : List CpuId) (h : History) (g m usual t : ℕ)
    → Covers (size_at facts.sizes g) (mark_left g m (rating_steps facts p online h g m usual t))
    (peak_sum facts g (after p (rating_steps facts p online h g m usual t) h))
