-- What the steps of the calls that set thresholds, and of a burial, tell of where they end.
use Rattle.std.specs.Prelude.{◌≡◌, ℕ, suc, zero, ◌≤◌, nat_eq, Bool, true, false, List, [], ◌∷◌, ◌++◌, length}
use Rattle.std.specs.Prelude.{if◌then◌else◌}
use Rattle.vms_history.specs.Common.{CpuId, PlaceId, CpuState, ZoneSize, online_from, Shape}
use Rattle.vms_core.specs.declared.steps.Facts.{Facts}
use Rattle.vms_core.specs.declared.steps.Step.{Step}
use Rattle.vms_core.specs.declared.steps.Step.TheVariants.{LoadM, SetT, SetM, SetO}
use Rattle.vms_core.specs.Common.{History}
use Rattle.vms_calls.specs.FoldReadings.{read_fold}
use Rattle.vms_calls.specs.LookReadings.{online_told}
use Rattle.vms_calls.specs.MayMake.{HasMade}
use Rattle.vms_calls.specs.Ratings.{Choice, RatesNode, Refreshes, Buries, node_number, numbers_below, zones_on}

-- how many of n CPUs the loads of their states tell to be online
abbrev pub counted_online : Bool → ℕ × List Step → ℕ × List Step
counted_online true (count, rest) = (suc count, rest)
counted_online false (count, rest) = (count, rest)

abbrev pub read_states : ℕ → List Step → ℕ × List Step
read_states zero steps = (0, steps)
read_states (suc n) [] = (0, [])
read_states (suc n) (load ∷ rest) = counted_online (online_told load) (read_states n rest)

-- the first mark that is loaded
abbrev pub read_mark : List Step → ℕ × List Step
read_mark [] = (0, [])
read_mark (LoadM g m a ∷ rest) = (m, rest)
read_mark (_ ∷ rest) = read_mark rest

-- the steps without the sets of n thresholds that stand first
abbrev pub without_sets : ℕ → List Step → List Step
without_sets zero steps = steps
without_sets (suc n) (SetT c g t ∷ rest) = without_sets n rest
without_sets (suc n) steps = steps

-- the steps without those that rate a zone where n CPUs are online: a set of its mark may stand first
abbrev pub without_rating : ℕ → List Step → List Step
without_rating n (SetM g m ∷ rest) = without_sets n rest
without_rating n steps = without_sets n steps

-- a zone without a mark is left alone
abbrev pub without_marked : ℕ → ℕ × List Step → List Step
without_marked n (m, rest) = if nat_eq m 0 then rest else without_rating n rest

-- the steps without those of visits of these zones, which rate each zone with a mark
abbrev pub without_visits : ℕ → List ℕ → List Step → List Step
without_visits n [] steps = steps
without_visits n (g ∷ gs) steps = without_visits n gs (without_marked n (read_mark steps))

-- and without those of visits which rate each zone
abbrev pub without_rated : ℕ → ℕ × List Step → List Step
without_rated n (m, rest) = without_rating n rest

abbrev pub without_ratings : ℕ → List ℕ → List Step → List Step
without_ratings n [] steps = steps
without_ratings n (g ∷ gs) steps = without_ratings n gs (without_rated n (read_mark steps))

-- the steps without those that set the thresholds of nodes
abbrev pub without_nodes : ℕ → List ℕ → List Step → List Step
without_nodes n [] steps = steps
without_nodes n (node ∷ nodes) steps = without_nodes n nodes (without_sets n steps)

-- a call that sets the thresholds of a node's zones
abbrev pub read_zones_of : Shape → PlaceId → ℕ × List Step → Unit {0} × List Step
read_zones_of shape n (count, rest) = (tt, without_visits count (zones_on shape (node_number shape n)) rest)

abbrev pub read_node_rating : Shape → PlaceId → List Step → Unit {0} × List Step
read_node_rating shape n steps = read_zones_of shape n (read_states shape.cpus steps)

-- a refresh
abbrev pub read_all : Shape → ℕ × List Step → Unit {0} × List Step
read_all shape (count, rest) =
    (tt, without_nodes count shape.nodes (without_ratings count (numbers_below (length shape.zones)) rest))

abbrev pub read_refresh : Shape → List Step → Unit {0} × List Step
read_refresh shape steps = read_all shape (read_states shape.cpus steps)

-- a burial: after the fold the CPU is made absent, and then comes a refresh
abbrev pub read_removal : Shape → Unit {0} × List Step → Unit {0} × List Step
read_removal shape (done, SetO c ∷ rest) = read_refresh shape rest
read_removal shape (done, _) = (tt, [])

abbrev pub read_burial : Shape → List Step → Unit {0} × List Step
read_burial shape steps = read_removal shape (read_fold shape false steps)

-- the loads of the CPUs' states told one that is online
abbrev pub SomeOnline : List CpuState → Type 0
SomeOnline states = 1 ≤ length (online_from 0 states)

-- where they did, the steps of these calls tell where they end, whatever follows them
abbrev pub TellsNodeRating : Choice → Type 0
TellsNodeRating Chooses = (facts : Facts) (n : PlaceId) (p : ℕ) (h : History) (steps : List Step)
    (call : RatesNode facts Chooses n p h steps) → SomeOnline call.states
    → (rest : List Step) → read_node_rating facts.layout n (steps ++ rest) ≡ (tt, rest)

abbrev pub TellsRefresh : (ZoneSize → ℕ → ℕ → Type 0) → Type 0
TellsRefresh normal = (facts : Facts) (p : ℕ) (h : History) (steps : List Step)
    (call : Refreshes facts normal p h steps) → SomeOnline call.states
    → (rest : List Step) → read_refresh facts.layout (steps ++ rest) ≡ (tt, rest)

abbrev pub TellsBurial : (ZoneSize → ℕ → ℕ → Type 0) → Type 0
TellsBurial normal = (facts : Facts) (c : CpuId) (p : ℕ) (h : History) (steps : List Step)
    (call : Buries facts normal c p h steps) → SomeOnline call.refreshes.states
    → (rest : List Step) → read_burial facts.layout (steps ++ rest) ≡ (tt, rest)

-- in a legal history in which such a call was made it found a CPU online
abbrev pub NodeFindsOnline : Choice → Type 0
NodeFindsOnline Chooses = (facts : Facts) (n : PlaceId) (p : ℕ) (later h : History) (steps : List Step)
    (call : RatesNode facts Chooses n p h steps) → HasMade facts later h p steps → SomeOnline call.states

abbrev pub RefreshFindsOnline : (ZoneSize → ℕ → ℕ → Type 0) → Type 0
RefreshFindsOnline normal = (facts : Facts) (p : ℕ) (later h : History) (steps : List Step)
    (call : Refreshes facts normal p h steps) → HasMade facts later h p steps → SomeOnline call.states

abbrev pub BurialFindsOnline : (ZoneSize → ℕ → ℕ → Type 0) → Type 0
BurialFindsOnline normal = (facts : Facts) (c : CpuId) (p : ℕ) (later h : History) (steps : List Step)
    (call : Buries facts normal c p h steps) → HasMade facts later h p steps → SomeOnline call.refreshes.states
