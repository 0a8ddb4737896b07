-- The steps of a rating, told by the marks that it finds and by the state that it leaves.
use Rattle.std.specs.Prelude.{◌≡◌, ℕ, zero, suc, nat_eq, Bool, false, if◌then◌else◌, List, [], ◌∷◌, ◌++◌, length, map}
use Rattle.std.specs.Prelude.{slice_index_or}
use Rattle.vms_calls.specs.Common.{IsZone, LoadA, LoadM, MarkRead, PlaceId, SetT, Shape, State, Step, acknowledged_at}
use Rattle.vms_calls.specs.Common.{in_turn, mark_at, mark_sets_at, mark_steps, node_number, numbers_below, state_steps}
use Rattle.vms_calls.specs.Common.{threshold_at, zones_on}
use Rattle.vms_plain_control.specs.Common.{online_in}

-- the mark that was found of zone g
abbrev pub found_at : List MarkRead → ℕ → MarkRead
found_at found g = slice_index_or found g (record { mark = 0; number = 0 })

-- these are the marks of the zones of a state, and how often each was set
abbrev pub AreMarks : Shape → State → List MarkRead → Type 0
AreMarks shape s found = (g : ℕ) → IsZone shape g
    → found_at found g ≡ record { mark = mark_at s g; number = mark_sets_at s g }

-- loads of what the online CPUs acknowledged last of zone g
abbrev pub acknowledged_told : State → ℕ → List Step
acknowledged_told s g = map (λ c. LoadA c (record { number = g }) (acknowledged_at s c.number g)) (online_in s)

-- place g's threshold is set on each online CPU: it is the one that the CPU has
abbrev pub thresholds_told : State → ℕ → List Step
thresholds_told s g = map (λ c. SetT c (record { number = g }) (threshold_at s c.number g)) (online_in s)

-- zone g's mark is set, if it is another than the one that was found, and then its thresholds
abbrev pub sets_told : State → ℕ → ℕ → List Step
sets_told s found g = mark_steps g found (mark_at s g) ++ thresholds_told s g

-- a visit of zone g: what is loaded, and then what is set if it isn't spared
abbrev pub visit_told : State → MarkRead → Bool → ℕ → List Step
visit_told s found spared g = acknowledged_told s g
    ++ (LoadM (record { number = g }) found.mark found.number ∷ (if spared then [] else sets_told s found.mark g))

-- visits of these zones; which of them are spared goes by the marks that were found
abbrev pub visits_told : State → List MarkRead → (ℕ → Bool) → List ℕ → List Step
visits_told s found spares [] = []
visits_told s found spares (g ∷ gs) =
    visit_told s (found_at found g) (spares (found_at found g).mark) g ++ visits_told s found spares gs

-- the thresholds of n places from g on are set
abbrev pub places_told : State → ℕ → ℕ → List Step
places_told s g zero = []
places_told s g (suc n) = thresholds_told s g ++ places_told s (suc g) n

-- a rating of a node's zones, where a zone without a mark is spared
abbrev pub node_told : Shape → PlaceId → State → List MarkRead → List Step
node_told shape n s found = in_turn state_steps 0 s.cpu
    ++ visits_told s found (λ m. nat_eq m 0) (zones_on shape (node_number shape n))

-- a refresh: all zones are rated, and then the nodes
abbrev pub refresh_told : Shape → State → List MarkRead → List Step
refresh_told shape s found = (in_turn state_steps 0 s.cpu
    ++ visits_told s found (λ m. false) (numbers_below (length shape.zones)))
    ++ places_told s (length shape.zones) (length shape.nodes)
