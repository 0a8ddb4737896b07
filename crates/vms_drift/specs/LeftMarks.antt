-- The drift mark of a zone that a call of the control pass leaves.
use Rattle.std.specs.Prelude.{◌≡◌, ◌≢◌, ℕ, if◌then◌else◌, List, [], ◌∷◌, Some}
use Rattle.vms_calls.specs.Common.{Choice, Dead, Facts, History, IsControl, IsCpu, IsZone, LoadA, PlaceId, ByNormal}
use Rattle.vms_calls.specs.Common.{HasMade, RatesNode, Refreshes, Step, ZoneSize, count_below, cover_mark_of, is_online}
use Rattle.vms_calls.specs.Common.{linux_mark_of, mark_at, node_number, node_of_zone, sets, size_at, state_after}
use Rattle.vms_calls.specs.Common.{cpu_in}
use Rattle.vms_drift.specs.RatedMarks.{raised_thresholds}

-- a load of what a CPU acknowledged of zone g told the number of the threshold that was set last
abbrev pub TellsNewest : ℕ → History → Step → Type 0
TellsNewest g h (LoadA c f x) = f.number ≡ g → x ≡ Some (sets c.number g h)
TellsNewest g h _ = Unit {0}

-- all loads of these steps did
abbrev pub TellNewest : ℕ → History → List Step → Type 0
TellNewest g h [] = Unit {0}
TellNewest g h (step ∷ steps) = TellsNewest g h step × TellNewest g h steps

-- no CPU is dead, and a call that began here found of each CPU that it asked that it acknowledged the threshold of zone
-- g that was set last
pub record FindsNewest (facts : Facts) (h : History) (g : ℕ) (steps : List Step) : Type 0 where
  pub none_dead : (c : ℕ) → IsCpu facts.layout c → cpu_in facts c h ≢ Dead
  pub newest : TellNewest g h steps

-- how many CPUs are online
abbrev pub online_in : Facts → History → ℕ
online_in facts h = count_below (λ c. if is_online (cpu_in facts c h) then 1 else 0) facts.layout.cpus

-- a call that began at h gave zone g a threshold t, and since then this mark stands: Linux's mark of the usual
-- threshold, raised to cover the larger of the old and the new threshold of each CPU that is online, in sum
pub record SettlesMark (Chooses : Choice) (facts : Facts) (later h : History) (g : ℕ) : Type 0 where
  pub t : ℕ
  pub usual : ℕ
  pub chosen : Chooses (size_at facts.sizes g) (online_in facts h) t usual
  pub mark : mark_at (state_after facts later) g ≡ cover_mark_of (size_at facts.sizes g)
      (linux_mark_of (size_at facts.sizes g) (online_in facts h) usual) (raised_thresholds facts h g t)

-- the control pass made a call that rates the zones of a node, whatever others did meanwhile: so it leaves the mark of
-- each zone of the node that had one
abbrev pub NodeSettlesMarks : Choice → Type 0
NodeSettlesMarks Chooses = (facts : Facts) (n : PlaceId) (p : ℕ) (later h : History) (steps : List Step) →
    RatesNode facts Chooses n p h steps → HasMade facts later h p steps → IsControl h p →
    (g : ℕ) → IsZone facts.layout g → node_of_zone facts.layout g ≡ node_number facts.layout n →
    mark_at (state_after facts h) g ≢ 0 → FindsNewest facts h g steps → SettlesMark Chooses facts later h g

-- and a refresh so the mark of each zone
abbrev pub RefreshSettlesMarks : (ZoneSize → ℕ → ℕ → Type 0) → Type 0
RefreshSettlesMarks normal = (facts : Facts) (p : ℕ) (later h : History) (steps : List Step) →
    Refreshes facts normal p h steps → HasMade facts later h p steps → IsControl h p →
    (g : ℕ) → IsZone facts.layout g → FindsNewest facts h g steps → SettlesMark (ByNormal normal) facts later h g
