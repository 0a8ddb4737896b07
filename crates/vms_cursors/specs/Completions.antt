-- What can be said of the end of a plan.
use Rattle.std.specs.Prelude.{ℕ, ◌≤◌, ◌<◌, ◌⊎◌, List, length}
use Rattle.vms_calls.specs.Common.{Header, Shape, Step, ZoneSize, size_at}
use Rattle.vms_plans.specs.Common.{Plan, Runs}
use Rattle.vms_cursors.specs.OnlineCpus.{flagged}
use Rattle.vms_cursors.specs.declared.burial_positions.BurialPosition.{BurialPosition}
use Rattle.vms_cursors.specs.declared.burial_positions.BurialPosition.TheVariants as burial
use Rattle.vms_cursors.specs.declared.cursors.Cursor.{Cursor}
use Rattle.vms_cursors.specs.declared.cursors.Cursor.TheVariants.{Bury, Rates, Turn}
use Rattle.vms_cursors.specs.declared.rated.Rated.{Rated}
use Rattle.vms_cursors.specs.declared.rating_positions.RatingPosition.{RatingPosition}
use Rattle.vms_cursors.specs.declared.rating_positions.RatingPosition.TheVariants.{Asks, Mark, Nodes, Numbers, States}
use Rattle.vms_cursors.specs.declared.rating_positions.RatingPosition.TheVariants.{Thresholds, Zones}
use Rattle.vms_cursors.specs.declared.turn_positions.TurnPosition.{TurnPosition}
use Rattle.vms_cursors.specs.declared.turn_positions.TurnPosition.TheVariants.{Presses, Settles, Tests}

-- some steps run through a plan to an answer
abbrev pub CanEnd : {A : Type 0} → Plan A → Type 0
CanEnd {A} plan = (steps : List Step) × (answer : A) × Runs plan steps answer

-- each rule answers for zone g, where n CPUs are online
abbrev pub RulesAnswerFor : Header → (pressure normal : ZoneSize → ℕ → ℕ → Type 0) → (g n : ℕ) → Type 0
RulesAnswerFor header pressure normal g n = ((t : ℕ) × pressure (size_at header.sizes g) n t)
    × ((t : ℕ) × normal (size_at header.sizes g) n t)

-- for each zone, however many CPUs are online
abbrev pub RulesAnswer : Header → (pressure normal : ZoneSize → ℕ → ℕ → Type 0) → Type 0
RulesAnswer header pressure normal = (g n : ℕ) → RulesAnswerFor header pressure normal g n

-- for each zone, where 1 to 128 CPUs are online
abbrev pub RulesAnswerOnline : Header → (pressure normal : ZoneSize → ℕ → ℕ → Type 0) → Type 0
RulesAnswerOnline header pressure normal = (g n : ℕ) → 1 ≤ n → n ≤ 128 → RulesAnswerFor header pressure normal g n

-- some of the CPUs were found online
abbrev pub FoundOnline : Shape → Rated → Type 0
FoundOnline shape seen = 1 ≤ length (flagged seen.online.flags 0 shape.cpus)

-- some of the CPUs were found online, or the states of some aren't loaded yet
abbrev pub MayFindOnline : Shape → RatingPosition → Type 0
MayFindOnline shape (States online c) = (c < shape.cpus) ⊎ (1 ≤ length (flagged online.flags 0 c))
MayFindOnline shape (Zones seen g) = FoundOnline shape seen
MayFindOnline shape (Numbers seen g c) = FoundOnline shape seen
MayFindOnline shape (Asks seen g m) = FoundOnline shape seen
MayFindOnline shape (Mark seen g t m) = FoundOnline shape seen
MayFindOnline shape (Thresholds seen g t c) = FoundOnline shape seen
MayFindOnline shape (Nodes seen i c) = Unit {0}

abbrev pub BurialMayFindOnline : Shape → BurialPosition → Type 0
BurialMayFindOnline shape (burial.Folds at) = Unit {0}
BurialMayFindOnline shape (burial.Rates at) = MayFindOnline shape at

abbrev pub TurnMayFindOnline : Shape → TurnPosition → Type 0
TurnMayFindOnline shape (Presses at) = MayFindOnline shape at
TurnMayFindOnline shape (Tests at) = Unit {0}
TurnMayFindOnline shape (Settles g verdict at) = MayFindOnline shape at

-- the same of a cursor, where its call gives thresholds
abbrev pub CursorMayFindOnline : Shape → Cursor → Type 0
CursorMayFindOnline shape (Rates call at) = MayFindOnline shape at
CursorMayFindOnline shape (Bury c at) = BurialMayFindOnline shape at
CursorMayFindOnline shape (Turn turn at) = TurnMayFindOnline shape at
CursorMayFindOnline shape _ = Unit {0}
