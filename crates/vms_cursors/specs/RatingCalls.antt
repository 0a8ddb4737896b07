-- Which zones a call that gives thresholds visits, and how it goes on.
use Rattle.std.specs.Prelude.{ℕ, nat_eq, Bool, true, false, List}
use Rattle.vms_calls.specs.Common.{ByNormal, ByPressure, Choice, CpuId, Facts, IsNode, Shape, ZoneSize, node_number}
use Rattle.vms_calls.specs.Common.{node_of_zone}
use Rattle.vms_plans.specs.Common.{Plan, ends, makes_all, node_steps}
use Rattle.vms_cursors.specs.Kept.{kept_from}
use Rattle.vms_cursors.specs.declared.rating_calls.RatingCall.{RatingCall}
use Rattle.vms_cursors.specs.declared.rating_calls.RatingCall.TheVariants.{Pressure, Normal, Refresh}

-- a refresh visits every zone, the others those of their node
abbrev pub visits : Shape → RatingCall → ℕ → Bool
visits shape (Pressure n) g = nat_eq (node_of_zone shape g) (node_number shape n)
visits shape (Normal n) g = nat_eq (node_of_zone shape g) (node_number shape n)
visits shape Refresh g = true

-- those among n zones from zone g on, in order
abbrev pub visited_from : Shape → RatingCall → ℕ → ℕ → List ℕ
visited_from shape call g n = kept_from (visits shape call) g n

-- which thresholds a call may choose
abbrev pub choice_in : RatingCall → (pressure normal : ZoneSize → ℕ → ℕ → Type 0) → Choice
choice_in (Pressure n) pressure normal = ByPressure pressure normal
choice_in (Normal n) pressure normal = ByNormal normal
choice_in Refresh pressure normal = ByNormal normal

-- a refresh rates every zone, the others spare those without a mark
abbrev pub spares : RatingCall → ℕ → Bool
spares (Pressure n) m = nat_eq m 0
spares (Normal n) m = nat_eq m 0
spares Refresh m = false

-- after the zones a refresh gives thresholds to the nodes
abbrev pub after_zones : Facts → ℕ → RatingCall → List CpuId → List ℕ → Plan (Unit {0})
after_zones facts p Refresh online ts = makes_all (node_steps facts p online ts) (ends tt)
after_zones facts p call online ts = ends tt

-- the node is one of the layout
abbrev pub IsRatingWithin : Shape → RatingCall → Type 0
IsRatingWithin shape (Pressure n) = IsNode shape n.number
IsRatingWithin shape (Normal n) = IsNode shape n.number
IsRatingWithin shape Refresh = Unit {0}
