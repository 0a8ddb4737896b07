-- The segments of a text as a check is given them: the boundary lines, each with the number of phases before it, and
-- the lines of the phases.
use Rattle.std.specs.Prelude.{◌≡◌, ◌≢◌, ℕ, suc, List, [], ◌∷◌, map, Ok}
use Rattle.vms_text.specs.declared.acts.Line.TheVariants.{Boundary}
use Rattle.vms_world.specs.Common.{Between, Phase, Segment, Fits, Header, IsLineOf, Item, Start, allowed_from, line_of}
use Rattle.vms_world.specs.Common.{start_at_end, start_past}
use Rattle.vms_history_checks.specs.declared.bounds.BoundaryAt.{BoundaryAt}

-- the boundary lines of these segments, before which there are n phases already
abbrev pub bounds_of : ℕ → List Segment → List BoundaryAt
bounds_of n [] = []
bounds_of n (Phase items ∷ segments) = bounds_of (suc n) segments
bounds_of n (Between number b ∷ segments) = record { after = n; boundary = b } ∷ bounds_of n segments

-- the lines of their phases
abbrev pub scripts_of : List Segment → List (List Item)
scripts_of [] = []
scripts_of (Phase items ∷ segments) = items ∷ scripts_of segments
scripts_of (Between number b ∷ segments) = scripts_of segments

-- each of these segments may stand after those before it: a phase has a line, and its lines fit, and a boundary line
-- counts
abbrev pub MayStandInTurn : Header → Start → List Segment → Type 0
MayStandInTurn header start [] = Unit {0}
MayStandInTurn header start (Phase items ∷ segments) = (items ≢ []) × Fits header start items
    × MayStandInTurn header (start_at_end start (map line_of items)) segments
MayStandInTurn header start (Between number b ∷ segments) = IsLineOf header (Boundary b)
    × (allowed_from header start (Boundary b) ≡ Ok (Boundary b))
    × MayStandInTurn header (start_past (Boundary b) start) segments

-- segments that begin with a phase, or none
abbrev pub BeginsWithNoBoundary : List Segment → Type 0
BeginsWithNoBoundary (Between number b ∷ segments) = ⊥
BeginsWithNoBoundary _ = Unit {0}
