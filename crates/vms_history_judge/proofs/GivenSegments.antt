-- What a further segment adds to what a judge keeps of a trace.
use Rattle.std.proofs.Common.{◌≡◌, ℕ, suc, ◌+◌, ◌≤◌, List, [], ◌∷◌, ◌++◌, length, refl, sym, ap, ◌∙◌, arith}
use Rattle.vms_text.specs.declared.acts.Boundary.{Boundary}
use Rattle.vms_world.specs.Common.{AreSegments, Between, Phase, Segment, Header, Item, Start, line_of, start_at_end}
use Rattle.vms_world.specs.Common.{start_past}
use Rattle.std.specs.Prelude.{map}
use Rattle.vms_text.specs.declared.acts.Line.TheVariants as lines
use Rattle.vms_history_checks.specs.declared.bounds.BoundaryAt.{BoundaryAt}
use Rattle.vms_history_checks.specs.Bounds.{MayStandInTurn, bounds_of, scripts_of}

pub bounds-phase : (n : ℕ) (segments : List Segment) (items : List Item)
    → bounds_of n (segments ++ Phase items ∷ []) ≡ bounds_of n segments
bounds-phase n [] items = refl
bounds-phase n (Phase others ∷ segments) items = bounds-phase (suc n) segments items
bounds-phase n (Between number b ∷ segments) items =
    ap (λ (bounds : List BoundaryAt). record { after = n; boundary = b } ∷ bounds) (bounds-phase n segments items)

pub scripts-phase : (segments : List Segment) (items : List Item)
    → scripts_of (segments ++ Phase items ∷ []) ≡ scripts_of segments ++ items ∷ []
scripts-phase [] items = refl
scripts-phase (Phase others ∷ segments) items =
    ap (λ (scripts : List (List Item)). others ∷ scripts) (scripts-phase segments items)
scripts-phase (Between number b ∷ segments) items = scripts-phase segments items

pub bounds-between : (n : ℕ) (segments : List Segment) (m : ℕ) (boundary : Boundary)
    → bounds_of n (segments ++ Between m boundary ∷ [])
    ≡ bounds_of n segments ++ record { after = n + length (scripts_of segments); boundary = boundary } ∷ []
bounds-between n [] m boundary =
    ap (λ (k : ℕ). record { after = k; boundary = boundary } ∷ []) (omega arith)
bounds-between n (Phase items ∷ segments) m boundary =
    bounds-between (suc n) segments m boundary
    ∙ ap (λ (k : ℕ). bounds_of (suc n) segments ++ record { after = k; boundary = boundary } ∷ []) (omega arith)
bounds-between n (Between number b ∷ segments) m boundary =
    ap (λ (bounds : List BoundaryAt). record { after = n; boundary = b } ∷ bounds)
    (bounds-between n segments m boundary)

pub scripts-between : (segments : List Segment) (m : ℕ) (boundary : Boundary)
    → scripts_of (segments ++ Between m boundary ∷ []) ≡ scripts_of segments
scripts-between [] m boundary = refl
scripts-between (Phase items ∷ segments) m boundary =
    ap (λ (scripts : List (List Item)). items ∷ scripts) (scripts-between segments m boundary)
scripts-between (Between number b ∷ segments) m boundary = scripts-between segments m boundary

pub scripts-few : (segments : List Segment) → length (scripts_of segments) ≤ length segments
scripts-few [] = omega arith
scripts-few (Phase items ∷ segments) = let few = scripts-few segments in omega (arith, few)
scripts-few (Between number b ∷ segments) = let few = scripts-few segments in omega (arith, few)

-- segments that may stand there may do so in turn
pub in-turn : (header : Header) (start : Start) (segments : List Segment) → AreSegments header start segments
    → MayStandInTurn header start segments
in-turn header start [] are = tt
in-turn header start (Phase items ∷ segments) are =
    (are.0.0, are.0.1, in-turn header (start_at_end start (map line_of items)) segments are.1)
in-turn header start (Between number b ∷ segments) are =
    (are.0.0, are.0.1, in-turn header (start_past (lines.Boundary b) start) segments are.1)
