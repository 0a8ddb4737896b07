-- What is kept of the lines of a trace.
use Rattle.std.specs.Prelude.{◌≡◌, ℕ, ◌≤◌, Bool, true, false, List, [], ◌∷◌, ◌++◌, length, Option, None, Result}
use Rattle.vms_base.specs.Common.{IsHeader}
use Rattle.vms_base.specs.declared.headers.Header.{Header}
use Rattle.vms_text.specs.declared.acts.Boundary.{Boundary as BoundaryOf}
use Rattle.vms_text.specs.declared.acts.Item.{Item}
use Rattle.vms_text.specs.declared.acts.Line.{Line}
use Rattle.vms_line.specs.declared.causes.LineCause.{LineCause}
use Rattle.vms_script.specs.Common.{AreSegments, Between, JudgeStands, NumberedLine, Segment, first_start, judged}
use Rattle.vms_script.specs.Common.{kept_items, numbered_lines, segments_of}
use Rattle.vms_script.specs.Segments.{HaveNoBoundary}
use Rattle.vms_stream.specs.declared.statuses.Status.{Status}
use Rattle.vms_command.specs.Common.{LinesAbove, exceeds, exceeds_limit, with_judged}
use Rattle.vms_command.specs.Limits.{opens_phase, phases_in, reports_in}
use Rattle.vms_certifying.specs.declared.trace_parts.TracePart.{TracePart}
use Rattle.vms_certifying.specs.Certifying.{trace_above}

-- the lines end with those of an open phase, or with a boundary line where these are none: the other segments are done,
-- whatever lines follow
pub record IsCut (lines : List NumberedLine) (done : List Segment) (items : List Item) : Type 0 where
  pub tail : List NumberedLine
  pub cut : (more : List NumberedLine) → segments_of (lines ++ more) ≡ done ++ segments_of (tail ++ more)
  pub no_boundary : HaveNoBoundary tail
  pub kept : kept_items tail ≡ items

-- whether there is no line
abbrev pub has_none : {X : Type 0} → List X → Bool
has_none [] = true
has_none (x ∷ xs) = false

module _ {J : Type 0} (Gathers : Header → List Segment → J → Type 0) where
  -- these lines came to this, and this is kept of them, but for what the next one is judged by
  pub record KeepsLines (lines : List NumberedLine) (above : LinesAbove) (part : TracePart J) : Type 0 where
    pub header : IsHeader part.header
    pub refused : part.refused ≡ above.refused
    pub phases : part.phases ≡ phases_in above.lines
    pub reports : part.reports ≡ reports_in above.lines
    pub opens : has_none part.items.items ≡ opens_phase above.lines
    pub done : List Segment
    pub cut : IsCut lines done part.items.items
    pub gathers : Gathers part.header done part.history
    pub few : length part.items.items ≤ length lines
    pub fewer : above.refused ≤ length lines

  -- the body begins at line `first`, these are its lines so far, and this is kept of them
  pub record KeepsTrace (first : ℕ) (texts : List (List ℕ)) (part : TracePart J) : Type 0 where
    pub judges : JudgeStands part.header (trace_above part.header texts).lines part.judge
    pub keeps : KeepsLines (numbered_lines part.header [] first texts) (trace_above part.header texts) part

  -- of some lines this is kept, which are few and make segments
  pub record SomeLines (part : TracePart J) : Type 0 where
    pub lines : List NumberedLine
    pub above : LinesAbove
    pub keeps : KeepsLines lines above part
    pub few : length lines ≤ 1000000
    pub segments : AreSegments part.header first_start (segments_of lines)

  -- line n was taken, of which this was judged
  pub record KeepsNext (n : ℕ) (said : Result Line LineCause) (halt : Option Status) (part part' : TracePart J)
      (lines : List NumberedLine) (above : LinesAbove) : Type 0 where
    pub halt_is : halt ≡ exceeds (exceeds_limit above.lines said)
    pub same : part'.header ≡ part.header
    pub judge : part'.judge ≡ part.judge
    pub keeps : halt ≡ None
        → KeepsLines (lines ++ record { number = n; result = said } ∷ []) (with_judged said above) part'

  -- the open phase has ended, if one is open: each segment is gathered
  pub record HasEnded (part part' : TracePart J) (lines : List NumberedLine) : Type 0 where
    pub same : record part' { items = part.items; history = part.history } ≡ part
    pub none : part'.items.items ≡ []
    pub gathers : Gathers part.header (segments_of lines) part'.history

  -- and so is a boundary line
  pub record HasCrossed (boundary : BoundaryOf) (part part' : TracePart J) (lines : List NumberedLine) : Type 0 where
    pub same : record part' { items = part.items; history = part.history } ≡ part
    pub none : part'.items.items ≡ []
    pub gathers : (n : ℕ) → Gathers part.header (segments_of lines ++ Between n boundary ∷ []) part'.history

  -- a line of the trace was taken
  pub record TakesTraceLine (line : List ℕ) (halt : Option Status) (part part' : TracePart J) (first : ℕ)
      (texts : List (List ℕ)) : Type 0 where
    pub halt_is : halt ≡ exceeds (exceeds_limit (trace_above part.header texts).lines
        (judged part.header (trace_above part.header texts).lines line))
    pub same : part'.header ≡ part.header
    pub keeps : halt ≡ None → KeepsTrace first (texts ++ line ∷ []) part'
