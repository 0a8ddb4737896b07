-- The segments of lines that begin with the lane lines of a part.
use Rattle.std.proofs.Common.{◌≡◌, ◌≢◌, ℕ, List, [], ◌∷◌, ◌++◌, map, refl, sym, ap, ◌∙◌, append_assoc, append-nil}
use Rattle.std.proofs.lemmas.List.Elements.{All-cons, All-nil}
use Rattle.std.specs.Prelude.{Ok, Err}
use Rattle.vms_text.specs.declared.acts.Boundary.{Boundary as BoundaryOf}
use Rattle.vms_text.specs.declared.acts.Item.{Item}
use Rattle.vms_text.specs.declared.acts.Line.TheVariants.{Blank, Lane, Boundary}
use Rattle.vms_line.specs.declared.causes.LineCause.{LineCause}
use Rattle.vms_script.specs.Common.{Between, BoundariesCut, LinesMakeOnePhase, NumberedLine, Segment, kept_items}
use Rattle.vms_script.specs.Common.{phase_if_any, segments_of, segments_with_item}
use Rattle.vms_script.specs.Segments.{HaveNoBoundary}
use Rattle.vms_trace_parts.specs.Common.{TracePart, segments_of_part, segments_of_parts}

-- the numbered line that an item keeps
abbrev pub lane_line : Item → NumberedLine
lane_line item = record { number = item.number; result = Ok (Lane item.lane item.act) }

abbrev pub lane_lines : List Item → List NumberedLine
lane_lines items = map lane_line items

pub lane_lines-push : (items : List Item) (item : Item) (lines : List NumberedLine)
    → lane_lines (items ++ item ∷ []) ++ lines ≡ lane_lines items ++ lane_line item ∷ lines
lane_lines-push [] item lines = refl
lane_lines-push (first ∷ items) item lines =
    ap (λ (more : List NumberedLine). lane_line first ∷ more) (lane_lines-push items item lines)

-- a line that is blank or refused makes no difference
pub segments-blank : (items : List Item) (n : ℕ) (lines : List NumberedLine)
    → segments_of (lane_lines items ++ record { number = n; result = Ok Blank } ∷ lines)
    ≡ segments_of (lane_lines items ++ lines)
segments-blank [] n lines = refl
segments-blank (item ∷ items) n lines = ap (segments_with_item item) (segments-blank items n lines)

pub segments-refused : (items : List Item) (n : ℕ) (cause : LineCause) (lines : List NumberedLine)
    → segments_of (lane_lines items ++ record { number = n; result = Err cause } ∷ lines)
    ≡ segments_of (lane_lines items ++ lines)
segments-refused [] n cause lines = refl
segments-refused (item ∷ items) n cause lines =
    ap (segments_with_item item) (segments-refused items n cause lines)

lanes-no_boundary : (items : List Item) → HaveNoBoundary (lane_lines items)
lanes-no_boundary [] = All-nil (λ (line : NumberedLine). (boundary : BoundaryOf) → line.result ≢ Ok (Boundary boundary))
lanes-no_boundary (item ∷ items) =
    All-cons (λ (line : NumberedLine). (boundary : BoundaryOf) → line.result ≢ Ok (Boundary boundary)) (lane_line item)
    (lane_lines items) (λ boundary same. absurd cc) (lanes-no_boundary items)

lanes-kept : (items : List Item) → kept_items (lane_lines items) ≡ items
lanes-kept [] = refl
lanes-kept (item ∷ items) = ap (λ (more : List Item). item ∷ more) (lanes-kept items)

-- they are one phase, or none
pub segments-lanes : LinesMakeOnePhase → (items : List Item) → segments_of (lane_lines items) ≡ phase_if_any items
segments-lanes one items = one (lane_lines items) (lanes-no_boundary items) ∙ ap phase_if_any (lanes-kept items)

pub segments-boundary : BoundariesCut → LinesMakeOnePhase → (items : List Item) (n : ℕ) (boundary : BoundaryOf)
    (lines : List NumberedLine)
    → segments_of (lane_lines items ++ record { number = n; result = Ok (Boundary boundary) } ∷ lines)
    ≡ phase_if_any items ++ Between n boundary ∷ segments_of lines
segments-boundary cuts one items n boundary lines =
    cuts (lane_lines items) lines n boundary
    ∙ ap (λ (front : List Segment). front ++ Between n boundary ∷ segments_of lines) (segments-lanes one items)

-- the segments of one part more
pub segments_of_parts-push : (parts : List TracePart) (part : TracePart)
    → segments_of_parts (parts ++ part ∷ []) ≡ segments_of_parts parts ++ segments_of_part part
segments_of_parts-push [] part = append-nil (segments_of_part part)
segments_of_parts-push (first ∷ parts) part =
    ap (λ (more : List Segment). segments_of_part first ++ more) (segments_of_parts-push parts part)
    ∙ sym (append_assoc (segments_of_part first) (segments_of_parts parts) (segments_of_part part))
