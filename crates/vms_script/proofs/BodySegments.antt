-- For other crates too: the segments of a body, from its lines.
use Rattle.std.proofs.Common.{◌≡◌, ℕ, suc, ◌+◌, ◌<◌, List, [], ◌∷◌, ◌++◌, refl, sym, ap, ◌∙◌, arith, All, Ok, Err}
use Rattle.std.proofs.Common.{append-nil, length, Result, ◌≢◌}
use Rattle.std.specs.Prelude.{reverse}
use Rattle.std.proofs.lemmas.List.Elements.{All-cons, All-nil}
use Rattle.vms_base.specs.declared.headers.Header.{Header}
use Rattle.vms_base.specs.Common.{IsHeader}
use Rattle.vms_text.specs.declared.acts.Boundary.{Boundary as BoundaryOf}
use Rattle.vms_text.specs.declared.acts.Item.{Item}
use Rattle.vms_text.specs.declared.acts.Line.{Line}
use Rattle.vms_text.specs.declared.acts.Line.TheVariants.{Blank, Lane, Boundary}
use Rattle.vms_line.specs.declared.causes.LineCause.{LineCause}
use Rattle.vms_line.specs.Common.{IsLineOf}
use Rattle.vms_script.specs.Common.{allowed_from, with_counted, counted_of, judged, AreSegments, BoundariesCut}
use Rattle.vms_script.specs.Common.{LinesMakeOnePhase, SegmentsHaveAllLines, SegmentsMayStand, NumberedLine}
use Rattle.vms_script.specs.Common.{numbered_lines, kept_items, phase_if_any, with_kept, lines_of_segments, segments_of}
use Rattle.vms_script.specs.Common.{segments_with_item, segments_with, Segment, Script, script_with_line, Start}
use Rattle.vms_script.specs.Common.{first_start, start_after, start_past, line_of}
use Rattle.vms_script.specs.Segments.Segment.{Phase, Between}
use Rattle.vms_script.proofs.Fitting.{Fits-first, Fits-none, reverse-onto}
use Rattle.vms_script.proofs.Known.{judged_from-allowed, judged-known}

-- the numbers of the phase that stands first are above m
abbrev AreAbove : ℕ → List Segment → Type 0
AreAbove m [] = Unit {0}
AreAbove m (Phase items ∷ segments) = All (λ (i : Item). m < i.number) items
AreAbove m (Between number boundary ∷ segments) = Unit {0}

AreAbove-item : (m : ℕ) (item : Item) (segments : List Segment) → m < item.number → AreAbove m segments
    → AreAbove m (segments_with_item item segments)
AreAbove-item m item [] above are =
    All-cons (λ (i : Item). m < i.number) item [] above (All-nil (λ (i : Item). m < i.number))
AreAbove-item m item (Phase items ∷ segments) above are = All-cons (λ (i : Item). m < i.number) item items above are
AreAbove-item m item (Between number boundary ∷ segments) above are =
    All-cons (λ (i : Item). m < i.number) item [] above (All-nil (λ (i : Item). m < i.number))

AreAbove-line : (m n : ℕ) (result : Result Line LineCause) (segments : List Segment) → m < n → AreAbove m segments
    → AreAbove m (segments_with n result segments)
AreAbove-line m n (Ok Blank) segments above are = are
AreAbove-line m n (Ok (Lane lane act)) segments above are =
    AreAbove-item m (record { number = n; lane = lane; act = act }) segments above are
AreAbove-line m n (Ok (Boundary boundary)) segments above are = tt
AreAbove-line m n (Err cause) segments above are = are

segments_of-above : (header : Header) (above : List Line) (m n : ℕ) (texts : List (List ℕ)) → m < n
    → AreAbove m (segments_of (numbered_lines header above n texts))
segments_of-above header above m n [] later = tt
segments_of-above header above m n (text ∷ texts) later =
    AreAbove-line m n (judged header above text) _ later
    (segments_of-above header (with_counted (judged header above text) above) m (suc n) texts (omega (arith, later)))

module _ (header : Header) where
  -- segments with a lane line before them
  AreSegments-item : (start : Start) (item : Item) (segments : List Segment) → IsLineOf header (line_of item)
      → allowed_from header start (line_of item) ≡ Ok (line_of item) → AreAbove item.number segments
      → AreSegments header (start_past (line_of item) start) segments
      → AreSegments header start (segments_with_item item segments)
  AreSegments-item start item [] known is above are = (
    (
      (λ e. absurd cc),
      Fits-first header start item [] (Fits-none header (start_past (line_of item) start))
          (All-nil (λ (i : Item). item.number < i.number)) known is,
      tt,
    ),
    tt,
  )
  AreSegments-item start item (Phase items ∷ segments) known is above are =
      (((λ e. absurd cc), Fits-first header start item items are.0.1 above known is, are.0.2), are.1)
  AreSegments-item start item (Between number boundary ∷ segments) known is above are = (
    (
      (λ e. absurd cc),
      Fits-first header start item [] (Fits-none header (start_past (line_of item) start))
          (All-nil (λ (i : Item). item.number < i.number)) known is,
      tt,
    ),
    are,
  )

  -- the segments of some lines may stand where these begin
  pub AreSegments-lines : (above : List Line) (n : ℕ) (texts : List (List ℕ)) → IsHeader header
      → AreSegments header (start_after first_start above) (segments_of (numbered_lines header above n texts))
  AreSegments-lines above n [] is_header = tt
  AreSegments-lines above n (text ∷ texts) is_header =
      by (judged header above text) refl (λ more. AreSegments-lines more (suc n) texts is_header)
    where
      by : (result : Result Line LineCause) → judged header above text ≡ result
          → ((more : List Line)
          → AreSegments header (start_after first_start more) (segments_of (numbered_lines header more (suc n) texts)))
          → AreSegments header (start_after first_start above)
          (segments_with n result (segments_of (numbered_lines header (with_counted result above) (suc n) texts)))
      by (Ok Blank) is rest = rest above
      by (Ok (Lane lane act)) is rest =
          AreSegments-item (start_after first_start above) (record { number = n; lane = lane; act = act }) _
          (judged-known header above text (Lane lane act) is_header is)
          (judged_from-allowed header (start_after first_start above) text (Lane lane act) is)
          (segments_of-above header (Lane lane act ∷ above) n (suc n) texts (omega arith))
          (rest (Lane lane act ∷ above))
      by (Ok (Boundary boundary)) is rest = (
        (
          judged-known header above text (Boundary boundary) is_header is,
          judged_from-allowed header (start_after first_start above) text (Boundary boundary) is,
        ),
        rest (Boundary boundary ∷ above),
      )
      by (Err cause) is rest = rest above

  -- their lines are those of the lines that count
  pub lines_of_segments-lines : (above : List Line) (n : ℕ) (texts : List (List ℕ))
      → reverse (lines_of_segments (segments_of (numbered_lines header above n texts))) ++ above
      ≡ counted_of header above texts
  lines_of_segments-lines above n [] = refl
  lines_of_segments-lines above n (text ∷ texts) =
      by (judged header above text) (λ more. lines_of_segments-lines more (suc n) texts)
    where
      segments_with_item-lines : (item : Item) (segments : List Segment)
          → lines_of_segments (segments_with_item item segments) ≡ line_of item ∷ lines_of_segments segments
      segments_with_item-lines item [] = refl
      segments_with_item-lines item (Phase items ∷ segments) = refl
      segments_with_item-lines item (Between number boundary ∷ segments) = refl

      by : (result : Result Line LineCause)
          → ((more : List Line)
          → reverse (lines_of_segments (segments_of (numbered_lines header more (suc n) texts))) ++ more
          ≡ counted_of header more texts)
          → reverse (lines_of_segments (segments_with n result
          (segments_of (numbered_lines header (with_counted result above) (suc n) texts)))) ++ above
          ≡ counted_of header (with_counted result above) texts
      by (Ok Blank) rest = rest above
      by (Ok (Lane lane act)) rest =
          ap (λ (lines : List Line). reverse lines ++ above) (segments_with_item-lines
          (record { number = n; lane = lane; act = act })
          (segments_of (numbered_lines header (Lane lane act ∷ above) (suc n) texts)))
          ∙ sym (reverse-onto (Lane lane act)
          (lines_of_segments (segments_of (numbered_lines header (Lane lane act ∷ above) (suc n) texts))) above)
          ∙ rest (Lane lane act ∷ above)
      by (Ok (Boundary boundary)) rest =
          sym (reverse-onto (Boundary boundary)
          (lines_of_segments (segments_of (numbered_lines header (Boundary boundary ∷ above) (suc n) texts))) above)
          ∙ rest (Boundary boundary ∷ above)
      by (Err cause) rest = rest above

pub SegmentsMayStand-holds : SegmentsMayStand
SegmentsMayStand-holds header n texts is_header = AreSegments-lines header [] n texts is_header

pub SegmentsHaveAllLines-holds : SegmentsHaveAllLines
SegmentsHaveAllLines-holds header n texts =
    sym (append-nil (reverse (lines_of_segments (segments_of (numbered_lines header [] n texts)))))
    ∙ lines_of_segments-lines header [] n texts

-- segments with more after a boundary line
segments_with_item-cut : (item : Item) (segments : List Segment) (n : ℕ) (boundary : BoundaryOf) (after : List Segment)
    → segments_with_item item (segments ++ Between n boundary ∷ after) ≡ segments_with_item item segments
    ++ Between n boundary ∷ after
segments_with_item-cut item [] n boundary after = refl
segments_with_item-cut item (Phase items ∷ segments) n boundary after = refl
segments_with_item-cut item (Between number other ∷ segments) n boundary after = refl

segments_with-cut : (m : ℕ) (result : Result Line LineCause) (segments : List Segment) (n : ℕ) (boundary : BoundaryOf)
    (after : List Segment)
    → segments_with m result (segments ++ Between n boundary ∷ after)
    ≡ segments_with m result segments ++ Between n boundary ∷ after
segments_with-cut m (Ok Blank) segments n boundary after = refl
segments_with-cut m (Ok (Lane lane act)) segments n boundary after =
    segments_with_item-cut (record { number = m; lane = lane; act = act }) segments n boundary after
segments_with-cut m (Ok (Boundary other)) segments n boundary after = refl
segments_with-cut m (Err cause) segments n boundary after = refl

pub BoundariesCut-holds : BoundariesCut
BoundariesCut-holds [] after n boundary = refl
BoundariesCut-holds (line ∷ before) after n boundary =
    ap (segments_with line.number line.result) (BoundariesCut-holds before after n boundary)
    ∙ segments_with-cut line.number line.result (segments_of before) n boundary (segments_of after)

-- one phase, or none, with a line more that ends no phase
segments_with-one : (n : ℕ) (result : Result Line LineCause) (items : List Item)
    → ((boundary : BoundaryOf) → result ≢ Ok (Boundary boundary))
    → segments_with n result (phase_if_any items) ≡ phase_if_any (with_kept n result items)
segments_with-one n (Ok Blank) items no_boundary = refl
segments_with-one n (Ok (Lane lane act)) [] no_boundary = refl
segments_with-one n (Ok (Lane lane act)) (item ∷ items) no_boundary = refl
segments_with-one n (Ok (Boundary boundary)) items no_boundary = absurd (no_boundary boundary refl)
segments_with-one n (Err cause) items no_boundary = refl

pub LinesMakeOnePhase-holds : LinesMakeOnePhase
LinesMakeOnePhase-holds [] none = refl
LinesMakeOnePhase-holds (line ∷ lines) none =
    ap (segments_with line.number line.result)
    (LinesMakeOnePhase-holds lines (λ k d within. none (suc k) d (omega arith)))
    ∙ segments_with-one line.number line.result (kept_items lines) (none 0 line (omega arith))

-- lines that stand after others are numbered on
pub numbered_lines-append : (header : Header) (above : List Line) (n : ℕ) (texts more : List (List ℕ))
    → numbered_lines header above n (texts ++ more)
    ≡ numbered_lines header above n texts
    ++ numbered_lines header (counted_of header above texts) (n + length texts) more
numbered_lines-append header above n [] more =
    ap (λ (m : ℕ). numbered_lines header above m more) (omega arith)
numbered_lines-append header above n (text ∷ texts) more =
    ap (λ (lines : List NumberedLine). record { number = n; result = judged header above text } ∷ lines)
    (numbered_lines-append header (with_counted (judged header above text) above) (suc n) texts more
    ∙ ap (λ (m : ℕ). numbered_lines header (with_counted (judged header above text) above) (suc n) texts
    ++ numbered_lines header (counted_of header (with_counted (judged header above text) above) texts) m more)
    (omega arith))

-- the lane lines that count of lines that stand after others
with_kept-append : (n : ℕ) (result : Result Line LineCause) (items more : List Item)
    → with_kept n result (items ++ more) ≡ with_kept n result items ++ more
with_kept-append n (Ok Blank) items more = refl
with_kept-append n (Ok (Lane lane act)) items more = refl
with_kept-append n (Ok (Boundary boundary)) items more = refl
with_kept-append n (Err cause) items more = refl

pub kept_items-append : (lines more : List NumberedLine) →
    kept_items (lines ++ more) ≡ kept_items lines ++ kept_items more
kept_items-append [] more = refl
kept_items-append (line ∷ lines) more =
    ap (with_kept line.number line.result) (kept_items-append lines more)
    ∙ with_kept-append line.number line.result (kept_items lines) (kept_items more)

-- a scripter that holds the lane lines of some lines holds those with line n too, if that was fed to it
pub kept_items-fed : (n : ℕ) (line : Line) (script : Script) (lines : List NumberedLine) →
    kept_items lines ≡ script.items
    → kept_items (lines ++ record { number = n; result = Ok line } ∷ []) ≡ (script_with_line n line script).items
kept_items-fed n Blank script lines holds =
    kept_items-append lines (record { number = n; result = Ok Blank } ∷ []) ∙ append-nil (kept_items lines) ∙ holds
kept_items-fed n (Lane lane act) script lines holds =
    kept_items-append lines (record { number = n; result = Ok (Lane lane act) } ∷ [])
    ∙ ap (λ (items : List Item). items ++ record { number = n; lane = lane; act = act } ∷ []) holds
kept_items-fed n (Boundary boundary) script lines holds =
    kept_items-append lines (record { number = n; result = Ok (Boundary boundary) } ∷ [])
    ∙ append-nil (kept_items lines) ∙ holds
