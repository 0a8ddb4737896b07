-- What one further line makes of the lines of an open phase.
use Rattle.std.proofs.Common.{◌≡◌, ◌≢◌, ℕ, suc, ◌≤◌, List, [], ◌∷◌, ◌++◌, length, refl, sym, ap, ◌∙◌, append_assoc}
use Rattle.std.proofs.Common.{append-nil, arith}
use Rattle.std.proofs.lemmas.List.Elements.{All-nil, All-push}
use Rattle.std.specs.Prelude.{Result, Ok, Err}
use Rattle.vms_text.specs.declared.acts.Boundary.{Boundary as BoundaryOf}
use Rattle.vms_text.specs.declared.acts.Item.{Item}
use Rattle.vms_text.specs.declared.acts.Line.{Line}
use Rattle.vms_text.specs.declared.acts.Line.TheVariants.{Blank, Lane, Boundary}
use Rattle.vms_line.specs.declared.causes.LineCause.{LineCause}
use Rattle.vms_script.specs.Common.{Between, BoundariesCut, LinesMakeOnePhase, NumberedLine, Phase, Segment, kept_items}
use Rattle.vms_script.specs.Common.{phase_if_any, segments_of, segments_with, with_kept}
use Rattle.vms_certifying.specs.TraceParts.{IsCut}

-- a line that isn't a boundary line which counts
abbrev pub IsNoBoundary : NumberedLine → Type 0
IsNoBoundary line = (boundary : BoundaryOf) → line.result ≢ Ok (Boundary boundary)

with_kept-append : (n : ℕ) (result : Result Line LineCause) (items more : List Item)
    → with_kept n result (items ++ more) ≡ with_kept n result items ++ more
with_kept-append n (Ok Blank) items more = refl
with_kept-append n (Ok (Lane lane act)) items more = refl
with_kept-append n (Ok (Boundary boundary)) items more = refl
with_kept-append n (Err cause) items more = refl

kept_items-append : (lines more : List NumberedLine) → kept_items (lines ++ more) ≡ kept_items lines ++ kept_items more
kept_items-append [] more = refl
kept_items-append (line ∷ lines) more =
    ap (with_kept line.number line.result) (kept_items-append lines more)
    ∙ with_kept-append line.number line.result (kept_items lines) (kept_items more)

-- a line keeps one at most
pub kept_items-one : (line : NumberedLine) → length (kept_items (line ∷ [])) ≤ 1
kept_items-one line = by line.result
  where
    by : (result : Result Line LineCause) → length (with_kept line.number result []) ≤ 1
    by (Ok Blank) = omega arith
    by (Ok (Lane lane act)) = omega arith
    by (Ok (Boundary boundary)) = omega arith
    by (Err cause) = omega arith

-- a line adds a segment at most
segments_with-few : (n : ℕ) (result : Result Line LineCause) (segments : List Segment)
    → length (segments_with n result segments) ≤ suc (length segments)
segments_with-few n (Ok Blank) segments = omega arith
segments_with-few n (Ok (Lane lane act)) [] = omega arith
segments_with-few n (Ok (Lane lane act)) (Phase items ∷ segments) = omega arith
segments_with-few n (Ok (Lane lane act)) (Between number boundary ∷ segments) = omega arith
segments_with-few n (Ok (Boundary boundary)) segments = omega arith
segments_with-few n (Err cause) segments = omega arith

pub segments_of-few : (lines : List NumberedLine) → length (segments_of lines) ≤ length lines
segments_of-few [] = omega arith
segments_of-few (line ∷ lines) =
    let one = segments_with-few line.number line.result (segments_of lines) in
    let rest = segments_of-few lines in
    omega (arith, one, rest)

pub cut-none : IsCut [] [] []
cut-none = record {
  tail = [];
  cut = λ more. refl;
  no_boundary = All-nil IsNoBoundary;
  kept = refl;
}

module _ (lines : List NumberedLine) (done : List Segment) (items : List Item) (is : IsCut lines done items) where
  -- the segments of the lines
  pub segments-cut : LinesMakeOnePhase → segments_of lines ≡ done ++ phase_if_any items
  segments-cut one =
      ap segments_of (sym (append-nil lines)) ∙ is.cut []
      ∙ ap (λ (tail : List NumberedLine). done ++ segments_of tail) (append-nil is.tail)
      ∙ ap (λ (left : List Segment). done ++ left) (one is.tail is.no_boundary ∙ ap phase_if_any is.kept)

  pub cut-push : (line : NumberedLine) (items' : List Item) → IsNoBoundary line
      → items' ≡ items ++ kept_items (line ∷ []) → IsCut (lines ++ line ∷ []) done items'
  cut-push line items' none grown = record {
    tail = is.tail ++ line ∷ [];
    cut = λ more. ap segments_of (append_assoc lines (line ∷ []) more) ∙ is.cut (line ∷ more)
        ∙ ap (λ (tail : List NumberedLine). done ++ segments_of tail) (sym (append_assoc is.tail (line ∷ []) more));
    no_boundary = All-push IsNoBoundary is.tail line is.no_boundary none;
    kept = kept_items-append is.tail (line ∷ [])
        ∙ ap (λ (kept : List Item). kept ++ kept_items (line ∷ [])) is.kept ∙ sym grown;
  }

-- after a boundary line no phase is open
pub cut-boundary : BoundariesCut → (lines : List NumberedLine) (n : ℕ) (boundary : BoundaryOf)
    → IsCut (lines ++ record { number = n; result = Ok (Boundary boundary) } ∷ [])
    (segments_of lines ++ Between n boundary ∷ []) []
cut-boundary cuts lines n boundary =
    let line : NumberedLine = record { number = n; result = Ok (Boundary boundary) } in
    record {
      tail = [];
      cut = λ more. ap segments_of (append_assoc lines (line ∷ []) more) ∙ cuts lines more n boundary
          ∙ sym (append_assoc (segments_of lines) (Between n boundary ∷ []) (segments_of more));
      no_boundary = All-nil IsNoBoundary;
      kept = refl;
    }
