-- Where a copy has come to in its text: what was written, and what the parts are so far.
use Rattle.std.proofs.Common.{◌≡◌, ℕ, zero, suc, ◌≤◌, nat_lt, Bool, true, false, List, [], ◌∷◌, ◌++◌, Option, Some}
use Rattle.std.proofs.Common.{None, refl, sym, ap, ap₂, subst, ◌∙◌, arith, append_assoc, append-nil, length, drop}
use Rattle.std.proofs.Common.{flat_map}
use Rattle.std.proofs.lemmas.List.Elements.{All-cons, All-head, All-nil, All-push, All-tail}
use Rattle.std.specs.Prelude.{All, Result, Ok, Err, reverse, if◌then◌else◌}
use Rattle.std.proofs.lemmas.List.{reverse-append}
use Rattle.vms_base.specs.declared.headers.Header.{Header}
use Rattle.vms_header.specs.declared.causes.HeaderCause.{HeaderCause}
use Rattle.vms_header.specs.Common.{Stage, HeadStep, head_line, header_from, on_step, read_header, Goes, Ends}
use Rattle.vms_header.specs.Common.{header_of, spelled_header}
use Rattle.vms_text.specs.declared.acts.Line.{Line}
use Rattle.vms_text.specs.declared.acts.Line.TheVariants.{Blank, Lane, Boundary}
use Rattle.vms_line.specs.declared.causes.LineCause.{LineCause}
use Rattle.vms_line.specs.Common.{spelled_line}
use Rattle.vms_script.specs.Common.{Between, BoundariesCut, LinesMakeOnePhase, NumberedLine, Segment, judged}
use Rattle.vms_script.specs.Common.{numbered_lines, phase_if_any, segments_of, with_counted}
use Rattle.vms_script.specs.Segments.{contents_of}
use Rattle.vms_stream.specs.declared.statuses.Status.{Status}
use Rattle.vms_stream.specs.declared.statuses.Status.TheVariants.{TooLong}
use Rattle.vms_stream.specs.Common.{halted, printed, printed_from, state_after}
use Rattle.vms_command.specs.Common.{Body, Heading, LinesAbove, after_head, come_to, most_lines, nothing_above}
use Rattle.vms_command.specs.Common.{printed_head, refuses, with_judged}
use Rattle.vms_trace_parts.specs.Common.{AfterHeader, Begin, BeginAfter, IsWithBoundary, TracePart, WithBoundary}
use Rattle.vms_trace_parts.specs.Common.{segments_of_begin, copied_line, copying, part_past, segments_of_part}
use Rattle.vms_trace_parts.specs.Common.{segments_of_parts}
use Rattle.vms_trace_parts.proofs.CutLines.{first-none, later-none}
use Rattle.vms_trace_parts.proofs.LaneLines.{lane_lines, lane_lines-push, segments-blank, segments-boundary}
use Rattle.vms_trace_parts.proofs.LaneLines.{segments-refused, segments_of_parts-push}
use Rattle.vms_trace_parts.proofs.PlainWays.{State, plain}
use Rattle.vms_trace_parts.proofs.UsedParts.{part_ended, parts_at, parts_made}

-- what stands after an element
drop-after : (k : ℕ) (all : List (List ℕ)) (line : List ℕ) (lines : List (List ℕ)) → drop k all ≡ line ∷ lines
    → drop (suc k) all ≡ lines
drop-after zero [] line lines is = absurd cc
drop-after zero (first ∷ all) line lines is = cc
drop-after (suc k) [] line lines is = absurd cc
drop-after (suc k) (first ∷ all) line lines is = drop-after k all line lines is

-- it is one of them
pub drop-within : (k : ℕ) (all : List (List ℕ)) (line : List ℕ) (lines : List (List ℕ)) → drop k all ≡ line ∷ lines
    → suc k ≤ length all
drop-within zero [] line lines is = absurd cc
drop-within zero (first ∷ all) line lines is = omega arith
drop-within (suc k) [] line lines is = absurd cc
drop-within (suc k) (first ∷ all) line lines is =
    let within = drop-within k all line lines is in omega (arith, within)

-- the spelled lines that count, with one more
spelled-push : (header : Header) (line : Line) (lines : List Line)
    → flat_map (spelled_line header) (reverse (line ∷ lines))
    ≡ flat_map (spelled_line header) (reverse lines) ++ spelled_line header line
spelled-push header line lines =
    ap (flat_map (spelled_line header)) (reverse-append (line ∷ []) lines) ∙ onto (reverse lines)
  where
    onto : (xs : List Line) → flat_map (spelled_line header) (xs ++ line ∷ [])
        ≡ flat_map (spelled_line header) xs ++ spelled_line header line
    onto [] = append-nil (spelled_line header line)
    onto (x ∷ xs) = ap (λ (bytes : List ℕ). spelled_line header x ++ bytes) (onto xs)
        ∙ sym (append_assoc (spelled_line header x) (flat_map (spelled_line header) xs) (spelled_line header line))

-- what is written of the lines that count
abbrev pub counted : Header → List Line → List ℕ
counted header lines = flat_map (spelled_line header) (reverse lines)

counted-past : (header : Header) (above : LinesAbove) (j : Result Line LineCause)
    → counted header (with_judged j above).lines ≡ counted header above.lines ++ copied_line header j
counted-past header above (Ok Blank) = sym (append-nil (counted header above.lines))
counted-past header above (Ok (Lane lane act)) = spelled-push header (Lane lane act) above.lines
counted-past header above (Ok (Boundary boundary)) = spelled-push header (Boundary boundary) above.lines
counted-past header above (Err cause) = sym (append-nil (counted header above.lines))

lines-with_judged : (result : Result Line LineCause) (above : LinesAbove)
    → with_counted result above.lines ≡ (with_judged result above).lines
lines-with_judged (Ok line) above = refl
lines-with_judged (Err cause) above = refl

-- the part so far begins where it did, or the next one with a boundary line
abbrev pub HasBoundary : TracePart → Type 0
HasBoundary part = IsWithBoundary part.begin

begin-same : (header : Header) (done : List TracePart) (part other : TracePart) → other.begin ≡ part.begin
    → BeginAfter header (done ++ part ∷ []) → BeginAfter header (done ++ other ∷ [])
begin-same header [] part other same (first, rest) = (same ∙ first, rest)
begin-same header (x ∷ done) part other same (first, rest) = (first, again done rest)
  where
    again : (xs : List TracePart) → All HasBoundary (xs ++ part ∷ []) → All HasBoundary (xs ++ other ∷ [])
    again [] are = All-cons HasBoundary other []
        (subst (λ (b : Begin). IsWithBoundary b) (sym same) (All-head HasBoundary part [] are)) (All-nil HasBoundary)
    again (y ∷ xs) are = All-cons HasBoundary y (xs ++ other ∷ []) (All-head HasBoundary y (xs ++ part ∷ []) are)
        (again xs (All-tail HasBoundary y (xs ++ part ∷ []) are))

begin-next : (header : Header) (parts : List TracePart) (other : TracePart) → IsWithBoundary other.begin
    → BeginAfter header parts → BeginAfter header (parts ++ other ∷ [])
begin-next header [] other is begins = absurd begins
begin-next header (part ∷ parts) other is (first, rest) = (first, All-push HasBoundary parts other rest is)

unless_beyond : (over : Bool) (halt : Option Status) → (if over then Some TooLong else halt) ≡ None → halt ≡ None
unless_beyond true halt none = absurd cc
unless_beyond false halt none = none

module _ (all : List (List ℕ)) where
  -- a body: what its other lines come to, and its segments, are as of the whole text
  pub record InBody (header : Header) (n : ℕ) (above : LinesAbove) (part : TracePart) (done : List TracePart)
      (out : List ℕ) (rest : List (List ℕ)) : Type 0 where
    pub count : ℕ
    pub header_is : read_header all ≡ Ok (header, count)
    pub come : come_to header above rest ≡ come_to header nothing_above (drop count all)
    pub out_is : out ≡ spelled_header header ++ counted header above.lines
    pub begins : BeginAfter header (done ++ part ∷ [])
    pub segments : segments_of_parts done ++ (segments_of_begin part.begin
        ++ segments_of (lane_lines part.items ++ numbered_lines header above.lines n rest))
        ≡ (contents_of header (suc count) (drop count all)).segments

  -- a header that isn't whole yet
  pub record InHeader (n : ℕ) (stage : Stage) (done : List TracePart) (out : List ℕ) (rest : List (List ℕ)) : Type 0
    where
      pub none_done : done ≡ []
      pub nothing : out ≡ []
      pub above : ℕ
      pub number : n ≡ suc above
      pub after : drop above all ≡ rest
      pub read : header_from n stage rest ≡ read_header all

  -- the copy stands before these lines of the text, and this was written and these parts have ended
  abbrev pub Stood : State → List TracePart → List ℕ → List (List ℕ) → Type 0
  Stood (Heading n stage) done out rest = InHeader n stage done out rest
  Stood (Body n header above part) done out rest = InBody header n above part done out rest

  stood-head : (n : ℕ) (stage : Stage) (line : List ℕ) (rest : List (List ℕ)) (done : List TracePart) (out : List ℕ)
      (read : Result HeadStep HeaderCause) → InHeader n stage done out (line ∷ rest) → head_line stage line ≡ read
      → refuses read ≡ None
      → Stood (after_head copying n stage read) (done ++ []) (out ++ printed_head copying n read) rest
  stood-head n stage line rest done out (Ok (Goes next)) stood is none = record {
    none_done = append-nil done ∙ stood.none_done;
    nothing = append-nil out ∙ stood.nothing;
    above = suc stood.above;
    number = ap suc stood.number;
    after = drop-after stood.above all line rest stood.after;
    read = ap (λ (r : Result HeadStep HeaderCause). on_step n r (λ next. header_from (suc n) next rest)) (sym is)
        ∙ stood.read;
  }
  stood-head n stage line rest done out (Ok (Ends draft)) stood is none =
      let header : Header = header_of draft in
      let part : TracePart = record { begin = AfterHeader header; items = [] } in
      let body : drop n all ≡ rest =
      ap (λ (m : ℕ). drop m all) stood.number ∙ drop-after stood.above all line rest stood.after in
      let no : done ++ [] ≡ [] = append-nil done ∙ stood.none_done in
      record {
        count = n;
        header_is = sym stood.read
            ∙ ap (λ (r : Result HeadStep HeaderCause). on_step n r (λ next. header_from (suc n) next rest)) is;
        come = ap (come_to header nothing_above) (sym body);
        out_is = ap (λ (bytes : List ℕ). bytes ++ spelled_header header) stood.nothing
            ∙ sym (append-nil (spelled_header header));
        begins = subst (λ (xs : List TracePart). BeginAfter header (xs ++ part ∷ [])) (sym no)
            (refl, All-nil HasBoundary);
        segments = ap (λ (xs : List TracePart). segments_of_parts xs
            ++ segments_of (numbered_lines header [] (suc n) rest)) no
            ∙ ap (λ (lines : List (List ℕ)). segments_of (numbered_lines header [] (suc n) lines)) (sym body);
      }
  stood-head n stage line rest done out (Err cause) stood is none = absurd cc

  -- past a line of the body
  module _ (header : Header) (n : ℕ) (above : LinesAbove) (part : TracePart) (done : List TracePart) (out : List ℕ)
      (line : List ℕ) (rest : List (List ℕ)) (stood : InBody header n above part done out (line ∷ rest)) where
    -- by what was judged of it
    abbrev numbered : Result Line LineCause → List NumberedLine
    numbered j = record { number = n; result = j } ∷ numbered_lines header (with_judged j above).lines (suc n) rest

    abbrev all_segments : List Segment
    all_segments = (contents_of header (suc stood.count) (drop stood.count all)).segments

    with-judged : (j : Result Line LineCause) → judged header above.lines line ≡ j
        → numbered_lines header above.lines n (line ∷ rest) ≡ numbered j
    with-judged j is =
        ap (λ (r : Result Line LineCause). record { number = n; result = r }
        ∷ numbered_lines header (with_counted r above.lines) (suc n) rest) is
        ∙ ap (λ (lines : List Line). record { number = n; result = j } ∷ numbered_lines header lines (suc n) rest)
        (lines-with_judged j above)

    -- the segments are the same with the part past the line
    stood-with : (j : Result Line LineCause) → judged header above.lines line ≡ j
        → BeginAfter header ((done ++ part_ended j part) ++ part_past n j part ∷ [])
        → segments_of_parts done ++ (segments_of_begin part.begin ++ segments_of (lane_lines part.items ++ numbered j))
        ≡ segments_of_parts (done ++ part_ended j part) ++ (segments_of_begin (part_past n j part).begin
        ++ segments_of (lane_lines (part_past n j part).items
        ++ numbered_lines header (with_judged j above).lines (suc n) rest))
        → InBody header (suc n) (with_judged j above) (part_past n j part) (done ++ part_ended j part)
        (out ++ copied_line header j) rest
    stood-with j is begins same = record {
      count = stood.count;
      header_is = stood.header_is;
      come = ap (λ (r : Result Line LineCause). come_to header (with_judged r above) rest) (sym is) ∙ stood.come;
      out_is = ap (λ (bytes : List ℕ). bytes ++ copied_line header j) stood.out_is
          ∙ append_assoc (spelled_header header) (counted header above.lines) (copied_line header j)
          ∙ ap (λ (bytes : List ℕ). spelled_header header ++ bytes) (sym (counted-past header above j));
      begins = begins;
      segments = sym same
          ∙ ap (λ (lines : List NumberedLine). segments_of_parts done
          ++ (segments_of_begin part.begin ++ segments_of (lane_lines part.items ++ lines))) (sym (with-judged j is))
          ∙ stood.segments;
    }

    abbrev StoodPast : Result Line LineCause → Type 0
    StoodPast j = InBody header (suc n) (with_judged j above) (part_past n j part) (done ++ part_ended j part)
        (out ++ copied_line header j) rest

    -- no part ends
    stood-on : (j : Result Line LineCause) → judged header above.lines line ≡ j → part_ended j part ≡ []
        → (part_past n j part).begin ≡ part.begin
        → segments_of (lane_lines part.items ++ numbered j)
        ≡ segments_of (lane_lines (part_past n j part).items
        ++ numbered_lines header (with_judged j above).lines (suc n) rest)
        → StoodPast j
    stood-on j is none same_begin same =
        let no : done ++ part_ended j part ≡ done =
        ap (λ (xs : List TracePart). done ++ xs) none ∙ append-nil done in
        stood-with j is
        (subst (λ (xs : List TracePart). BeginAfter header (xs ++ part_past n j part ∷ [])) (sym no)
        (begin-same header done part (part_past n j part) same_begin stood.begins))
        (ap₂ (λ (b : Begin) (segments : List Segment). segments_of_parts done ++ (segments_of_begin b ++ segments))
        (sym same_begin) same
        ∙ ap (λ (xs : List TracePart). segments_of_parts xs ++ (segments_of_begin (part_past n j part).begin
        ++ segments_of (lane_lines (part_past n j part).items
        ++ numbered_lines header (with_judged j above).lines (suc n) rest))) (sym no))

    module _ (cuts : BoundariesCut) (one : LinesMakeOnePhase) where
      stood-past : (j : Result Line LineCause) → judged header above.lines line ≡ j → StoodPast j
      stood-past (Ok Blank) is = stood-on (Ok Blank) is refl refl
          (segments-blank part.items n (numbered_lines header above.lines (suc n) rest))
      stood-past (Err cause) is = stood-on (Err cause) is refl refl
          (segments-refused part.items n cause (numbered_lines header above.lines (suc n) rest))
      stood-past (Ok (Lane lane act)) is = stood-on (Ok (Lane lane act)) is refl refl
          (ap segments_of (sym (lane_lines-push part.items (record { number = n; lane = lane; act = act })
          (numbered_lines header (Lane lane act ∷ above.lines) (suc n) rest))))
      stood-past (Ok (Boundary b)) is =
          let next : TracePart = record { begin = WithBoundary n b; items = [] } in
          let later : List Segment = segments_of (numbered_lines header (Boundary b ∷ above.lines) (suc n) rest) in
          stood-with (Ok (Boundary b)) is (begin-next header (done ++ part ∷ []) next tt stood.begins)
          (ap (λ (segments : List Segment). segments_of_parts done ++ (segments_of_begin part.begin ++ segments))
          (segments-boundary cuts one part.items n b (numbered_lines header (Boundary b ∷ above.lines) (suc n) rest))
          ∙ ap (λ (segments : List Segment). segments_of_parts done ++ segments)
          (sym (append_assoc (segments_of_begin part.begin) (phase_if_any part.items) (Between n b ∷ later)))
          ∙ sym (append_assoc (segments_of_parts done) (segments_of_part part) (Between n b ∷ later))
          ∙ ap (λ (segments : List Segment). segments ++ Between n b ∷ later) (sym (segments_of_parts-push done part)))

  -- past any line that doesn't stop the copy
  module _ (cuts : BoundariesCut) (one : LinesMakeOnePhase) where
    stood-line : (s : State) (line : List ℕ) (rest : List (List ℕ)) (done : List TracePart) (out : List ℕ)
        → Stood s done out (line ∷ rest) → plain.halts s line ≡ None
        → Stood (plain.next s line) (done ++ parts_at s line) (out ++ plain.prints s line) rest
    stood-line (Heading n stage) line rest done out stood none =
        stood-head n stage line rest done out (head_line stage line) stood refl
        (unless_beyond (nat_lt most_lines n) (refuses (head_line stage line)) none)
    stood-line (Body n header above part) line rest done out stood none =
        stood-past header n above part done out line rest stood cuts one (judged header above.lines line) refl

    pub walk : (lines more : List (List ℕ)) (s : State) (done : List TracePart) (out : List ℕ)
        → Stood s done out (lines ++ more) → halted plain s lines ≡ None
        → Stood (state_after plain s lines) (done ++ parts_made s lines) (out ++ printed plain s lines) more
    walk [] more s done out stood none =
        subst (λ (bytes : List ℕ). Stood s (done ++ []) bytes more) (sym (append-nil out))
        (subst (λ (xs : List TracePart). Stood s xs out more) (sym (append-nil done)) stood)
    walk (line ∷ lines) more s done out stood none =
        let next : State = plain.next s line in
        let here = first-none (plain.halts s line) (halted plain next lines) none in
        subst (λ (bytes : List ℕ).
        Stood (state_after plain next lines) (done ++ parts_made s (line ∷ lines)) bytes more)
        (append_assoc out (plain.prints s line) (printed plain next lines)
        ∙ ap (λ (h : Option Status). out ++ printed_from h (plain.prints s line) (printed plain next lines)) (sym here))
        (subst (λ (xs : List TracePart). Stood (state_after plain next lines) xs
        ((out ++ plain.prints s line) ++ printed plain next lines) more)
        (append_assoc done (parts_at s line) (parts_made next lines))
        (walk lines more next (done ++ parts_at s line) (out ++ plain.prints s line)
        (stood-line s line (lines ++ more) done out stood here)
        (later-none (plain.halts s line) (halted plain next lines) none)))
