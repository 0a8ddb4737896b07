-- The lines of a body that count, each in its one spelling, are read back: as the same segments but for the numbers of
-- their lines, with no line refused and none that ends a trace.
use Rattle.std.proofs.Common.{◌≡◌, ℕ, suc, ◌&&◌, Bool, true, false, nat_le, nat_lt, List, [], ◌∷◌, ◌++◌, flat_map}
use Rattle.std.proofs.Common.{length, refl, sym, ap, subst, ◌∙◌, append-nil, append_assoc, if◌then◌else◌}
use Rattle.std.proofs.lemmas.List.{append_cancel_right, reverse-append}
use Rattle.std.proofs.lemmas.List.Elements.{All-cons, All-nil}
use Rattle.std.specs.Prelude.{All, Result, Ok, Err, bytes_eq, reverse}
use Rattle.std.specs.Cmp.Lexicographic.{pointwise}
use Rattle.vms_world.specs.Common.{IsHeader, Header, Offline, Flush, Report, Cpu, Control, Line, Blank, lines_of}
use Rattle.vms_world.specs.Common.{LineCause, spelled_line, allowed, judged, numbered_lines, segments_of, segments_with}
use Rattle.vms_world.specs.Common.{with_counted}
use Rattle.vms_text.specs.declared.acts.Boundary.TheVariants.{Sync, Online}
use Rattle.vms_text.specs.declared.acts.Line.TheVariants.{Lane, Boundary}
use Rattle.vms_text.specs.Reading.{and_then, is_ignored, most_line}
use Rattle.vms_text.specs.Words.{joined, words_of}
use Rattle.vms_line.specs.declared.causes.LineCause.TheVariants.{LineTooLong}
use Rattle.vms_line.specs.Laws.{LinesHaveOneSpelling, ReadsBack}
use Rattle.vms_line.specs.Spelling.{line_words}
use Rattle.vms_line.specs.Body.{read_line}
use Rattle.vms_line.proofs.Common.{LinesReadBack-holds}
use Rattle.vms_script.proofs.Common.{judged-known, judged-read}
use Rattle.vms_command.specs.Common.{LinesAbove, come_to, with_judged}
use Rattle.vms_certifying.specs.HistoryLines.{history_words, is_history_line}
use Rattle.vms_recorded_texts.proofs.HistoriesRead.{one_line-first}
use Rattle.vms_recorded_texts.proofs.SameSegments.{SameSegments, segments_with-same}

-- the bytes of a line in its one spelling
abbrev spelled_text : Header → Line → List ℕ
spelled_text header line = joined (line_words header line)

-- a line that counts before others, and nothing where it doesn't or is blank
abbrev with_line : Result Line LineCause → List Line → List Line
with_line (Ok Blank) more = more
with_line (Ok line) more = line ∷ more
with_line (Err cause) more = more

-- the lines that count, in their order
abbrev pub counted : Header → List Line → List (List ℕ) → List Line
counted header above [] = []
counted header above (text ∷ texts) =
    with_line (judged header above text) (counted header (with_counted (judged header above text) above) texts)

abbrev with_text : Header → Result Line LineCause → List (List ℕ) → List (List ℕ)
with_text header (Ok Blank) more = more
with_text header (Ok line) more = spelled_text header line ∷ more
with_text header (Err cause) more = more

-- their texts
abbrev pub spelled_again : Header → List Line → List (List ℕ) → List (List ℕ)
spelled_again header above [] = []
spelled_again header above (text ∷ texts) =
    with_text header (judged header above text)
    (spelled_again header (with_counted (judged header above text) above) texts)

-- the lines that came together are those
pub come_to-counted : (header : Header) (above : LinesAbove) (texts : List (List ℕ))
    → reverse (come_to header above texts).lines ≡ reverse above.lines ++ counted header above.lines texts
come_to-counted header above [] = sym (append-nil (reverse above.lines))
come_to-counted header above (text ∷ texts) =
    by (judged header above.lines text) (λ result. come_to-counted header (with_judged result above) texts)
  where
    onto : (line : Line) (more : List Line) → reverse (line ∷ above.lines) ++ more ≡ reverse above.lines ++ line ∷ more
    onto line more =
        ap (λ (back : List Line). back ++ more) (reverse-append (line ∷ []) above.lines)
        ∙ append_assoc (reverse above.lines) (line ∷ []) more

    by : (result : Result Line LineCause)
        → ((r : Result Line LineCause) → reverse (come_to header (with_judged r above) texts).lines
        ≡ reverse (with_judged r above).lines ++ counted header (with_judged r above).lines texts)
        → reverse (come_to header (with_judged result above) texts).lines
        ≡ reverse above.lines ++ with_line result (counted header (with_counted result above.lines) texts)
    by (Ok Blank) rest = rest (Ok Blank)
    by (Ok (Lane lane act)) rest =
        rest (Ok (Lane lane act)) ∙ onto (Lane lane act) (counted header (Lane lane act ∷ above.lines) texts)
    by (Ok (Boundary b)) rest =
        rest (Ok (Boundary b)) ∙ onto (Boundary b) (counted header (Boundary b ∷ above.lines) texts)
    by (Err cause) rest = rest (Err cause)

-- the words of a line that counts don't end a trace
words-go_on : (header : Header) (line : Line) → pointwise bytes_eq (line_words header line) history_words ≡ false
words-go_on header Blank = refl
words-go_on header (Lane (Cpu cpu) act) = refl
words-go_on header (Lane Control act) = refl
words-go_on header (Boundary Sync) = refl
words-go_on header (Boundary (Offline cpu)) = refl
words-go_on header (Boundary (Online cpu)) = refl
words-go_on header (Boundary Flush) = refl
words-go_on header (Boundary (Report kind)) = refl

and_false : (b : Bool) → (b && false) ≡ false
and_false true = refl
and_false false = refl

-- a line that isn't blank
abbrev Says : Line → Type 0
Says Blank = ⊥
Says _ = Unit {0}

-- what is read as one isn't ignored
not-ignored : (long ignored : Bool) (rest : Result Line LineCause) (line : Line) → Says line
    → (if long then Err LineTooLong else if ignored then Ok Blank else rest) ≡ Ok line → ignored ≡ false
not-ignored long ignored rest Blank said is = absurd said
not-ignored true ignored rest (Lane lane act) said is = absurd cc
not-ignored true ignored rest (Boundary b) said is = absurd cc
not-ignored false true rest (Lane lane act) said is = absurd cc
not-ignored false true rest (Boundary b) said is = absurd cc
not-ignored false false rest (Lane lane act) said is = refl
not-ignored false false rest (Boundary b) said is = refl

module _ (one_spelling : LinesHaveOneSpelling) (header : Header) (is_header : IsHeader header) where
  -- a line that counts is one line in its spelling, which counts there too and doesn't end a trace
  record CountsAgain (above : List Line) (line : Line) : Type 0 where
    one_line : (rest : List ℕ)
        → lines_of (spelled_line header line ++ rest) ≡ spelled_text header line ∷ lines_of rest
    judged_is : judged header above (spelled_text header line) ≡ Ok line
    goes_on : is_history_line (spelled_text header line) ≡ false

  counts-again : (above : List Line) (text : List ℕ) (line : Line) → Says line → judged header above text ≡ Ok line
      → CountsAgain above line
  counts-again above text line said counts = record {
    one_line = λ rest. one_line-first (spelled_line header line) (spelled_text header line) rest refl
        (back.one_line ∙ ap (λ (t : List ℕ). t ∷ []) (sym same));
    judged_is = ap (λ (r : Result Line LineCause). and_then r (allowed header above)) read
        ∙ ap (λ (r : Result Line LineCause). and_then r (allowed header above))
        (sym (judged-read header above text line counts))
        ∙ counts;
    goes_on =
        ap (λ (words : List (List ℕ)). nat_le (length (spelled_text header line)) most_line
        && pointwise bytes_eq words history_words) (sym words)
        ∙ ap (λ b. nat_le (length (spelled_text header line)) most_line && b) (words-go_on header line)
        ∙ and_false (nat_le (length (spelled_text header line)) most_line);
  }
    where
      back : ReadsBack header line
      back = LinesReadBack-holds header line is_header (judged-known header above text line is_header counts)

      same : spelled_text header line ≡ back.text
      same = append_cancel_right (spelled_text header line) back.text (10 ∷ []) back.spelled

      read : read_line header (spelled_text header line) ≡ Ok line
      read = ap (read_line header) same ∙ back.read

      words : line_words header line ≡ words_of (spelled_text header line)
      words = one_spelling header (spelled_text header line) line is_header read
          (not-ignored (nat_lt most_line (length (spelled_text header line))) (is_ignored (spelled_text header line)) _
          line said read)

  -- the text of the lines that count, with more after it
  pub lines-again : (above : List Line) (texts : List (List ℕ)) (rest : List ℕ)
      → lines_of (flat_map (spelled_line header) (counted header above texts) ++ rest)
      ≡ spelled_again header above texts ++ lines_of rest
  lines-again above [] rest = refl
  lines-again above (text ∷ texts) rest =
      by (judged header above text) refl (λ more. lines-again more texts rest)
    where
      one : (line : Line) → Says line → judged header above text ≡ Ok line → (more : List Line)
          → lines_of (flat_map (spelled_line header) (line ∷ counted header more texts) ++ rest)
          ≡ spelled_text header line ∷ lines_of (flat_map (spelled_line header) (counted header more texts) ++ rest)
      one line said is more =
          ap lines_of (append_assoc (spelled_line header line)
          (flat_map (spelled_line header) (counted header more texts)) rest)
          ∙ (counts-again above text line said is).one_line
          (flat_map (spelled_line header) (counted header more texts) ++ rest)

      by : (result : Result Line LineCause) → judged header above text ≡ result
          → ((more : List Line) → lines_of (flat_map (spelled_line header) (counted header more texts) ++ rest)
          ≡ spelled_again header more texts ++ lines_of rest)
          → lines_of (flat_map (spelled_line header)
          (with_line result (counted header (with_counted result above) texts)) ++ rest)
          ≡ with_text header result (spelled_again header (with_counted result above) texts) ++ lines_of rest
      by (Ok Blank) is later = later above
      by (Ok (Lane lane act)) is later =
          one (Lane lane act) tt is (Lane lane act ∷ above)
          ∙ ap (λ (more : List (List ℕ)). spelled_text header (Lane lane act) ∷ more) (later (Lane lane act ∷ above))
      by (Ok (Boundary b)) is later =
          one (Boundary b) tt is (Boundary b ∷ above)
          ∙ ap (λ (more : List (List ℕ)). spelled_text header (Boundary b) ∷ more) (later (Boundary b ∷ above))
      by (Err cause) is later = later above

  -- they have the same segments
  pub segments-again : (above : List Line) (n m : ℕ) (texts : List (List ℕ))
      → SameSegments (segments_of (numbered_lines header above n texts))
      (segments_of (numbered_lines header above m (spelled_again header above texts)))
  segments-again above n m [] = tt
  segments-again above n m (text ∷ texts) =
      by (judged header above text) refl (λ more k. segments-again more (suc n) k texts)
    where
      one : (line : Line) → Says line → judged header above text ≡ Ok line → (more : List Line)
          → with_counted (Ok line) above ≡ more
          → SameSegments (segments_of (numbered_lines header more (suc n) texts))
          (segments_of (numbered_lines header more (suc m) (spelled_again header more texts)))
          → SameSegments (segments_with n (Ok line) (segments_of (numbered_lines header more (suc n) texts)))
          (segments_of (numbered_lines header above m (spelled_text header line ∷ spelled_again header more texts)))
      one line said is more counted_is later =
          subst (λ (r : Result Line LineCause). SameSegments
          (segments_with n (Ok line) (segments_of (numbered_lines header more (suc n) texts)))
          (segments_with m r (segments_of (numbered_lines header (with_counted r above) (suc m)
          (spelled_again header more texts))))) (sym (counts-again above text line said is).judged_is)
          (subst (λ (mid : List Line). SameSegments
          (segments_with n (Ok line) (segments_of (numbered_lines header more (suc n) texts)))
          (segments_with m (Ok line) (segments_of (numbered_lines header mid (suc m)
          (spelled_again header more texts))))) (sym counted_is)
          (segments_with-same n m (Ok line) (segments_of (numbered_lines header more (suc n) texts)) _ later))

      by : (result : Result Line LineCause) → judged header above text ≡ result
          → ((more : List Line) (k : ℕ) → SameSegments (segments_of (numbered_lines header more (suc n) texts))
          (segments_of (numbered_lines header more k (spelled_again header more texts))))
          → SameSegments
          (segments_with n result (segments_of (numbered_lines header (with_counted result above) (suc n) texts)))
          (segments_of (numbered_lines header above m
          (with_text header result (spelled_again header (with_counted result above) texts))))
      by (Ok Blank) is later = later above m
      by (Ok (Lane lane act)) is later =
          one (Lane lane act) tt is (Lane lane act ∷ above) refl (later (Lane lane act ∷ above) (suc m))
      by (Ok (Boundary b)) is later =
          one (Boundary b) tt is (Boundary b ∷ above) refl (later (Boundary b ∷ above) (suc m))
      by (Err cause) is later = later above m

  -- none of them is refused
  pub none-refused : (above : LinesAbove) (texts : List (List ℕ))
      → (come_to header above (spelled_again header above.lines texts)).refused ≡ above.refused
  none-refused above [] = refl
  none-refused above (text ∷ texts) =
      by (judged header above.lines text) refl (λ result. none-refused (with_judged result above) texts)
    where
      one : (line : Line) → Says line → judged header above.lines text ≡ Ok line → (more : List (List ℕ))
          → (come_to header above (spelled_text header line ∷ more)).refused
          ≡ (come_to header (with_judged (Ok line) above) more).refused
      one line said is more =
          ap (λ (r : Result Line LineCause). (come_to header (with_judged r above) more).refused)
          (counts-again above.lines text line said is).judged_is

      by : (result : Result Line LineCause) → judged header above.lines text ≡ result
          → ((r : Result Line LineCause) → (come_to header (with_judged r above)
          (spelled_again header (with_judged r above).lines texts)).refused ≡ (with_judged r above).refused)
          → (come_to header above
          (with_text header result (spelled_again header (with_counted result above.lines) texts))).refused
          ≡ above.refused
      by (Ok Blank) is later = later (Ok Blank)
      by (Ok (Lane lane act)) is later =
          one (Lane lane act) tt is (spelled_again header (Lane lane act ∷ above.lines) texts)
          ∙ later (Ok (Lane lane act))
      by (Ok (Boundary b)) is later =
          one (Boundary b) tt is (spelled_again header (Boundary b ∷ above.lines) texts) ∙ later (Ok (Boundary b))
      by (Err cause) is later = later (Ok Blank)

  -- nor ends a trace
  pub none-ends : (above : List Line) (texts : List (List ℕ))
      → All (λ line. is_history_line line ≡ false) (spelled_again header above texts)
  none-ends above [] = All-nil (λ line. is_history_line line ≡ false)
  none-ends above (text ∷ texts) = by (judged header above text) refl (λ more. none-ends more texts)
    where
      one : (line : Line) → Says line → judged header above text ≡ Ok line → (more : List (List ℕ))
          → All (λ line. is_history_line line ≡ false) more
          → All (λ line. is_history_line line ≡ false) (spelled_text header line ∷ more)
      one line said is more later =
          All-cons (λ line. is_history_line line ≡ false) (spelled_text header line) more
          (counts-again above text line said is).goes_on later

      by : (result : Result Line LineCause) → judged header above text ≡ result
          → ((more : List Line) → All (λ line. is_history_line line ≡ false) (spelled_again header more texts))
          → All (λ line. is_history_line line ≡ false)
          (with_text header result (spelled_again header (with_counted result above) texts))
      by (Ok Blank) is later = later above
      by (Ok (Lane lane act)) is later =
          one (Lane lane act) tt is (spelled_again header (Lane lane act ∷ above) texts) (later (Lane lane act ∷ above))
      by (Ok (Boundary b)) is later =
          one (Boundary b) tt is (spelled_again header (Boundary b ∷ above) texts) (later (Boundary b ∷ above))
      by (Err cause) is later = later above
