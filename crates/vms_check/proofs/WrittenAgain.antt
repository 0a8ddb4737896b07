-- What a check writes is accepted again.
use Rattle.std.proofs.Common.{◌≡◌, ℕ, suc, ◌+◌, ◌<◌, ◌≤◌, ◌^◌, List, [], ◌∷◌, ◌++◌, length, drop, flat_map, map, refl}
use Rattle.std.proofs.Common.{sym, ap, subst, ◌∙◌, arith, append_assoc, append-nil}
use Rattle.std.specs.List.{All}
use Rattle.std.specs.Prelude.{Result, Ok, Err}
use Rattle.std.proofs.lemmas.List.{drop_at, length-drop, length-map}
use Rattle.std.proofs.lemmas.List.Elements.{All-head, All-tail}
use Rattle.vms_base.specs.declared.headers.Header.{Header}
use Rattle.vms_base.specs.Common.{IsHeader}
use Rattle.vms_text.specs.declared.acts.Line.{Line}
use Rattle.vms_text.specs.declared.acts.Line.TheVariants.{Blank, Lane, Boundary}
use Rattle.vms_text.specs.Common.{lines_of, joined, and_then, sentence}
use Rattle.vms_text.proofs.Common.{lines_of-append, lines_of-first, IsFew, few-one_line}
use Rattle.vms_line.specs.declared.causes.LineCause.{LineCause}
use Rattle.vms_header.specs.Common.{Fault, read_header, IsSettled, IsWritable, header_words}
use Rattle.vms_line.specs.Common.{ReadsBack, spelled_line}
use Rattle.vms_header.proofs.Common.{lines_of-sentences, header_words-few, HeadersReadBack-holds, read_header-settled}
use Rattle.vms_header.proofs.Common.{read_header-writable}
use Rattle.vms_line.proofs.Common.{LinesReadBack-holds}
use Rattle.vms_script.specs.Common.{allowed, judged}
use Rattle.vms_command.specs.Common.{most_lines, LinesAbove, come_to, nothing_above, with_judged, printed_of}
use Rattle.vms_command.proofs.Common.{one_more}
use Rattle.vms_script.proofs.Common.{judged-known, judged-read}
use Rattle.vms_check.specs.Common.{checked_end, checked_line, checking, ChecksAgain}
use Rattle.vms_check.proofs.Remarks.{IsRemark, done_is_remark, refused_is_remark, remark-judged, remark-one_line}

-- with none refused
abbrev with_none_refused : LinesAbove → LinesAbove
with_none_refused above = record above { refused = 0 }

module _ (header : Header) (is_header : IsHeader header) where
  -- a remark changes nothing
  remark_again : (above : LinesAbove) (text rest : List ℕ) → IsRemark text
      → come_to header above (lines_of (text ++ rest)) ≡ come_to header above (lines_of rest)
  remark_again above text rest remark =
      ap (come_to header above) (remark-one_line text remark rest)
      ∙ ap (λ (result : Result Line LineCause). come_to header (with_judged result above) (lines_of rest))
      (remark-judged text remark header above.lines)

  -- a spelled line counts again
  line_again : (above : LinesAbove) (text rest : List ℕ) (line : Line) → judged header above.lines text ≡ Ok line
      → come_to header (with_none_refused above) (lines_of (spelled_line header line ++ rest))
      ≡ come_to header (with_judged (Ok line) (with_none_refused above)) (lines_of rest)
  line_again above text rest line counts =
      let back : ReadsBack header line = LinesReadBack-holds header line is_header
      (judged-known header above.lines text line is_header counts) in
      let split = ap (λ (bytes : List ℕ). lines_of (bytes ++ rest)) back.spelled
      ∙ ap lines_of (append_assoc back.text (10 ∷ []) rest)
      ∙ lines_of-append back.text rest ∙ ap (λ (lines : List (List ℕ)). lines ++ lines_of rest)
      (ap lines_of (sym back.spelled) ∙ back.one_line) in
      let allows : allowed header above.lines line ≡ Ok line =
      ap (λ (read : Result Line LineCause). and_then read (allowed header above.lines))
      (sym (judged-read header above.lines text line counts)) ∙ counts in
      let again : judged header above.lines back.text ≡ Ok line =
      ap (λ (read : Result Line LineCause). and_then read (allowed header above.lines)) back.read ∙ allows in
      ap (come_to header (with_none_refused above)) split
      ∙ ap (λ (result : Result Line LineCause). come_to header (with_judged result (with_none_refused above))
      (lines_of rest)) again

  one_again : (n : ℕ) (above : LinesAbove) (text rest : List ℕ) (result : Result Line LineCause)
      → judged header above.lines text ≡ result → n < 10 ^ 7
      → come_to header (with_none_refused above) (lines_of (checked_line header n result ++ rest))
      ≡ come_to header (with_none_refused (with_judged result above)) (lines_of rest)
  one_again n above text rest (Ok Blank) is fits = refl
  one_again n above text rest (Ok (Lane lane act)) is fits = line_again above text rest (Lane lane act) is
  one_again n above text rest (Ok (Boundary boundary)) is fits = line_again above text rest (Boundary boundary) is
  one_again n above text rest (Err cause) is fits = remark_again (with_none_refused above) _ rest
      (refused_is_remark n cause fits)

  -- what is written of a body counts again
  body_again : (n : ℕ) (above : LinesAbove) (texts : List (List ℕ)) (rest : List ℕ) → n + length texts ≤ 10 ^ 7
      → come_to header (with_none_refused above) (lines_of (printed_of checking header n above tt texts ++ rest))
      ≡ come_to header (with_none_refused (come_to header above texts)) (lines_of rest)
  body_again n above [] rest fits = refl
  body_again n above (text ∷ texts) rest fits =
      let result = judged header above.lines text in
      let later = printed_of checking header (suc n) (with_judged result above) tt texts in
      ap (λ (bytes : List ℕ). come_to header (with_none_refused above) (lines_of bytes))
      (append_assoc (checked_line header n result) later rest)
      ∙ one_again n above text (later ++ rest) result refl (omega arith)
      ∙ body_again (suc n) (with_judged result above) texts rest (omega arith)

  come_to-most : (above : LinesAbove) (texts : List (List ℕ))
      → length (come_to header above texts).lines +
      (come_to header above texts).refused ≤ length above.lines + above.refused + length texts
  come_to-most above [] = omega arith
  come_to-most above (text ∷ texts) =
      let result = judged header above.lines text in
      omega (arith, one_more result above, come_to-most (with_judged result above) texts)

  -- what is written of a body, and of its end
  whole_again : (n : ℕ) (texts : List (List ℕ)) → n + length texts ≤ most_lines + 1
      → come_to header nothing_above (lines_of (printed_of checking header n nothing_above tt texts ++ checked_end
      (come_to header nothing_above texts)))
      ≡ with_none_refused (come_to header nothing_above texts)
  whole_again n texts fits =
      let above = come_to header nothing_above texts in
      let most = come_to-most nothing_above texts in
      let remark = done_is_remark (length above.lines) above.refused (omega (arith, most, fits))
      (omega (arith, most, fits)) in
      body_again n nothing_above texts (checked_end above) (omega (arith, fits))
      ∙ ap (λ (bytes : List ℕ). come_to header (with_none_refused above) (lines_of bytes))
      (sym (append-nil (checked_end above)))
      ∙ remark_again (with_none_refused above) (checked_end above) [] remark

-- the lines of sentences with a text after them
sentences_split : (lines : List (List (List ℕ))) (rest : List ℕ) → All IsFew lines
    → lines_of (flat_map sentence lines ++ rest) ≡ map joined lines ++ lines_of rest
sentences_split [] rest few = refl
sentences_split (words ∷ lines) rest few =
    ap lines_of (append_assoc (sentence words) (flat_map sentence lines) rest
    ∙ append_assoc (joined words) (10 ∷ []) (flat_map sentence lines ++ rest))
    ∙ lines_of-first (joined words) (flat_map sentence lines ++ rest)
    (few-one_line words (All-head IsFew words lines few))
    ∙ ap (λ (more : List (List ℕ)). joined words ∷ more) (sentences_split lines rest (All-tail IsFew words lines few))

pub ChecksAgain-holds : ChecksAgain
ChecksAgain-holds lines header count few is =
    let writable : IsWritable header = read_header-writable lines header count is in
    let settled = subst (λ (answer : Result (Header × ℕ) Fault). IsSettled lines answer) is (read_header-settled lines)
    in
    let words = header_words header in
    let words_few = header_words-few header writable in
    let body = drop count lines in
    let above = come_to header nothing_above body in
    let rest = printed_of checking header (suc count) nothing_above tt body ++ checked_end above in
    let split = sentences_split words rest words_few in
    let after = ap (drop (length words)) split ∙ drop_at (map joined words) (lines_of rest) (length words)
    (length-map words joined) in
    let again = ap (come_to header nothing_above) after ∙ whole_again header writable.is_header (suc count) body
    (omega (arith, few, settled.1, length-drop count lines)) in
    record {
      same_header = ap read_header split ∙ ap (λ (front : List (List ℕ)). read_header (front ++ lines_of rest))
          (sym (lines_of-sentences words words_few))
          ∙ HeadersReadBack-holds header (lines_of rest) writable;
      same_lines = ap (λ (come : LinesAbove). come.lines) again;
      none_refused = ap (λ (come : LinesAbove). come.refused) again;
    }
