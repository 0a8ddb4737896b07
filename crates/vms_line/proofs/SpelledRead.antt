-- For other crates too: a line that is read from the parts between its spaces stands in its one spelling.
use Rattle.std.proofs.Common.{ℕ, ◌≡◌, take, List, [], ◌∷◌, ◌++◌, Result, Ok, IfOk, sym, subst, ◌∙◌, ap}
use Rattle.std.proofs.lemmas.List.{append_cancel_right}
use Rattle.std.proofs.lemmas.List.Splits.{join_with_byte-slice_split}
use Rattle.vms_base.specs.declared.headers.Header.{Header}
use Rattle.vms_base.specs.Common.{IsHeader}
use Rattle.vms_text.specs.declared.acts.Line.{Line}
use Rattle.vms_text.specs.Common.{sentence, space_parts}
use Rattle.vms_line.specs.declared.causes.LineCause.{LineCause}
use Rattle.vms_line.specs.Common.{read_line, read_words, IsLineOf, IsSpelled, spelled_line}
use Rattle.vms_line.proofs.FormsSame.{read_words-same}
use Rattle.vms_line.proofs.LineWords.{read_words-take}
use Rattle.vms_line.proofs.LinesKnown.{read_words-known}
use Rattle.vms_line.proofs.LinesRead.{LinesReadBack-holds}

pub IsSpelled-read : (header : Header) → IsHeader header → (text : List ℕ) (line : Line)
    → read_words header (space_parts text) ≡ Ok line → IsSpelled header text line
IsSpelled-read header valid text line is =
    let known = subst (λ (found : Result Line LineCause). IfOk found (IsLineOf header)) is
    (read_words-known header valid (space_parts text)) in
    let back = LinesReadBack-holds header line valid known in
    let spelled : spelled_line header line ≡ text ++ 10 ∷ [] =
    ap sentence (read_words-same header valid (space_parts text) line is)
    ∙ ap (λ bytes. bytes ++ 10 ∷ []) (join_with_byte-slice_split 32 text) in
    let same : back.text ≡ text = append_cancel_right back.text text (10 ∷ []) (sym back.spelled ∙ spelled) in
    record { read = subst (λ one. read_line header one ≡ Ok line) same back.read; spelled = spelled }

-- what the first eight parts say is what all of them say
pub read_words-parts : (header : Header) (text : List ℕ) (parts : List (List ℕ)) (read : Result Line LineCause)
    → read ≡ read_words header parts → parts ≡ take 8 (space_parts text) → read ≡ read_words header (space_parts text)
read_words-parts header text parts read is cut =
    is ∙ ap (read_words header) cut ∙ read_words-take header (space_parts text)
