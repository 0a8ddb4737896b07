-- For other crates too: the words of a line that counts are short words of graphic bytes.
use Rattle.std.proofs.Common.{ℕ, ◌≡◌, true, List, Result, Ok, IfOk, subst}
use Rattle.std.specs.List.{list_all}
use Rattle.vms_base.specs.declared.headers.Header.{Header}
use Rattle.vms_base.specs.Common.{IsHeader}
use Rattle.vms_text.specs.declared.acts.Line.{Line}
use Rattle.vms_text.proofs.Common.{is_short}
use Rattle.vms_line.specs.declared.causes.LineCause.{LineCause}
use Rattle.vms_line.specs.Common.{read_words, IsLineOf}
use Rattle.vms_line.proofs.FormsSame.{read_words-same}
use Rattle.vms_line.proofs.LinesKnown.{read_words-known}
use Rattle.vms_line.proofs.LinesShort.{line_words-short}

pub read_words-graphic : (header : Header) → IsHeader header → (words : List (List ℕ)) (line : Line)
    → read_words header words ≡ Ok line → list_all is_short words ≡ true
read_words-graphic header valid words line is =
    let holds = read_words-known header valid words in
    let known = subst (λ (found : Result Line LineCause). IfOk found (IsLineOf header)) is holds in
    let same = read_words-same header valid words line is in
    let short = line_words-short header valid line known in
    subst (λ (spelled : List (List ℕ)). list_all is_short spelled ≡ true) same short
