-- What one further line adds to the lines of a trace.
use Rattle.std.proofs.Common.{◌≡◌, ℕ, suc, ◌+◌, List, [], ◌∷◌, ◌++◌, length, refl, sym, ap, ◌∙◌, arith}
use Rattle.std.specs.Prelude.{Result, Ok, Err}
use Rattle.vms_base.specs.declared.headers.Header.{Header}
use Rattle.vms_text.specs.declared.acts.Line.{Line}
use Rattle.vms_line.specs.declared.causes.LineCause.{LineCause}
use Rattle.vms_script.specs.Common.{NumberedLine, judged, numbered_lines, with_counted}
use Rattle.vms_command.specs.Common.{LinesAbove, come_to, with_judged}

-- the lines that count, with one line more
pub lines-with_judged : (result : Result Line LineCause) (above : LinesAbove)
    → with_counted result above.lines ≡ (with_judged result above).lines
lines-with_judged (Ok line) above = refl
lines-with_judged (Err cause) above = refl

pub come_to-push : (header : Header) (above : LinesAbove) (texts : List (List ℕ)) (text : List ℕ)
    → come_to header above (texts ++ text ∷ [])
    ≡ with_judged (judged header (come_to header above texts).lines text) (come_to header above texts)
come_to-push header above [] text = refl
come_to-push header above (first ∷ texts) text =
    come_to-push header (with_judged (judged header above.lines first) above) texts text

-- the number and the judgement of one line more
abbrev pub next_line : Header → LinesAbove → ℕ → List (List ℕ) → List ℕ → NumberedLine
next_line header above n texts text =
    record { number = n + length texts; result = judged header (come_to header above texts).lines text }

pub numbered-push : (header : Header) (above : LinesAbove) (n : ℕ) (texts : List (List ℕ)) (text : List ℕ)
    → numbered_lines header above.lines n (texts ++ text ∷ [])
    ≡ numbered_lines header above.lines n texts ++ next_line header above n texts text ∷ []
numbered-push header above n [] text =
    ap (λ (m : ℕ). record { number = m; result = judged header above.lines text } ∷ []) (omega arith)
numbered-push header above n (first ∷ texts) text =
    let result = judged header above.lines first in
    let next = with_judged result above in
    ap (λ (lines : List NumberedLine). record { number = n; result = result } ∷ lines)
    (ap (λ (counted : List Line). numbered_lines header counted (suc n) (texts ++ text ∷ []))
    (lines-with_judged result above)
    ∙ numbered-push header next (suc n) texts text
    ∙ ap (λ (m : ℕ). numbered_lines header next.lines (suc n) texts
    ++ record { number = m; result = judged header (come_to header next texts).lines text } ∷ []) (omega arith)
    ∙ ap (λ (counted : List Line). numbered_lines header counted (suc n) texts
    ++ next_line header above n (first ∷ texts) text ∷ []) (sym (lines-with_judged result above)))

pub numbered-length : (header : Header) (above : List Line) (n : ℕ) (texts : List (List ℕ))
    → length (numbered_lines header above n texts) ≡ length texts
numbered-length header above n [] = refl
numbered-length header above n (text ∷ texts) =
    ap suc (numbered-length header (with_counted (judged header above text) above) (suc n) texts)
