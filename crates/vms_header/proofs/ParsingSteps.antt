-- The steps of parsing a text: its header is read line by line.
use Rattle.std.proofs.Common.{ℕ, suc, ◌≡◌, ◌≢◌, ◌+◌, ◌-◌, ◌<◌, ◌≤◌, List, [], ◌∷◌, length, Ok, Err, refl, sym, subst}
use Rattle.std.proofs.Common.{ap, ◌∙◌, arith, inl, inr, length-append}
use Rattle.vms_base.specs.declared.headers.Header.{Header}
use Rattle.vms_text.specs.Common.{SplitsLine, lines_of}
use Rattle.vms_text.proofs.Common.{CutsLines-reached, Reaches, Reaches-line, Reaches-start, lines_of-begin}
use Rattle.vms_header.specs.declared.causes.ReadError.{ReadError}
use Rattle.vms_header.specs.declared.causes.ReadError.TheVariants.{Refused, Memory}
use Rattle.vms_header.specs.Common.{Draft, header_of, ReadsHeader, Stage, head_line, header_from, missing, on_step}
use Rattle.vms_header.specs.Common.{read_header, Opening, Goes, Ends, StepsTo, at_line}

-- the lines before line n were read, up to this stage, and these bytes are left
pub record IsReadTo (text : List ℕ) (n : ℕ) (stage : Stage) (rest : List ℕ) : Type 0 where
  pub least : 1 ≤ n
  pub reached : Reaches text (n - 1) rest
  pub short : n + length rest ≤ length text + 1
  pub answer : header_from n stage (lines_of rest) ≡ read_header (lines_of text)

pub IsReadTo-start : (text : List ℕ) → IsReadTo text 1 Opening text
IsReadTo-start text = record { least = omega arith; reached = Reaches-start text; short = omega arith; answer = refl }

-- the next line gives what is left to read
pub IsReadTo-answer : (text : List ℕ) (n : ℕ) (stage : Stage) (rest line after : List ℕ) → IsReadTo text n stage rest
    → SplitsLine rest line after → rest ≢ []
    → on_step n (head_line stage line) (λ next. header_from (suc n) next (lines_of after)) ≡ read_header (lines_of text)
IsReadTo-answer text n stage rest line after runs splits some =
    ap (header_from n stage) (sym (lines_of-begin rest line after splits some)) ∙ runs.answer

next-reached : (text : List ℕ) (n : ℕ) (rest line after : List ℕ) → 1 ≤ n → Reaches text (n - 1) rest
    → SplitsLine rest line after → rest ≢ [] → Reaches text n after
next-reached text n rest line after least reached splits some =
    let same : n - 1 + 1 ≡ n = omega arith in
    subst (λ n. Reaches text n after) same (Reaches-line text (n - 1) rest line after reached splits some)

shorter : (rest line after : List ℕ) → SplitsLine rest line after → rest ≢ [] → length after < length rest
shorter rest line after splits some = elim splits.parts [
  | inl ended ↦ omega (arith, ap length ended, length-append line (10 ∷ after))
  | inr whole ↦ omega (arith, ap length whole.1, filled rest some)
]
  where
    filled : (rest : List ℕ) → rest ≢ [] → 0 < length rest
    filled [] some = absurd (some refl)
    filled (byte ∷ rest) some = omega arith

pub IsReadTo-goes : (text : List ℕ) (n : ℕ) (stage next : Stage) (rest line after : List ℕ) → IsReadTo text n stage rest
    → SplitsLine rest line after → rest ≢ [] → head_line stage line ≡ Ok (Goes next) → IsReadTo text (n + 1) next after
IsReadTo-goes text n stage next rest line after runs splits some goes =
    let less = shorter rest line after splits some in
    let same : n + 1 - 1 ≡ n = omega arith in
    let following : suc n ≡ n + 1 = omega arith in
    record {
      least = omega arith;
      reached = rw same (next-reached text n rest line after runs.least runs.reached splits some);
      short = omega (arith, less, runs.short);
      answer = rw (← following) (ap (λ step. on_step n step (λ next. header_from (suc n) next (lines_of after)))
          (sym goes) ∙ IsReadTo-answer text n stage rest line after runs splits some);
    }

pub IsReadTo-ends : (text : List ℕ) (n : ℕ) (stage : Stage) (rest line after : List ℕ) (draft : Draft) (header : Header)
    → IsReadTo text n stage rest → SplitsLine rest line after → rest ≢ [] → head_line stage line ≡ Ok (Ends draft)
    → header ≡ header_of draft → ReadsHeader text (Ok (header, n, length text - length after))
IsReadTo-ends text n stage rest line after draft header runs splits some ends is =
    let cuts = CutsLines-reached text n after
    (next-reached text n rest line after runs.least runs.reached splits some) in
    let answer = sym (IsReadTo-answer text n stage rest line after runs splits some)
    ∙ ap (λ step. on_step n step (λ next. header_from (suc n) next (lines_of after))) ends in
    (answer ∙ ap (λ header. Ok (header, n)) (sym is), cuts.within, cuts.front, cuts.rest)

pub IsReadTo-refused : (text : List ℕ) (n : ℕ) (stage : Stage) (rest line after : List ℕ) (error : ReadError)
    → IsReadTo text n stage rest → SplitsLine rest line after → rest ≢ [] → StepsTo (head_line stage line) (Err error)
    → ReadsHeader text (Err (at_line n error))
IsReadTo-refused text n stage rest line after (Refused cause) runs splits some refused =
    sym (IsReadTo-answer text n stage rest line after runs splits some)
    ∙ ap (λ step. on_step n step (λ next. header_from (suc n) next (lines_of after))) refused
IsReadTo-refused text n stage rest line after Memory runs splits some refused = tt

-- the text ends
pub IsReadTo-out : (text : List ℕ) (n : ℕ) (stage : Stage) (rest : List ℕ) → IsReadTo text n stage rest → rest ≡ []
    → read_header (lines_of text) ≡ Err (record { line = n; cause = missing stage })
IsReadTo-out text n stage rest runs none = sym runs.answer ∙ ap (λ rest. header_from n stage (lines_of rest)) none
