-- A remark that a check writes is one line, and is ignored where it is read.
use Rattle.std.proofs.Common.{◌≡◌, ◌≢◌, ℕ, ◌+◌, ◌<◌, ◌≤◌, ◌^◌, ◌==◌, ◌&&◌, Bool, true, false, not, nat_lt, List, []}
use Rattle.std.proofs.Common.{◌∷◌, ◌++◌, length, length-append, refl, ap, subst, ◌∙◌, arith, append_assoc, codes}
use Rattle.std.proofs.Common.{decimal}
use Rattle.std.specs.List.{All, list_all}
use Rattle.std.specs.Prelude.{Result, Ok}
use Rattle.std.proofs.lemmas.Bool.{false≢true}
use Rattle.std.proofs.lemmas.Bool.Decides.{nat_tests}
use Rattle.std.proofs.lemmas.Fmt.{length-decimal-le}
use Rattle.std.proofs.lemmas.List.Folds.{list_all-append}
use Rattle.std.proofs.lemmas.List.Sums.{AllPass-from_list_all}
use Rattle.vms_base.specs.declared.headers.Header.{Header}
use Rattle.vms_text.specs.declared.acts.Line.{Line}
use Rattle.vms_text.specs.declared.acts.Line.TheVariants.{Blank}
use Rattle.vms_text.specs.Common.{lines_of, is_word_byte, and_then, most_line}
use Rattle.vms_text.proofs.Common.{lines_of-first, and_left, and_right, ShortWord-from, decimal-short}
use Rattle.vms_line.specs.declared.causes.LineCause.{LineCause}
use Rattle.vms_line.specs.declared.causes.LineCause.TheVariants as causes
use Rattle.vms_line.specs.Common.{read_line}
use Rattle.vms_script.specs.Common.{allowed, judged}
use Rattle.vms_command.specs.Common.{done_line, line_cause, line_prefix, refused_line}

-- a text of at most this many bytes, on one line
record IsPiece (most : ℕ) (text : List ℕ) : Type 0 where
  inner : list_all (λ byte. not (byte == 10)) text ≡ true
  short : length text ≤ most

piece-append : (k m : ℕ) (before after : List ℕ) → IsPiece k before → IsPiece m after
    → IsPiece (k + m) (before ++ after)
piece-append k m before after first second = record {
  inner = list_all-append (λ byte. not (byte == 10)) before after
      ∙ ap (λ (b : Bool). b && list_all (λ byte. not (byte == 10)) after) first.inner ∙ second.inner;
  short = omega (arith, first.short, second.short, length-append before after);
}

inner_word : (word : List ℕ) → list_all is_word_byte word ≡ true → list_all (λ byte. not (byte == 10)) word ≡ true
inner_word [] bytes = refl
inner_word (byte ∷ word) bytes =
    let first = and_left (is_word_byte byte) (list_all is_word_byte word) bytes in
    let this : not (byte == 10) ≡ true = grind (arith, nat_tests) in
    ap (λ (b : Bool). b && list_all (λ byte. not (byte == 10)) word) this
    ∙ inner_word word (and_right (is_word_byte byte) (list_all is_word_byte word) bytes)

decimal_piece : (n : ℕ) → n < 10 ^ 7 → IsPiece 7 (decimal n)
decimal_piece n fits = record {
  inner = inner_word (decimal n) (ShortWord-from (decimal n) (decimal-short n (omega arith))).bytes;
  short = length-decimal-le 7 n (omega arith) fits (omega arith);
}

cause_piece : (cause : LineCause) → IsPiece 14 (line_cause cause)
cause_piece causes.Malformed = record { inner = refl; short = omega arith }
cause_piece causes.BadNumber = record { inner = refl; short = omega arith }
cause_piece causes.UnknownLane = record { inner = refl; short = omega arith }
cause_piece causes.UnknownPlace = record { inner = refl; short = omega arith }
cause_piece causes.UnknownItem = record { inner = refl; short = omega arith }
cause_piece causes.UnknownCounter = record { inner = refl; short = omega arith }
cause_piece causes.LineTooLong = record { inner = refl; short = omega arith }
cause_piece causes.NotOnline = record { inner = refl; short = omega arith }
cause_piece causes.Overflow = record { inner = refl; short = omega arith }
cause_piece causes.NotDead = record { inner = refl; short = omega arith }
cause_piece causes.NotFolded = record { inner = refl; short = omega arith }
cause_piece causes.LastCpu = record { inner = refl; short = omega arith }
cause_piece causes.NotPages = record { inner = refl; short = omega arith }

-- a whole remark: what it says stands after `# `
pub record IsRemark (text : List ℕ) : Type 0 where
  pub said : List ℕ
  pub is : text ≡ (35 ∷ 32 ∷ said) ++ 10 ∷ []
  pub inner : list_all (λ byte. not (byte == 10)) said ≡ true
  pub short : length said ≤ 190

pub refused_is_remark : (n : ℕ) (cause : LineCause) → n < 10 ^ 7 → IsRemark (codes "# " ++ refused_line n cause)
refused_is_remark n cause fits =
    let prefix = piece-append 12 2 (codes "line " ++ decimal n) (codes ": ")
    (piece-append 5 7 (codes "line ") (decimal n) (record { inner = refl; short = omega arith }) (decimal_piece n fits))
    (record { inner = refl; short = omega arith }) in
    let refused = piece-append 14 9 (line_prefix n) (codes "refused: ") prefix
    (record { inner = refl; short = omega arith }) in
    let whole = piece-append 23 14 (line_prefix n ++ codes "refused: ") (line_cause cause) refused (cause_piece cause)
    in
    record {
      said = line_prefix n ++ codes "refused: " ++ line_cause cause;
      is = refl;
      inner = whole.inner;
      short =
          omega (arith, whole.short);
    }

pub done_is_remark : (accepted refused : ℕ) → accepted < 10 ^ 7 → refused < 10 ^ 7
    → IsRemark (codes "# " ++ done_line accepted refused)
done_is_remark accepted refused fits fits' =
    let first = piece-append 14 7 (codes "done accepted ") (decimal accepted)
    (record { inner = refl; short = omega arith }) (decimal_piece accepted fits) in
    let second = piece-append 21 9 (codes "done accepted " ++ decimal accepted) (codes " refused ") first
    (record { inner = refl; short = omega arith }) in
    let whole = piece-append 30 7 (codes "done accepted " ++ decimal accepted ++ codes " refused ") (decimal refused)
    second (decimal_piece refused fits') in
    record {
      said = codes "done accepted " ++ decimal accepted ++ codes " refused " ++ decimal refused;
      is =
          refl;
      inner = whole.inner;
      short = omega (arith, whole.short);
    }

inner_line : (line : List ℕ) → list_all (λ byte. not (byte == 10)) line ≡ true → All (λ byte. byte ≢ 10) line
inner_line line inner = λ k d within ends.
    let is = AllPass-from_list_all (λ byte. not (byte == 10)) line inner k d within in
    false≢true (subst (λ (byte : ℕ). not (byte == 10) ≡ true) ends is)

module _ (text : List ℕ) (remark : IsRemark text) where
  -- a remark is one line, whatever stands after it
  pub remark-one_line : (rest : List ℕ) → lines_of (text ++ rest) ≡ (35 ∷ 32 ∷ remark.said) ∷ lines_of rest
  remark-one_line rest =
      let line = 35 ∷ 32 ∷ remark.said in
      ap (λ (bytes : List ℕ). lines_of (bytes ++ rest)) remark.is ∙ ap lines_of (append_assoc line (10 ∷ []) rest)
      ∙ lines_of-first line rest (inner_line line remark.inner)

  -- and is ignored
  pub remark-judged : (header : Header) (lines : List Line) → judged header lines (35 ∷ 32 ∷ remark.said) ≡ Ok Blank
  remark-judged header lines =
      let few = remark.short in
      let short : nat_lt most_line (length (35 ∷ 32 ∷ remark.said)) ≡ false = grind (arith, nat_tests) in
      let read : read_line header (35 ∷ 32 ∷ remark.said) ≡ Ok Blank = rw short refl in
      ap (λ (said : Result Line LineCause). and_then said (allowed header lines)) read
