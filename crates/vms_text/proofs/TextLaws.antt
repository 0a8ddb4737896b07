-- For other crates too: where the lines of a text end.
use Rattle.std.proofs.Common.{ℕ, ◌≡◌, ◌≢◌, ◌<◌, ◌==◌, Bool, true, false, List, [], ◌∷◌, ◌++◌, refl, sym, ◌∙◌, ap, arith}
use Rattle.std.proofs.Common.{length, length-append, append-nil, Some, None, inl, inr, position, take, drop, get_or}
use Rattle.std.proofs.Common.{◌+◌, ◌-◌, ◌≤◌, append_assoc, Option, le-ltb, lt-ltb, le_refl, lt_irrefl, le_of_lt}
use Rattle.std.proofs.Common.{zero-le}
use Rattle.std.proofs.lemmas.List.Sums.{position_or_len_is}
use Rattle.memchr.specs.Find.{IsFirstByte, is_byte}
use Rattle.std.proofs.lemmas.List.{drop_at, take_at}
use Rattle.std.proofs.lemmas.Bool.Decides.{nat_tests}
use Rattle.std.proofs.lemmas.List.Splits.{slice_split-cons_yes, slice_split-cons_no, slice_split_none}
use Rattle.std.proofs.lemmas.List.Splits.{length-slice_split}
use Rattle.std.specs.List.{All, slice_split, onto_first}
use Rattle.vms_text.specs.Common.{lines_of, SplitsLine, without_last_empty}
use Rattle.vms_text.proofs.Cuts.{position-before, position-none, position-parts}

abbrev is_end : ℕ → Bool
is_end byte = byte == 10

onto_first-append : {X : Type 0} (x : X) (parts more : List (List X)) → 0 < length parts
    → onto_first x (parts ++ more) ≡ onto_first x parts ++ more
onto_first-append x [] more some = absurd (omega arith)
onto_first-append x (part ∷ parts) more some = refl

-- a list cut at one element that passes is cut before it and after it
pub slice_split-append : {X : Type 0} (p : X → Bool) (before : List X) (y : X) (after : List X) → p y ≡ true
    → slice_split p (before ++ (y ∷ after)) ≡ slice_split p before ++ slice_split p after
slice_split-append p [] y after passes = slice_split-cons_yes p y after passes
slice_split-append p (x ∷ before) y after passes =
    elim (p x) as (λ b. p x ≡ b
    → slice_split p (x ∷ (before ++ (y ∷ after))) ≡ slice_split p (x ∷ before) ++ slice_split p after) [
      | true ↦ λ yes. slice_split-cons_yes p x (before ++ (y ∷ after)) yes
          ∙ ap (λ parts. [] ∷ parts) (slice_split-append p before y after passes)
          ∙ ap (λ parts. parts ++ slice_split p after) (sym (slice_split-cons_yes p x before yes))
      | false ↦ λ no. slice_split-cons_no p x (before ++ (y ∷ after)) no
          ∙ ap (onto_first x) (slice_split-append p before y after passes)
          ∙ onto_first-append x (slice_split p before) (slice_split p after)
          (omega (arith, length-slice_split p before))
          ∙ ap (λ parts. parts ++ slice_split p after) (sym (slice_split-cons_no p x before no))
    ] refl

without_last_empty-cons : (part : List ℕ) (parts : List (List ℕ)) → 0 < length parts
    → without_last_empty (part ∷ parts) ≡ part ∷ without_last_empty parts
without_last_empty-cons part [] some = absurd (omega arith)
without_last_empty-cons [] (next ∷ parts) some = refl
without_last_empty-cons (byte ∷ part) (next ∷ parts) some = refl

-- the last part alone may be left out
pub without_last_empty-append : (parts more : List (List ℕ)) → 0 < length more
    → without_last_empty (parts ++ more) ≡ parts ++ without_last_empty more
without_last_empty-append [] more some = refl
without_last_empty-append (part ∷ parts) more some =
    without_last_empty-cons part (parts ++ more) (omega (arith, length-append parts more))
    ∙ ap (λ rest. part ∷ rest) (without_last_empty-append parts more some)

-- the lines up to an end of line are the parts before it
pub lines_of-ended : (before after : List ℕ)
    → lines_of (before ++ (10 ∷ after)) ≡ slice_split is_end before ++ lines_of after
lines_of-ended before after =
    ap without_last_empty (slice_split-append is_end before 10 after refl)
    ∙ without_last_empty-append (slice_split is_end before) (slice_split is_end after)
    (omega (arith, length-slice_split is_end after))

pub lines_of-nil : lines_of [] ≡ []
lines_of-nil = refl

pub lines_of-append : (before after : List ℕ)
    → lines_of (before ++ (10 ∷ after)) ≡ lines_of (before ++ (10 ∷ [])) ++ lines_of after
lines_of-append before after =
    lines_of-ended before after
    ∙ ap (λ lines. lines ++ lines_of after) (sym (lines_of-ended before [] ∙ append-nil (slice_split is_end before)))

no_end : (line : List ℕ) → All (λ byte. byte ≢ 10) line → All (λ byte. is_end byte ≡ false) line
no_end line none = λ k d below. let other = none k d below in grind (arith, nat_tests)

pub lines_of-first : (line rest : List ℕ) → All (λ byte. byte ≢ 10) line
    → lines_of (line ++ (10 ∷ rest)) ≡ line ∷ lines_of rest
lines_of-first line rest none =
    lines_of-ended line rest ∙ ap (λ parts. parts ++ lines_of rest) (slice_split_none is_end line (no_end line none))

pub lines_of-last : (line : List ℕ) → All (λ byte. byte ≢ 10) line → line ≢ [] → lines_of line ≡ line ∷ []
lines_of-last [] none filled = absurd (filled refl)
lines_of-last (byte ∷ line) none filled =
    ap without_last_empty (slice_split_none is_end (byte ∷ line) (no_end (byte ∷ line) none))

no_end-back : (line : List ℕ) → All (λ byte. is_end byte ≡ false) line → All (λ byte. byte ≢ 10) line
no_end-back line none = λ k d below. let other = none k d below in grind (arith, nat_tests)

-- a text cut at its first end of line
pub SplitsLine-cut : (text : List ℕ) (end : ℕ) → position is_end text ≡ Some end
    → SplitsLine text (take end text) (drop (end + 1) text)
SplitsLine-cut text end some =
    let parts = position-parts is_end text end 0 some in
    let byte : get_or text end 0 ≡ 10 = grind (arith, nat_tests, parts.0) in
    record {
      one_line = no_end-back (take end text) (position-before is_end text end some);
      parts = inl (parts.1 ∙ ap (λ first. take end text ++ (first ∷ drop (end + 1) text)) byte);
    }

-- a text of one line
pub SplitsLine-whole : (text : List ℕ) → position is_end text ≡ None → SplitsLine text text []
SplitsLine-whole text none =
    record { one_line = no_end-back text (position-none is_end text none); parts = inr (refl, refl) }

drop_last : (line : List ℕ) → All (λ byte. byte ≢ 10) line → drop 1 (lines_of line) ≡ []
drop_last [] one = refl
drop_last (byte ∷ line) one = ap (drop 1) (lines_of-last (byte ∷ line) one (λ empty. absurd cc))

-- the lines after the first one
pub lines_of-split : (text line rest : List ℕ) → SplitsLine text line rest → lines_of rest ≡ drop 1 (lines_of text)
lines_of-split text line rest splits = elim splits.parts [
  | inl ended ↦ sym (ap (λ bytes. drop 1 (lines_of bytes)) ended
      ∙ ap (drop 1) (lines_of-first line rest splits.one_line))
  | inr whole ↦ ap lines_of whole.1
      ∙ sym (ap (λ bytes. drop 1 (lines_of bytes)) whole.0 ∙ drop_last line splits.one_line)
]

-- the rest is what stands after so many lines, with their ends
pub record Reaches (text : List ℕ) (count : ℕ) (rest : List ℕ) : Type 0 where
  pub front : List ℕ
  pub parts : text ≡ front ++ rest
  pub lines : length (lines_of front) ≡ count
  pub more : rest ≢ [] → (next : List ℕ) → lines_of (front ++ next) ≡ lines_of front ++ lines_of next

pub Reaches-start : (text : List ℕ) → Reaches text 0 text
Reaches-start text = record { front = []; parts = refl; lines = refl; more = λ some next. refl }

lines_of-line : (line : List ℕ) → All (λ byte. byte ≢ 10) line → lines_of (line ++ (10 ∷ [])) ≡ line ∷ []
lines_of-line line one = lines_of-first line [] one

lines_of-after : (front line next : List ℕ) → All (λ byte. byte ≢ 10) line
    → ((next : List ℕ) → lines_of (front ++ next) ≡ lines_of front ++ lines_of next)
    → lines_of ((front ++ (line ++ (10 ∷ []))) ++ next) ≡ (lines_of front ++ (line ∷ [])) ++ lines_of next
lines_of-after front line next one more =
    ap lines_of (append_assoc front (line ++ (10 ∷ [])) next
    ∙ ap (λ bytes. front ++ bytes) (append_assoc line (10 ∷ []) next))
    ∙ more (line ++ (10 ∷ next))
    ∙ ap (λ lines. lines_of front ++ lines) (lines_of-first line next one)
    ∙ sym (append_assoc (lines_of front) (line ∷ []) (lines_of next))

-- one line on
pub Reaches-line : (text : List ℕ) (count : ℕ) (rest line after : List ℕ) → Reaches text count rest
    → SplitsLine rest line after → rest ≢ [] → Reaches text (count + 1) after
Reaches-line text count rest line after reaches splits some = elim splits.parts [
  | inl ended ↦
      let own =
      reaches.more some (line ++ (10 ∷ []))
      ∙ ap (λ lines. lines_of reaches.front ++ lines) (lines_of-line line splits.one_line) in
      record {
        front = reaches.front ++ (line ++ (10 ∷ []));
        parts =
            reaches.parts ∙ ap (λ bytes. reaches.front ++ bytes) (ended ∙ sym (append_assoc line (10 ∷ []) after))
            ∙ sym (append_assoc reaches.front (line ++ (10 ∷ [])) after);
        lines = ap length own ∙ length-append (lines_of reaches.front) (line ∷ []) ∙ ap (λ n. n + 1) reaches.lines;
        more =
            λ after next. lines_of-after reaches.front line next splits.one_line (reaches.more some)
            ∙ ap (λ lines. lines ++ lines_of next) (sym own);
      }
  | inr whole ↦
      let filled : line ≢ [] = λ empty. some (whole.0 ∙ empty) in
      let own =
      reaches.more some line
      ∙ ap (λ lines. lines_of reaches.front ++ lines) (lines_of-last line splits.one_line filled) in
      record {
        front = reaches.front ++ line;
        parts =
            reaches.parts ∙ ap (λ bytes. reaches.front ++ bytes) whole.0
            ∙ sym (ap (λ bytes. (reaches.front ++ line) ++ bytes) whole.1 ∙ append-nil (reaches.front ++ line));
        lines = ap length own ∙ length-append (lines_of reaches.front) (line ∷ []) ∙ ap (λ n. n + 1) reaches.lines;
        more = λ after next. absurd (after whole.1);
      }
]

lines_of-parts : (text : List ℕ) (count : ℕ) (rest : List ℕ) (reaches : Reaches text count rest)
    → lines_of text ≡ lines_of reaches.front ++ lines_of rest
lines_of-parts text count [] reaches =
    ap lines_of (reaches.parts ∙ append-nil reaches.front) ∙ sym (append-nil (lines_of reaches.front))
lines_of-parts text count (byte ∷ rest) reaches =
    ap lines_of reaches.parts ∙ reaches.more (λ empty. absurd cc) (byte ∷ rest)

-- the bytes of so many lines, and those after them
pub record CutsLines (text : List ℕ) (count size : ℕ) : Type 0 where
  pub within : size ≤ length text
  pub front : lines_of (take size text) ≡ take count (lines_of text)
  pub rest : lines_of (drop size text) ≡ drop count (lines_of text)

pub CutsLines-reached : (text : List ℕ) (count : ℕ) (rest : List ℕ) → Reaches text count rest
    → CutsLines text count (length text - length rest)
CutsLines-reached text count rest reaches =
    let front = reaches.front in
    let size : length front ≡ length text - length rest =
    omega (arith, ap length reaches.parts, length-append front rest) in
    let whole = lines_of-parts text count rest reaches in
    record {
      within = omega arith;
      front =
          ap lines_of (ap (take (length text - length rest)) reaches.parts
          ∙ take_at front rest (length text - length rest) size)
          ∙ sym (ap (take count) whole ∙ take_at (lines_of front) (lines_of rest) count reaches.lines);
      rest =
          ap lines_of (ap (drop (length text - length rest)) reaches.parts
          ∙ drop_at front rest (length text - length rest) size)
          ∙ sym (ap (drop count) whole ∙ drop_at (lines_of front) (lines_of rest) count reaches.lines);
    }

-- no rest is longer than its text
pub SplitsLine-length : (text line rest : List ℕ) → SplitsLine text line rest → length rest ≤ length text
SplitsLine-length text line rest splits = elim splits.parts [
  | inl ended ↦ omega (arith, ap length ended, length-append line (10 ∷ rest))
  | inr whole ↦ omega (arith, ap length whole.1)
]

false_of : (b : Bool) → (b ≡ true → ⊥) → b ≡ false
false_of true not = absurd (not refl)
false_of false not = refl

-- the first byte 10 that a search finds, and that there is none where it finds none
pub position-searched : (text : List ℕ) (found : Option ℕ) → IsFirstByte (is_byte 10) text found
    → found ≡ position is_end text
position-searched text None nowhere =
    let len =
    position_or_len_is is_end text (length text) 0 (le_refl (length text))
    (λ k below. false_of (is_end (get_or text k 0)) (nowhere k zero-le below))
    (λ below. absurd (lt_irrefl (length text) below)) in
    rw (len, le-ltb (length text) (length text) (le_refl (length text))) refl
position-searched text (Some k) first =
    let len =
    position_or_len_is is_end text k 0 (le_of_lt first.0.high)
    (λ j below. false_of (is_end (get_or text j 0)) (first.0.before j zero-le below)) (λ _. first.1) in
    rw (len, lt-ltb k (length text) first.0.high) refl

-- the lines of a text that isn't empty: the one that it begins with, and those after
pub lines_of-begin : (text line rest : List ℕ) → SplitsLine text line rest → text ≢ []
    → lines_of text ≡ line ∷ lines_of rest
lines_of-begin text line rest splits some = elim splits.parts [
  | inl ended ↦ ap lines_of ended ∙ lines_of-first line rest splits.one_line
  | inr whole ↦ let same : line ≢ [] = λ empty. some (whole.0 ∙ empty) in
      ap lines_of whole.0 ∙ lines_of-last line splits.one_line same
      ∙ ap (λ (more : List ℕ). line ∷ lines_of more) (sym whole.1)
]
