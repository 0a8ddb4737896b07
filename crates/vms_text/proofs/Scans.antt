-- The first word of a line.
use Rattle.std.proofs.Common.{ℕ, ◌≡◌, ◌<◌, ◌≤◌, ◌+◌, ◌-◌, Bool, true, false, not, List, [], ◌∷◌, ◌++◌, ◌⊎◌, inl, inr}
use Rattle.std.proofs.Common.{None, Some, refl, sym, subst, ◌∙◌, ap, arith, append-nil, take, drop, length, get_or}
use Rattle.std.proofs.Common.{position}
use Rattle.std.proofs.lemmas.Bool.Decides.{nat_tests}
use Rattle.std.proofs.lemmas.List.{at_drop_all, drop-drop, drop_more, get_or-drop, get_or-take, length-drop}
use Rattle.std.proofs.lemmas.List.{length-take-le, take-append-drop, take_all}
use Rattle.std.proofs.lemmas.List.Sums.{fails_before_first, passes_at_first, prefix_len-le-length}
use Rattle.std.specs.List.{All, position_or_len}
use Rattle.vms_text.specs.Common.{IsNextWord, is_word_byte, words_of}
use Rattle.vms_text.proofs.Cuts.{not-false, position-before, position-none, position-parts, position_or_len-some}
use Rattle.vms_text.proofs.Words.{is_other, words_of-blanks, words_of-last, words_of-other, words_of-word}

other_byte : (b : Bool) → not b ≡ true → b ≡ false
other_byte true is = absurd cc
other_byte false is = refl

-- bytes that begin with so long a word
pub record BeginsWord (bytes : List ℕ) (size : ℕ) : Type 0 where
  pub filled : 0 < size
  pub within : size ≤ length bytes
  pub of_word_bytes : All (λ byte. is_word_byte byte ≡ true) (take size bytes)
  pub ends : size < length bytes → is_word_byte (get_or bytes size 0) ≡ false
  pub words : words_of bytes ≡ take size bytes ∷ words_of (drop size bytes)

filled : (bytes : List ℕ) → 0 < length bytes → is_word_byte (get_or bytes 0 0) ≡ true
    → 0 < position_or_len is_other bytes
filled [] some first = absurd (omega arith)
filled (byte ∷ bytes) some first = grind (arith, nat_tests)

run_bytes : (bytes : List ℕ) → All (λ byte. is_word_byte byte ≡ true) (take (position_or_len is_other bytes) bytes)
run_bytes bytes = λ k d below.
    let size = position_or_len is_other bytes in
    let short : k < size =
    omega (arith, length-take-le size bytes (prefix_len-le-length (λ byte. not (is_other byte)) bytes), below) in
    subst (λ byte. is_word_byte byte ≡ true) (sym (get_or-take size bytes k d short))
    (not-false (is_word_byte (get_or bytes k d)) (fails_before_first is_other bytes k d short))

ends : (bytes : List ℕ) → position_or_len is_other bytes < length bytes
    → is_word_byte (get_or bytes (position_or_len is_other bytes) 0) ≡ false
ends bytes more =
    other_byte (is_word_byte (get_or bytes (position_or_len is_other bytes) 0)) (passes_at_first is_other bytes 0 more)

run_words : (bytes : List ℕ) (size : ℕ) → 0 < size → size ≤ length bytes
    → All (λ byte. is_word_byte byte ≡ true) (take size bytes)
    → (size < length bytes → is_word_byte (get_or bytes size 0) ≡ false)
    → (size < length bytes) ⊎ (length bytes ≤ size) → words_of bytes ≡ take size bytes ∷ words_of (drop size bytes)
run_words bytes size some within all end (inl more) =
    let byte = get_or bytes size 0 in
    let rest = drop (size + 1) bytes in
    let parts = drop_more bytes size 0 more in
    ap words_of (sym (take-append-drop size bytes) ∙ ap (λ tail. take size bytes ++ tail) parts)
    ∙ words_of-word (take size bytes) byte rest (omega (arith, length-take-le size bytes within)) all (end more)
    ∙ ap (λ words. take size bytes ∷ words) (sym (ap words_of parts ∙ words_of-other byte rest (end more)))
run_words bytes size some within all end (inr none) =
    let whole = take_all size bytes none in
    let nothing : drop size bytes ≡ [] = at_drop_all (λ left. left) bytes size none in
    ap words_of (sym whole)
    ∙ words_of-last (take size bytes) (omega (arith, length-take-le size bytes within)) all
    ∙ ap (λ rest. take size bytes ∷ words_of rest) (sym nothing)

less_or_not : (m n : ℕ) → (m < n) ⊎ (n ≤ m)
less_or_not m n = grind arith

BeginsWord-run : (bytes : List ℕ) (size : ℕ) → size ≡ position_or_len is_other bytes → 0 < length bytes
    → is_word_byte (get_or bytes 0 0) ≡ true → BeginsWord bytes size
BeginsWord-run bytes size is some first =
    let run = position_or_len is_other bytes in
    let within = prefix_len-le-length (λ byte. not (is_other byte)) bytes in
    subst (BeginsWord bytes) (sym is) (record {
      filled = filled bytes some first;
      within = within;
      of_word_bytes = run_bytes bytes;
      ends = ends bytes;
      words =
          run_words bytes run (filled bytes some first) within (run_bytes bytes) (ends bytes)
          (less_or_not run (length bytes));
    })

-- bytes with none of a word have no word
pub words_of-none : (bytes : List ℕ) → position is_word_byte bytes ≡ None → words_of bytes ≡ []
words_of-none bytes none =
    ap words_of (sym (append-nil bytes)) ∙ words_of-blanks bytes [] (position-none is_word_byte bytes none)

words_of-begin : (bytes : List ℕ) (skipped : ℕ) → position is_word_byte bytes ≡ Some skipped
    → words_of bytes ≡ words_of (drop skipped bytes)
words_of-begin bytes skipped some =
    ap words_of (sym (take-append-drop skipped bytes))
    ∙ words_of-blanks (take skipped bytes) (drop skipped bytes) (position-before is_word_byte bytes skipped some)

-- the word that begins at the first byte of a word, and ends before the next byte that isn't one
pub IsNextWord-found : (line : List ℕ) (from skipped size : ℕ) → from ≤ length line
    → position is_word_byte (drop from line) ≡ Some skipped
    → size ≡ position_or_len is_other (drop (from + skipped) line)
    → IsNextWord line from (from + skipped) (from + skipped + size)
IsNextWord-found line from skipped size inside some is =
    let rest = drop from line in
    let begin = from + skipped in
    let tail = drop begin line in
    let at = (position_or_len-some is_word_byte rest skipped some).1 in
    let below : begin < length line = omega (arith, length-drop from line) in
    let size_of = length-drop begin line in
    let nothing_more : begin + 0 ≡ begin = omega arith in
    let same : get_or tail 0 0 ≡ get_or rest skipped 0 =
    get_or-drop begin line 0 0 ∙ ap (λ k. get_or line k 0) nothing_more ∙ sym (get_or-drop from line skipped 0) in
    let first = ap is_word_byte same ∙ (position-parts is_word_byte rest skipped 0 some).0 in
    let run = BeginsWord-run tail size is (omega arith) first in
    let width : begin + size - begin ≡ size = omega arith in
    let before : begin - from ≡ skipped = omega arith in
    record {
      after = omega arith;
      filled = omega (arith, run.filled);
      within = omega (arith, run.within);
      words = words_of-begin rest skipped some
          ∙ ap words_of (drop-drop skipped from line)
          ∙ run.words
          ∙ ap (λ more. take size tail ∷ words_of more) (drop-drop size begin line)
          ∙ ap (λ n. take n tail ∷ words_of (drop (begin + size) line)) (sym width);
      of_word_bytes = subst (λ n. All (λ byte. is_word_byte byte ≡ true) (take n tail)) (sym width) run.of_word_bytes;
      none_before =
          subst (λ n. All (λ byte. is_word_byte byte ≡ false) (take n rest)) (sym before)
          (position-before is_word_byte rest skipped some);
      ends = λ more. ap is_word_byte (sym (get_or-drop begin line size 0)) ∙ run.ends (omega arith);
    }
