-- For other crates too: the words of a line, cut at each byte that isn't one of a word.
use Rattle.std.proofs.Common.{ℕ, zero, suc, ◌≡◌, ◌<◌, ◌≤◌, ◌+◌, ◌-◌, ◌==◌, ◌&&◌, ◌||◌, Bool, true, false, not, List, []}
use Rattle.std.proofs.Common.{◌∷◌, ◌++◌, inl, inr, refl, sym, subst, ◌∙◌, ap, arith, append-nil, append_assoc, take}
use Rattle.std.proofs.Common.{drop, length, get_or}
use Rattle.std.proofs.lemmas.Bool.Decides.{nat_tests}
use Rattle.std.proofs.Math.Bool.{and-false, and-true, and_assoc, or-false}
use Rattle.std.proofs.lemmas.Bool.{cases_lt}
use Rattle.std.proofs.lemmas.List.{at_drop_all, at_drop_more, get_or-drop, get_or-take, get_or_default, length-drop}
use Rattle.std.proofs.lemmas.List.{length-take-le, length_push, take_all, take_at}
use Rattle.std.specs.List.{filter, list_all, slice_split}
use Rattle.vms_text.specs.Common.{IsNextWord, is_blank_byte, is_empty, is_word_byte, is_wrong_byte, words_of, is_clean}
use Rattle.vms_text.specs.Common.{is_comment, is_ignored}
use Rattle.vms_text.proofs.Parts.{slice_split-last, slice_split-part, take-take-append}

abbrev is_other : ℕ → Bool
is_other byte = not (is_word_byte byte)

-- a piece as a word, unless it is empty
abbrev pub word_of : List ℕ → List (List ℕ)
word_of piece = filter (λ word. not (is_empty word)) (piece ∷ [])

filter-cons : (piece : List ℕ) (pieces : List (List ℕ))
    → filter (λ word. not (is_empty word)) (piece ∷ pieces)
    ≡ word_of piece ++ filter (λ word. not (is_empty word)) pieces
filter-cons [] pieces = refl
filter-cons (byte ∷ piece) pieces = refl

-- the bytes from `begin` up to `at` are of a word
abbrev pub IsRun : List ℕ → ℕ → ℕ → Type 0
IsRun line begin at = (k d : ℕ) → begin ≤ k → k < at → is_word_byte (get_or line k d) ≡ true

-- a run that another byte ends is the first word, if it isn't empty
words_of-run : (line : List ℕ) (begin at d : ℕ) → begin ≤ at → at < length line → IsRun line begin at
    → is_word_byte (get_or line at d) ≡ false
    → words_of (drop begin line) ≡ word_of (take (at - begin) (drop begin line)) ++ words_of (drop (at + 1) line)
words_of-run line begin at d after within run ends =
    ap (filter (λ word. not (is_empty word)))
    (slice_split-part is_other line begin at d after within (λ k e low high. ap not (run k e low high)) (ap not ends))
    ∙ filter-cons (take (at - begin) (drop begin line)) (slice_split is_other (drop (at + 1) line))

-- a run that ends with the line is the last word, if it isn't empty
words_of-last_run : (line : List ℕ) (begin : ℕ) → begin ≤ length line → IsRun line begin (length line)
    → words_of (drop begin line) ≡ word_of (take (length line - begin) (drop begin line))
words_of-last_run line begin after run =
    ap (filter (λ word. not (is_empty word)))
    (slice_split-last is_other line begin after (λ k e low high. ap not (run k e low high)))

-- a line that is cut up to a byte: the words that end before `begin`, eight at most, and whether no byte before `at`
-- is wrong
pub record IsCut (line : List ℕ) (words : List (List ℕ)) (clean : Bool) (begin at : ℕ) : Type 0 where
  pub after : begin ≤ at
  pub run : IsRun line begin at
  pub words_are : take 8 (words ++ words_of (drop begin line)) ≡ take 8 (words_of line)
  pub clean_is : (clean && is_clean (drop at line)) ≡ is_clean line

pub IsCut-none : (line : List ℕ) → IsCut line [] true 0 0
IsCut-none line =
    record { after = omega arith; run = λ k d low high. absurd (omega arith); words_are = refl; clean_is = refl }

pub clean-word : (byte : ℕ) → is_word_byte byte ≡ true → not (is_wrong_byte byte) ≡ true
clean-word byte is = grind (arith, nat_tests)

pub clean-other : (byte : ℕ) → is_word_byte byte ≡ false → not (is_wrong_byte byte) ≡ is_blank_byte byte
clean-other byte is = rw is (not_not_or (is_blank_byte byte))
  where
    not_not_or : (b : Bool) → not (not (b || false)) ≡ b
    not_not_or true = refl
    not_not_or false = refl

-- at a byte of a word
pub IsCut-word : (line : List ℕ) (words : List (List ℕ)) (clean : Bool) (begin at : ℕ) → at < length line
    → is_word_byte (get_or line at 0) ≡ true → IsCut line words clean begin at → IsCut line words clean begin (at + 1)
IsCut-word line words clean begin at within word cut =
    record {
      after = omega (arith, cut.after);
      run = run_more;
      words_are = cut.words_are;
      clean_is = ap (λ more. clean && more) (sym step) ∙ cut.clean_is;
    }
  where
    step : is_clean (drop at line) ≡ is_clean (drop (at + 1) line)
    step =
        at_drop_more is_clean line at 0 within
        ∙ ap (λ b. b && is_clean (drop (at + 1) line)) (clean-word (get_or line at 0) word)

    here : (d : ℕ) → is_word_byte (get_or line at d) ≡ true
    here d = ap is_word_byte (get_or_default line at d 0 within) ∙ word

    run_more : IsRun line begin (at + 1)
    run_more k d low high = elim (cases_lt k at) [
      | inl before ↦ cut.run k d low before
      | inr past ↦ let same : at ≡ k = omega arith in subst (λ n. is_word_byte (get_or line n d) ≡ true) same (here d)
    ]

-- at another byte, where the run before it is added to the words
pub IsCut-other : (line : List ℕ) (words words' : List (List ℕ)) (clean : Bool) (begin at : ℕ) → at < length line
    → is_word_byte (get_or line at 0) ≡ false
    → words' ≡ take 8 (words ++ word_of (take (at - begin) (drop begin line))) → IsCut line words clean begin at
    → IsCut line words' (clean && is_blank_byte (get_or line at 0)) (at + 1) (at + 1)
IsCut-other line words words' clean begin at within other added cut =
    record {
      after = omega arith;
      run = λ k d low high. absurd (omega arith);
      words_are = ap (λ before. take 8 (before ++ words_of (drop (at + 1) line))) added
          ∙ take-take-append 8 (words ++ word_of (take (at - begin) (drop begin line))) (words_of (drop (at + 1) line))
          ∙ ap (take 8) (append_assoc words (word_of (take (at - begin) (drop begin line)))
          (words_of (drop (at + 1) line)))
          ∙ ap (λ more. take 8 (words ++ more)) (sym (words_of-run line begin at 0 cut.after within cut.run other))
          ∙ cut.words_are;
      clean_is =
          and_assoc clean (is_blank_byte (get_or line at 0)) (is_clean (drop (at + 1) line))
          ∙ ap (λ more. clean && more) (sym step) ∙ cut.clean_is;
    }
  where
    step : is_clean (drop at line) ≡ (is_blank_byte (get_or line at 0) && is_clean (drop (at + 1) line))
    step =
        at_drop_more is_clean line at 0 within
        ∙ ap (λ b. b && is_clean (drop (at + 1) line)) (clean-other (get_or line at 0) other)

-- at the end of the line, where the last run is added to the words
pub words_of-cut : (line : List ℕ) (words words' : List (List ℕ)) (clean : Bool) (begin at : ℕ) → at ≡ length line
    → words' ≡ take 8 (words ++ word_of (take (length line - begin) (drop begin line)))
    → IsCut line words clean begin at → (words' ≡ take 8 (words_of line)) × (clean ≡ is_clean line)
words_of-cut line words words' clean begin at done added cut =
    let run : IsRun line begin (length line) = subst (IsRun line begin) done cut.run in
    let after : begin ≤ length line = omega (arith, cut.after) in
    let nothing : is_clean (drop at line) ≡ true = at_drop_all is_clean line at (omega arith) in (
      added ∙ ap (λ more. take 8 (words ++ more)) (sym (words_of-last_run line begin after run)) ∙ cut.words_are,
      sym (ap (λ more. clean && more) nothing ∙ and-true clean) ∙ cut.clean_is,
    )

-- eight words at most, with one more where there is room and it isn't empty
pub take-full : (words : List (List ℕ)) (more : List (List ℕ)) → length words ≡ 8 → words ≡ take 8 (words ++ more)
take-full words more full = sym (take_at words more 8 full)

pub take-empty : (words : List (List ℕ)) (piece : List ℕ) → length words ≤ 8 → length piece ≡ 0
    → words ≡ take 8 (words ++ word_of piece)
take-empty words [] most empty = sym (ap (take 8) (append-nil words) ∙ take_all 8 words most)
take-empty words (byte ∷ piece) most empty = absurd (omega arith)

pub take-filled : (words : List (List ℕ)) (piece : List ℕ) → length words < 8 → 0 < length piece
    → words ++ piece ∷ [] ≡ take 8 (words ++ word_of piece)
take-filled words [] room filled = absurd (omega arith)
take-filled words (byte ∷ piece) room filled =
    sym (take_all 8 (words ++ (byte ∷ piece) ∷ []) (omega (arith, length_push words (byte ∷ piece))))

not_all : (p : ℕ → Bool) (bytes : List ℕ) (k : ℕ) → k < length bytes → p (get_or bytes k 0) ≡ false
    → list_all p bytes ≡ false
not_all p [] k within fails = absurd (omega arith)
not_all p (byte ∷ bytes) zero within fails = rw fails refl
not_all p (byte ∷ bytes) (suc k) within fails = rw (not_all p bytes k (omega arith) fails) (and-false (p byte))

pub word_byte-not_blank : (byte : ℕ) → is_word_byte byte ≡ true → is_blank_byte byte ≡ false
word_byte-not_blank byte word = grind (arith, nat_tests)

comment-first : (word : List ℕ) (words : List (List ℕ)) → 0 < length word
    → is_comment (word ∷ words) ≡ (get_or word 0 0 == 35)
comment-first [] words some = absurd (omega arith)
comment-first (byte ∷ word) words some = refl

-- a line whose first word is known is ignored where that word begins with `#`
pub is_ignored-word : (line : List ℕ) (begin end : ℕ) → IsNextWord line 0 begin end
    → (get_or line begin 0 == 35) ≡ is_ignored line
is_ignored-word line begin end word =
    let size = end - begin in
    let first = take size (drop begin line) in
    let rest = length-drop begin line in
    let long = length-take-le size (drop begin line) (omega (arith, word.within)) in
    let filled : 0 < length first = omega (arith, word.filled) in
    let nothing : begin + 0 ≡ begin = omega arith in
    let same : get_or first 0 0 ≡ get_or line begin 0 =
    get_or-take size (drop begin line) 0 0 (omega (arith, word.filled)) ∙ get_or-drop begin line 0 0
    ∙ ap (λ k. get_or line k 0) nothing in
    let byte : is_word_byte (get_or line begin 0) ≡ true = ap is_word_byte (sym same) ∙ word.of_word_bytes 0 0 filled in
    let blank =
    not_all is_blank_byte line begin (omega (arith, word.filled, word.within))
    (word_byte-not_blank (get_or line begin 0) byte) in
    sym (ap (λ b. b || is_comment (words_of line)) blank ∙ ap is_comment word.words
    ∙ comment-first first (words_of (drop end line)) filled ∙ ap (λ one. one == 35) same)

-- a line with no word is ignored where it holds nothing but blanks
pub is_ignored-none : (line : List ℕ) → words_of line ≡ [] → list_all is_blank_byte line ≡ is_ignored line
is_ignored-none line none =
    sym (ap (λ words. list_all is_blank_byte line || is_comment words) none ∙ or-false (list_all is_blank_byte line))
