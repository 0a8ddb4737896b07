-- For other crates too: what is spelled of a few short words is one line, and is read as these words.
use Rattle.std.proofs.Common.{ℕ, ◌≡◌, ◌≢◌, ◌*◌, ◌<◌, ◌≤◌, ◌&&◌, ◌||◌, Bool, true, false, not, nat_le, nat_lt, List, []}
use Rattle.std.proofs.Common.{◌∷◌, ◌++◌, refl, subst, ◌∙◌, ap, arith, length, get_or, length-append}
use Rattle.std.proofs.lemmas.Bool.{false≢true}
use Rattle.std.proofs.lemmas.Bool.Decides.{nat_tests}
use Rattle.std.proofs.lemmas.List.Folds.{list_all-append}
use Rattle.std.proofs.lemmas.List.Sums.{AllPass-from_list_all}
use Rattle.std.specs.List.{All, list_all}
use Rattle.vms_text.specs.Common.{is_blank_byte, is_empty, is_word_byte, is_wrong_byte, joined, words_of, is_clean}
use Rattle.vms_text.specs.Common.{is_comment, is_ignored, most_line, spaced}
use Rattle.vms_text.proofs.Values.{and_left, and_right}
use Rattle.vms_text.proofs.Words.{IsWord, words_of-joined}
use Rattle.vms_text.proofs.Pieces.{clean-word}
use Rattle.vms_text.proofs.Appends.{joined-cons}

-- a word of at most 21 bytes
abbrev pub is_short : List ℕ → Bool
is_short word = not (is_empty word) && (list_all is_word_byte word && nat_le (length word) 21)

pub record ShortWord (word : List ℕ) : Type 0 where
  pub filled : 0 < length word
  pub bytes : list_all is_word_byte word ≡ true
  pub most : length word ≤ 21

filled-from : (word : List ℕ) → not (is_empty word) ≡ true → 0 < length word
filled-from [] is = absurd (false≢true is)
filled-from (byte ∷ word) is = omega arith

pub ShortWord-from : (word : List ℕ) → is_short word ≡ true → ShortWord word
ShortWord-from word is =
    let rest = and_right (not (is_empty word)) (list_all is_word_byte word && nat_le (length word) 21) is in
    let small = and_right (list_all is_word_byte word) (nat_le (length word) 21) rest in
    record {
      filled =
          filled-from word (and_left (not (is_empty word)) (list_all is_word_byte word && nat_le (length word) 21) is);
      bytes = and_left (list_all is_word_byte word) (nat_le (length word) 21) rest;
      most = grind (arith, nat_tests);
    }

not_empty : (word : List ℕ) → 0 < length word → is_empty word ≡ false
not_empty [] filled = absurd (omega arith)
not_empty (byte ∷ word) filled = refl

pub is_short-from : (word : List ℕ) → 0 < length word → list_all is_word_byte word ≡ true → length word ≤ 21
    → is_short word ≡ true
is_short-from word filled bytes most =
    let small : nat_le (length word) 21 ≡ true = grind (arith, nat_tests) in
    rw (not_empty word filled, bytes, small) refl

are_words : (words : List (List ℕ)) → list_all is_short words ≡ true → All IsWord words
are_words words short = λ k d within.
    let is = ShortWord-from (get_or words k d) (AllPass-from_list_all is_short words short k d within) in
    record { filled = is.filled; bytes = AllPass-from_list_all is_word_byte (get_or words k d) is.bytes }

or_true : (b : Bool) → (b || true) ≡ true
or_true true = refl
or_true false = refl

is_clean-word : (word : List ℕ) → list_all is_word_byte word ≡ true → is_clean word ≡ true
is_clean-word [] bytes = refl
is_clean-word (byte ∷ word) bytes =
    let first = clean-word byte (and_left (is_word_byte byte) (list_all is_word_byte word) bytes) in
    let rest = is_clean-word word (and_right (is_word_byte byte) (list_all is_word_byte word) bytes) in
    ap (λ b. b && is_clean word) first ∙ rest

clean_both : (before after : List ℕ) → is_clean before ≡ true → is_clean after ≡ true
    → is_clean (before ++ after) ≡ true
clean_both before after first second =
    list_all-append (λ byte. not (is_wrong_byte byte)) before after ∙ ap (λ b. b && is_clean after) first ∙ second

clean_joined : (words : List (List ℕ)) → list_all is_short words ≡ true → is_clean (joined words) ≡ true
clean_joined [] short = refl
clean_joined (word ∷ []) short = is_clean-word word (ShortWord-from word (and_left (is_short word) true short)).bytes
clean_joined (word ∷ next ∷ words) short =
    let more = list_all is_short (next ∷ words) in
    clean_both word (32 ∷ joined (next ∷ words))
    (is_clean-word word (ShortWord-from word (and_left (is_short word) more short)).bytes)
    (clean_joined (next ∷ words) (and_right (is_short word) more short))

length-joined : (words : List (List ℕ)) → list_all is_short words ≡ true → length (joined words) ≤ 22 * length words
length-joined [] short = omega arith
length-joined (word ∷ []) short =
    let is = ShortWord-from word (and_left (is_short word) true short) in omega (arith, is.most)
length-joined (word ∷ next ∷ words) short =
    let more = list_all is_short (next ∷ words) in
    let is = ShortWord-from word (and_left (is_short word) more short) in
    let rest = length-joined (next ∷ words) (and_right (is_short word) more short) in
    omega (arith, is.most, rest, length-append word (32 ∷ joined (next ∷ words)))

-- a clean line has no byte 10
pub clean-one_line : (line : List ℕ) → is_clean line ≡ true → All (λ byte. byte ≢ 10) line
clean-one_line line clean = λ k d within ends.
    let is = AllPass-from_list_all (λ byte. not (is_wrong_byte byte)) line clean k d within in
    false≢true (subst (λ (byte : ℕ). not (is_wrong_byte byte) ≡ true) ends is)

word_no_blank : (byte : ℕ) → is_word_byte byte ≡ true → is_blank_byte byte ≡ false
word_no_blank byte is = grind (arith, nat_tests)

filled_line : (word : List ℕ) (more : List ℕ) → ShortWord word → list_all is_blank_byte (word ++ more) ≡ false
filled_line [] more is = absurd (omega (arith, is.filled))
filled_line (byte ∷ word) more is =
    let of_word = and_left (is_word_byte byte) (list_all is_word_byte word) is.bytes in
    ap (λ b. b && list_all is_blank_byte (word ++ more)) (word_no_blank byte of_word)

-- a few short words of which the first doesn't begin a remark
pub record IsFew (words : List (List ℕ)) : Type 0 where
  pub some : 0 < length words
  pub few : length words ≤ 7
  pub short : list_all is_short words ≡ true
  pub said : is_comment words ≡ false

module _ (words : List (List ℕ)) (is : IsFew words) where
  pub few-words_of : words_of (joined words) ≡ words
  few-words_of = words_of-joined words (are_words words is.short)

  pub few-clean : is_clean (joined words) ≡ true
  few-clean = clean_joined words is.short

  pub few-length : nat_lt most_line (length (joined words)) ≡ false
  few-length = let long = length-joined words is.short in let most = is.few in grind (arith, nat_tests)

  pub few-one_line : All (λ byte. byte ≢ 10) (joined words)
  few-one_line = clean-one_line (joined words) few-clean

filled_words : (words : List (List ℕ)) → IsFew words → list_all is_blank_byte (joined words) ≡ false
filled_words [] is = absurd (omega (arith, is.some))
filled_words (word ∷ words) is =
    ap (list_all is_blank_byte) (joined-cons word words)
    ∙ filled_line word (spaced words)
    (ShortWord-from word (and_left (is_short word) (list_all is_short words) is.short))

pub few-ignored : (words : List (List ℕ)) → IsFew words → is_ignored (joined words) ≡ false
few-ignored words is =
    ap (λ b. b || is_comment (words_of (joined words))) (filled_words words is)
    ∙ ap is_comment (few-words_of words is) ∙ is.said
