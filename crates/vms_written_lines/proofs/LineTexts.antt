-- What is written of words is one line, and is read as these words.
use Rattle.std.proofs.Common.{ℕ, suc, ◌≡◌, ◌+◌, ◌*◌, ◌<◌, ◌≤◌, ◌^◌, ◌&&◌, ◌||◌, true, false, nat_lt, ℤ, pos, negsuc}
use Rattle.std.proofs.Common.{List, [], ◌∷◌, ◌++◌, refl, ◌∙◌, ap, arith, length, length-append, map}
use Rattle.std.proofs.lemmas.Bool.Decides.{nat_tests}
use Rattle.std.proofs.lemmas.Fmt.{length-decimal-le}
use Rattle.std.proofs.lemmas.Int.{ints}
use Rattle.std.proofs.lemmas.List.Elements.{All-cons, All-nil}
use Rattle.std.proofs.lemmas.List.Sums.{AllPass-from_list_all}
use Rattle.std.specs.Fmt.{signed_decimal}
use Rattle.std.specs.Int.{w64}
use Rattle.std.specs.Int.RustNames.{FitsSigned}
use Rattle.std.specs.List.{All, list_all}
use Rattle.vms_history.specs.Common.{AreBytes, IsByte}
use Rattle.vms_text.specs.Common.{is_blank_byte, is_clean, is_comment, is_ignored, is_word_byte, joined, lines_of}
use Rattle.vms_text.specs.Common.{most_line, sentence, spaced, words_of}
use Rattle.vms_text.proofs.Common.{ShortWord-from, is_short, joined-cons, lines_of-first, signed-short}
use Rattle.vms_text.proofs.Common.{word_byte-not_blank}
use Rattle.vms_text.proofs.Sentences.{clean-one_line}
use Rattle.vms_text.proofs.Words.{IsWord, words_of-joined}
use Rattle.vms_written_lines.proofs.WordsRead.{is_clean-append, is_clean-word}

-- words that take so many bytes at most, with a blank before each
pub record AreWords (most : ℕ) (words : List (List ℕ)) : Type 0 where
  pub all : All IsWord words
  pub long : length (spaced words) ≤ most

pub AreWords-nil : AreWords 0 []
AreWords-nil = record { all = All-nil IsWord; long = omega arith }

AreWords-cons : (n most : ℕ) (word : List ℕ) (words : List (List ℕ)) → IsWord word → length word ≤ n
    → AreWords most words → AreWords (n + 1 + most) (word ∷ words)
AreWords-cons n most word words is few are = record {
  all = All-cons IsWord word words is are.all;
  long = omega (arith, few, are.long, length-append (32 ∷ word) (spaced words));
}

-- a short word more
pub AreWords-short : (most : ℕ) (word : List ℕ) (words : List (List ℕ)) → is_short word ≡ true → AreWords most words
    → AreWords (22 + most) (word ∷ words)
AreWords-short most word words short are =
    let is = ShortWord-from word short in
    AreWords-cons 21 most word words
    (record { filled = is.filled; bytes = AllPass-from_list_all is_word_byte word is.bytes }) is.most are

byte-length : (z : ℤ) → IsByte z → length (signed_decimal z) ≤ 4
byte-length (pos n) is =
    let few : n < 10 ^ 3 = omega (arith, ints) in
    omega (arith, length-decimal-le 3 n (omega arith) few (omega (arith, few)))
byte-length (negsuc n) is =
    let few : suc n < 10 ^ 3 = omega (arith, ints) in
    omega (arith, length-decimal-le 3 (suc n) (omega arith) few (omega (arith, few)))

pub byte-fits : (z : ℤ) → IsByte z → FitsSigned w64 z
byte-fits (pos n) is = omega (arith, ints)
byte-fits (negsuc n) is = omega (arith, ints)

-- a list of signed bytes more
pub AreWords-bytes : (most : ℕ) (w : List ℤ) (words : List (List ℕ)) → AreBytes w → AreWords most words
    → AreWords (5 * length w + most) (map signed_decimal w ++ words)
AreWords-bytes most [] words bytes are = record { all = are.all; long = omega (arith, are.long) }
AreWords-bytes most (z ∷ w) words bytes are =
    let short = ShortWord-from (signed_decimal z) (signed-short z (byte-fits z (bytes 0))) in
    let more =
    AreWords-cons 4 (5 * length w + most) (signed_decimal z) (map signed_decimal w ++ words)
    (record { filled = short.filled; bytes = AllPass-from_list_all is_word_byte (signed_decimal z) short.bytes })
    (byte-length z (bytes 0)) (AreWords-bytes most w words (λ k. bytes (suc k)) are) in
    record { all = more.all; long = omega (arith, more.long) }

clean_spaced : (words : List (List ℕ)) → All IsWord words → is_clean (spaced words) ≡ true
clean_spaced [] all = refl
clean_spaced (word ∷ words) all =
    let is = all 0 [] (omega arith) in
    is_clean-append (32 ∷ word) (spaced words)
    ∙ ap (λ b. b && is_clean (spaced words)) (is_clean-word word is.bytes)
    ∙ clean_spaced words (λ k d below. all (suc k) d (omega arith))

-- some words, of which the first doesn't begin a remark, and which take at most 200 bytes with the blanks
module _ (word : List ℕ) (words : List (List ℕ)) (are : AreWords 200 (word ∷ words))
    (said : is_comment (word ∷ words) ≡ false) where
  abbrev all : List (List ℕ)
  all = word ∷ words

  abbrev text : List ℕ
  text = joined all

  first : IsWord word
  first = are.all 0 [] (omega arith)

  pub text-words : words_of text ≡ all
  text-words = words_of-joined all are.all

  pub text-clean : is_clean text ≡ true
  text-clean =
      ap is_clean (joined-cons word words) ∙ is_clean-append word (spaced words)
      ∙ ap (λ b. b && is_clean (spaced words)) (is_clean-word word first.bytes)
      ∙ clean_spaced words (λ k d below. are.all (suc k) d (omega arith))

  pub text-length : nat_lt most_line (length text) ≡ false
  text-length =
      let parts = ap length (joined-cons word words) ∙ length-append word (spaced words) in
      let spaces = length-append (32 ∷ word) (spaced words) in
      let within : length text ≤ 200 = omega (arith, parts, spaces, are.long) in
      grind (arith, nat_tests)

  pub text-one_line : lines_of (sentence all) ≡ text ∷ []
  text-one_line = lines_of-first text [] (clean-one_line text text-clean)

  not_blank : (word more : List ℕ) → IsWord word → list_all is_blank_byte (word ++ more) ≡ false
  not_blank [] more is = absurd (omega (arith, is.filled))
  not_blank (byte ∷ bytes) more is =
      ap (λ b. b && list_all is_blank_byte (bytes ++ more)) (word_byte-not_blank byte (is.bytes 0 0 (omega arith)))

  pub text-ignored : is_ignored text ≡ false
  text-ignored =
      ap (λ b. b || is_comment (words_of text)) (ap (list_all is_blank_byte) (joined-cons word words)
      ∙ not_blank word (spaced words) first)
      ∙ ap is_comment text-words ∙ said
