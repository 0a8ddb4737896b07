-- What fields say of so many words.
use Rattle.std.proofs.Common.{ℕ, ◌≡◌, ◌<◌, List, [], ◌∷◌, Result, Ok, Err, refl, sym, ap, ◌∙◌, arith, length, map}
use Rattle.std.proofs.Common.{get_or}
use denote.Ref.{Bor}
use Rattle.vms_line.specs.declared.causes.LineCause.{LineCause}
use Rattle.vms_line.specs.declared.causes.LineCause.TheVariants.{Malformed}
use Rattle.vms_text.specs.Common.{and_then}
use Rattle.vms_line.specs.Common.{count_fields}

pub one_word : (fields : List (Bor (List ℕ))) (d : Bor (List ℕ)) → length fields ≡ 1
    → map (λ word. word.now) fields ≡ (get_or fields 0 d).now ∷ []
one_word [] d is = absurd (omega arith)
one_word (a ∷ []) d is = refl
one_word (a ∷ b ∷ more) d is = absurd (omega arith)

pub two_words : (fields : List (Bor (List ℕ))) (d : Bor (List ℕ)) → length fields ≡ 2
    → map (λ word. word.now) fields ≡ (get_or fields 0 d).now ∷ (get_or fields 1 d).now ∷ []
two_words [] d is = absurd (omega arith)
two_words (a ∷ []) d is = absurd (omega arith)
two_words (a ∷ b ∷ []) d is = refl
two_words (a ∷ b ∷ c ∷ more) d is = absurd (omega arith)

pub three_words : (fields : List (Bor (List ℕ))) (d : Bor (List ℕ)) → length fields ≡ 3
    → map (λ word. word.now) fields ≡ (get_or fields 0 d).now ∷ (get_or fields 1 d).now ∷ (get_or fields 2 d).now ∷ []
three_words [] d is = absurd (omega arith)
three_words (a ∷ []) d is = absurd (omega arith)
three_words (a ∷ b ∷ []) d is = absurd (omega arith)
three_words (a ∷ b ∷ c ∷ []) d is = refl
three_words (a ∷ b ∷ c ∷ e ∷ more) d is = absurd (omega arith)

pub four_words : (fields : List (Bor (List ℕ))) (d : Bor (List ℕ)) → length fields ≡ 4
    → map (λ word. word.now) fields
    ≡ (get_or fields 0 d).now ∷ (get_or fields 1 d).now ∷ (get_or fields 2 d).now ∷ (get_or fields 3 d).now ∷ []
four_words [] d is = absurd (omega arith)
four_words (a ∷ []) d is = absurd (omega arith)
four_words (a ∷ b ∷ []) d is = absurd (omega arith)
four_words (a ∷ b ∷ c ∷ []) d is = absurd (omega arith)
four_words (a ∷ b ∷ c ∷ e ∷ []) d is = refl
four_words (a ∷ b ∷ c ∷ e ∷ f ∷ more) d is = absurd (omega arith)

pub and_then-err : {A B E : Type 0} (found : Result A E) (next : A → Result B E) (cause : E) → found ≡ Err cause
    → and_then found next ≡ Err cause
and_then-err found next cause is = ap (λ one. and_then one next) is

pub and_then-ok : {A B E : Type 0} (found : Result A E) (next : A → Result B E) (value : A) → found ≡ Ok value
    → and_then found next ≡ next value
and_then-ok found next value is = ap (λ one. and_then one next) is

pub count_fields-short : (words : List (List ℕ)) → length words < 2 → count_fields words ≡ Err Malformed
count_fields-short [] short = refl
count_fields-short (a ∷ []) short = refl
count_fields-short (a ∷ b ∷ more) short = absurd (omega arith)

-- what is read of too few words, where that is malformed for each number of them
module _ {A : Type 0} (read : List (List ℕ) → Result A LineCause) (none : read [] ≡ Err Malformed)
    (one : (a : List ℕ) → read (a ∷ []) ≡ Err Malformed)
    (two : (a b : List ℕ) → read (a ∷ b ∷ []) ≡ Err Malformed) where
  pub below_three : (fields : List (Bor (List ℕ))) → length fields < 3
      → read (map (λ word. word.now) fields) ≡ Err Malformed
  below_three [] short = none
  below_three (a ∷ []) short = one a.now
  below_three (a ∷ b ∷ []) short = two a.now b.now
  below_three (a ∷ b ∷ c ∷ more) short = absurd (omega arith)

  pub below_four : ((a b c : List ℕ) → read (a ∷ b ∷ c ∷ []) ≡ Err Malformed) → (fields : List (Bor (List ℕ)))
      → length fields < 4 → read (map (λ word. word.now) fields) ≡ Err Malformed
  below_four three (a ∷ b ∷ c ∷ []) short = three a.now b.now c.now
  below_four three (a ∷ b ∷ c ∷ d ∷ more) short = absurd (omega arith)
  below_four three [] short = none
  below_four three (a ∷ []) short = one a.now
  below_four three (a ∷ b ∷ []) short = two a.now b.now

-- what is read of three words, of which the first or the second fails
module _ {A B C : Type 0} (read : List (List ℕ) → Result C LineCause) (first : List ℕ → Result A LineCause)
    (second : List ℕ → Result B LineCause) (next : List ℕ → A → B → Result C LineCause)
    (by_parts : (a b c : List ℕ) → read (a ∷ b ∷ c ∷ [])
    ≡ and_then (first a) (λ x. and_then (second b) (next c x)))
    (fields : List (Bor (List ℕ))) (three : length fields ≡ 3) (cause : LineCause) where
  abbrev field : ℕ → List ℕ
  field n = (get_or fields n (record { ref_ptr = (0, 0); now = [] })).now

  in_parts : read (map (λ word. word.now) fields)
      ≡ and_then (first (field 0)) (λ x. and_then (second (field 1)) (next (field 2) x))
  in_parts = ap read (three_words fields (record { ref_ptr = (0, 0); now = [] }) three)
      ∙ by_parts (field 0) (field 1) (field 2)

  pub first-fails : first (field 0) ≡ Err cause → Err cause ≡ read (map (λ word. word.now) fields)
  first-fails failed = sym (in_parts ∙ and_then-err (first (field 0)) _ cause failed)

  pub second-fails : (x : A) → first (field 0) ≡ Ok x → second (field 1) ≡ Err cause
      → Err cause ≡ read (map (λ word. word.now) fields)
  second-fails x found failed = sym (in_parts ∙ and_then-ok (first (field 0)) _ x found
      ∙ and_then-err (second (field 1)) (next (field 2) x) cause failed)
