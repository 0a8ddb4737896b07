-- For other crates too: where the words of a line begin and end.
use Rattle.std.proofs.Common.{ℕ, suc, ◌≡◌, ◌<◌, Bool, true, false, not, List, [], ◌∷◌, ◌++◌, refl, ◌∙◌, ap, arith}
use Rattle.std.proofs.Common.{length}
use Rattle.std.proofs.lemmas.List.Splits.{slice_split-cons_yes, slice_split_at, slice_split_none}
use Rattle.std.specs.List.{All, filter, slice_split}
use Rattle.vms_text.specs.Common.{is_empty, is_word_byte, joined, words_of}

-- not a byte of a word
abbrev pub is_other : ℕ → Bool
is_other byte = not (is_word_byte byte)

abbrev is_filled : List ℕ → Bool
is_filled word = not (is_empty word)

none_other : (word : List ℕ) → All (λ byte. is_word_byte byte ≡ true) word → All (λ byte. is_other byte ≡ false) word
none_other word bytes = λ k d below. ap not (bytes k d below)

filled-cons : (word : List ℕ) (words : List (List ℕ)) → 0 < length word
    → filter is_filled (word ∷ words) ≡ word ∷ filter is_filled words
filled-cons [] words some = absurd (omega arith)
filled-cons (byte ∷ word) words some = refl

words_of-nil : words_of [] ≡ []
words_of-nil = refl

-- a byte that isn't one of a word stands before the words of the rest
pub words_of-other : (byte : ℕ) (rest : List ℕ) → is_word_byte byte ≡ false → words_of (byte ∷ rest) ≡ words_of rest
words_of-other byte rest is = ap (filter is_filled) (slice_split-cons_yes is_other byte rest (ap not is))

-- bytes that aren't of words stand before the words of the rest
pub words_of-blanks : (blanks rest : List ℕ) → All (λ byte. is_word_byte byte ≡ false) blanks
    → words_of (blanks ++ rest) ≡ words_of rest
words_of-blanks [] rest none = refl
words_of-blanks (byte ∷ blanks) rest none =
    words_of-other byte (blanks ++ rest) (none 0 0 (omega arith))
    ∙ words_of-blanks blanks rest (λ k d below. none (suc k) d (omega arith))

-- a run of word bytes that another byte ends is the first word
pub words_of-word : (word : List ℕ) (byte : ℕ) (rest : List ℕ) → 0 < length word
    → All (λ byte. is_word_byte byte ≡ true) word → is_word_byte byte ≡ false
    → words_of (word ++ (byte ∷ rest)) ≡ word ∷ words_of rest
words_of-word word byte rest some bytes is =
    ap (filter is_filled) (slice_split_at is_other word byte rest (none_other word bytes) (ap not is))
    ∙ filled-cons word (slice_split is_other rest) some

-- a run of word bytes that nothing follows is the one word
pub words_of-last : (word : List ℕ) → 0 < length word → All (λ byte. is_word_byte byte ≡ true) word
    → words_of word ≡ word ∷ []
words_of-last word some bytes =
    ap (filter is_filled) (slice_split_none is_other word (none_other word bytes)) ∙ filled-cons word [] some

-- what each word has: word bytes alone, and at least one
pub record IsWord (word : List ℕ) : Type 0 where
  pub filled : 0 < length word
  pub bytes : All (λ byte. is_word_byte byte ≡ true) word

-- words as they are written are read back
pub words_of-joined : (words : List (List ℕ)) → All IsWord words → words_of (joined words) ≡ words
words_of-joined [] all = refl
words_of-joined (word ∷ []) all = let is = all 0 [] (omega arith) in words_of-last word is.filled is.bytes
words_of-joined (word ∷ next ∷ words) all =
    let is = all 0 [] (omega arith) in
    words_of-word word 32 (joined (next ∷ words)) is.filled is.bytes refl
    ∙ ap (λ more. word ∷ more) (words_of-joined (next ∷ words) (λ k d below. all (suc k) d (omega arith)))
