-- A line that is written word by word.
use Rattle.std.proofs.Common.{ℕ, ◌≡◌, ◌+◌, ◌<◌, List, [], ◌∷◌, ◌++◌, sym, ◌∙◌, ap, append_assoc, append-nil, ℤ, get_or}
use Rattle.std.proofs.Common.{length, map, take}
use Rattle.std.proofs.lemmas.Grind.{flat_map-append}
use Rattle.std.proofs.lemmas.List.{map_more}
use Rattle.std.specs.Fmt.{signed_decimal}
use Rattle.std.specs.Prelude.{OnOk, Result}
use Rattle.vms_text.specs.Common.{joined, sentence, spaced}
use Rattle.vms_text.proofs.Common.{OnOk-from, append_twice, sentence-cons}
use Rattle.vms_written_lines.specs.Spelling.{list_words}
use Rattle.vms_written_lines.proofs.EventsRead.{list_words-map}

-- a word, and the rest of the line
pub ended-more : {T E : Type 0} (r : Result T E) (before middle after word : List ℕ) (words : List (List ℕ))
    → middle ≡ before ++ 32 ∷ word → OnOk r (after ≡ middle ++ (spaced words ++ 10 ∷ []))
    → OnOk r (after ≡ before ++ (spaced (word ∷ words) ++ 10 ∷ []))
ended-more r before middle after word words at_first ended =
    OnOk-from r _ _
    (λ more. append_twice before middle after (32 ∷ word) (spaced words ++ 10 ∷ [])
    (spaced (word ∷ words) ++ 10 ∷ []) more at_first (sym (append_assoc (32 ∷ word) (spaced words) (10 ∷ [])))) ended

-- the numbers of a list, and the rest of the line
pub ended-list : {T E : Type 0} (r : Result T E) (before middle after : List ℕ) (w : List ℤ) (words : List (List ℕ))
    → length w ≡ 8 → middle ≡ before ++ spaced (map signed_decimal w)
    → OnOk r (after ≡ middle ++ (spaced words ++ 10 ∷ []))
    → OnOk r (after ≡ before ++ (spaced (list_words w words) ++ 10 ∷ []))
ended-list r before middle after w words each at_first ended =
    OnOk-from r _ _
    (λ more. append_twice before middle after (spaced (map signed_decimal w)) (spaced words ++ 10 ∷ [])
    (spaced (list_words w words) ++ 10 ∷ []) more at_first
    (sym (append_assoc (spaced (map signed_decimal w)) (spaced words) (10 ∷ []))
    ∙ ap (λ text. text ++ 10 ∷ []) (sym (flat_map-append (λ (word : List ℕ). 32 ∷ word) (map signed_decimal w) words)
    ∙ ap spaced (sym (list_words-map w words each))))) ended

-- the words up to the first argument, and the rest of the line
pub ended-line : {T E : Type 0} (r : Result T E) (before middle after : List ℕ) (a b c : List ℕ)
    (all words : List (List ℕ)) → all ≡ b ∷ c ∷ words → middle ≡ before ++ joined (a ∷ b ∷ c ∷ [])
    → OnOk r (after ≡ middle ++ (spaced words ++ 10 ∷ [])) → OnOk r (after ≡ before ++ sentence (a ∷ all))
ended-line r before middle after a b c all words is at_first ended =
    OnOk-from r _ _
    (λ more. append_twice before middle after (joined (a ∷ b ∷ c ∷ [])) (spaced words ++ 10 ∷ [])
    (sentence (a ∷ all)) more at_first
    (sym (append_assoc (joined (a ∷ b ∷ c ∷ [])) (spaced words) (10 ∷ []))
    ∙ ap (λ text. text ++ 10 ∷ []) (append_assoc a (32 ∷ (b ++ 32 ∷ c)) (spaced words)
    ∙ ap (λ text. a ++ 32 ∷ text) (append_assoc b (32 ∷ c) (spaced words)))
    ∙ sym (sentence-cons a (b ∷ c ∷ words))
    ∙ ap (λ words. sentence (a ∷ words)) (sym is))) ended

-- one number more
pub spaced-more : (w : List ℤ) (i : ℕ) (d : ℤ) → i < length w
    → spaced (map signed_decimal (take (i + 1) w))
    ≡ spaced (map signed_decimal (take i w)) ++ 32 ∷ signed_decimal (get_or w i d)
spaced-more w i d within =
    ap spaced (map_more signed_decimal w i d within)
    ∙ flat_map-append (λ (word : List ℕ). 32 ∷ word) (map signed_decimal (take i w)) (signed_decimal (get_or w i d) ∷ [])
    ∙ ap (λ last. spaced (map signed_decimal (take i w)) ++ last) (append-nil (32 ∷ signed_decimal (get_or w i d)))
