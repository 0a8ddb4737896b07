-- For other crates too: what stands in a list after words were put after it.
use Rattle.std.proofs.Common.{ℕ, ◌≡◌, ◌+◌, ◌<◌, ◌≤◌, arith, drop, List, [], ◌∷◌, ◌++◌, sym, ◌∙◌, ap, append_assoc}
use Rattle.std.proofs.Common.{append-nil, flat_map, map, take, length, get_or}
use Rattle.std.proofs.lemmas.Grind.{flat_map-append}
use Rattle.std.proofs.lemmas.List.{map_more}
use Rattle.std.specs.List.{join_with_byte}
use Rattle.std.specs.Prelude.{OnErr, OnOk, Result, Ok, Err}
use Rattle.vms_text.specs.Common.{joined, sentence, Begins, spaced, text_of}
use Rattle.vms_text.specs.declared.writing.Word.{Word}

-- nothing more
pub Begins-same : (before after : List ℕ) → after ≡ before → Begins before after
Begins-same before after same = ([], same ∙ sym (append-nil before))

-- one piece more, and then others
pub Begins-after : (before middle piece after : List ℕ) → middle ≡ before ++ piece → Begins middle after
    → Begins before after
Begins-after before middle piece after is begins =
    (piece ++ begins.0, begins.1 ∙ ap (λ front. front ++ begins.0) is ∙ append_assoc before piece begins.0)

-- what is true is true after an error
pub OnErr-true : {T E : Type 0} (r : Result T E) (P : Type 0) → P → OnErr r P
OnErr-true (Ok done) P fact = tt
OnErr-true (Err cause) P fact = fact

pub OnErr-from : {T E : Type 0} (r : Result T E) (P Q : Type 0) → (P → Q) → OnErr r P → OnErr r Q
OnErr-from (Ok done) P Q from fact = tt
OnErr-from (Err cause) P Q from fact = from fact

pub OnOk-from : {T E : Type 0} (r : Result T E) (P Q : Type 0) → (P → Q) → OnOk r P → OnOk r Q
OnOk-from (Ok done) P Q from fact = from fact
OnOk-from (Err cause) P Q from fact = tt

-- two pieces are one
pub append_twice : (before middle after first second both : List ℕ) → after ≡ middle ++ second
    → middle ≡ before ++ first → first ++ second ≡ both → after ≡ before ++ both
append_twice before middle after first second both then_second at_first together =
    then_second ∙ ap (λ front. front ++ second) at_first ∙ append_assoc before first second
    ∙ ap (λ more. before ++ more) together

-- one word more
pub spaced-take_more : (words : List Word) (i : ℕ) (d : Word) → i < length words
    → spaced (map text_of (take (i + 1) words)) ≡ spaced (map text_of (take i words)) ++ 32 ∷ text_of (get_or words i d)
spaced-take_more words i d within =
    ap spaced (map_more text_of words i d within)
    ∙ flat_map-append (λ (word : List ℕ). 32 ∷ word) (map text_of (take i words)) (text_of (get_or words i d) ∷ [])
    ∙ ap (λ last. spaced (map text_of (take i words)) ++ last) (append-nil (32 ∷ text_of (get_or words i d)))

-- words as they are written are the first of them and the others after it
pub joined-cons : (word : List ℕ) (words : List (List ℕ)) → join_with_byte 32 (word ∷ words) ≡ word ++ spaced words
joined-cons word [] = sym (append-nil word)
joined-cons word (next ∷ words) = ap (λ more. word ++ 32 ∷ more) (joined-cons next words)

-- the first of some words, and the others
pub joined-first : (words : List Word) (d : Word) → 1 ≤ length words
    → joined (map text_of words) ≡ text_of (get_or words 0 d) ++ spaced (map text_of (drop 1 words))
joined-first [] d some = absurd (omega arith)
joined-first (word ∷ words) d some = joined-cons (text_of word) (map text_of words)

pub joined-parts : (words rest : List Word) (d : Word) → 1 ≤ length words → rest ≡ drop 1 words
    → text_of (get_or words 0 d) ++ spaced (map text_of rest) ≡ joined (map text_of words)
joined-parts words rest d some is =
    ap (λ more. text_of (get_or words 0 d) ++ spaced (map text_of more)) is ∙ sym (joined-first words d some)

pub sentence-cons : (word : List ℕ) (words : List (List ℕ)) → sentence (word ∷ words) ≡ word ++ spaced words ++ 10 ∷ []
sentence-cons word words = ap (λ text. text ++ 10 ∷ []) (joined-cons word words)

-- one line more
pub lines-take_more : {X : Type 0} (f : X → List (List ℕ)) (xs : List X) (i : ℕ) (d : X) → i < length xs
    → flat_map sentence (map f (take (i + 1) xs))
    ≡ flat_map sentence (map f (take i xs)) ++ sentence (f (get_or xs i d))
lines-take_more f xs i d within =
    ap (flat_map sentence) (map_more f xs i d within)
    ∙ flat_map-append sentence (map f (take i xs)) (f (get_or xs i d) ∷ [])
    ∙ ap (λ last. flat_map sentence (map f (take i xs)) ++ last) (append-nil (sentence (f (get_or xs i d))))
