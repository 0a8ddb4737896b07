use Rattle.std.proofs.Common.{arith, refl, sym, ◌≡◌, ◌<◌, ◌⊎◌, inl, inr, List, [], ◌∷◌, ℕ, None, length, map}
use Rattle.std.proofs.Common.{string_bytes}
use Rattle.std.proofs.lemmas.List.{length-map}
use Rattle.vms_gen.specs.Common.{numbers_named}
use Rattle.vms_gen.proofs.numbers.numbers_named.Goals as goal

-- words that aren't four give no numbers
others : (words : List (List ℕ)) → (length words < 4) ⊎ (4 < length words) → numbers_named words ≡ None
others [] few = refl
others (a ∷ []) few = refl
others (a ∷ b ∷ []) few = refl
others (a ∷ b ∷ c ∷ []) few = refl
others (a ∷ b ∷ c ∷ d ∷ []) few = elim few [ inl h ↦ absurd (omega arith) | inr h ↦ absurd (omega arith) ]
others (a ∷ b ∷ c ∷ d ∷ e ∷ more) few = refl

pub returns-in_default-clause-named : goal.returns-in_default-clause-named
returns-in_default-clause-named c =
    let words = map (λ word. string_bytes word) c.args.words.now in
    let long = length-map c.args.words.now (λ word. string_bytes word) in
    sym (others words (inl (omega (arith, long, c.in_default.len_below))))

pub returns-in_default-2-clause-named : goal.returns-in_default-2-clause-named
returns-in_default-2-clause-named c =
    let words = map (λ word. string_bytes word) c.args.words.now in
    let long = length-map c.args.words.now (λ word. string_bytes word) in
    sym (others words (inr (omega (arith, long, c.in_default.len_at_least))))
