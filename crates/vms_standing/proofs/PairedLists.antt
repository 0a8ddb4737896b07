-- For other crates too: a loop over the first of two lists, which makes the second.
use Rattle.std.proofs.Common.{◌≡◌, ℕ, zero, List, [], ◌∷◌, ◌++◌, length, All, sym, refl, subst, arith}
use Rattle.std.proofs.lemmas.List.{append_assoc, append-nil}
use Rattle.std.proofs.lemmas.List.Elements.{All-rest}
use Rattle.vms_standing.specs.Common.{Pairs}

module _ {A B : Type 0} (Fits : A → B → Type 0) where
  pub goes_on : (jobs rest rest' : List A) (done now : List B) (x : A) (y : B) → rest ≡ x ∷ rest' → now ≡ done ++ y ∷ []
      → Fits x y → ((more : List B) → Pairs Fits rest more → Pairs Fits jobs (done ++ more))
      → (more : List B) → Pairs Fits rest' more → Pairs Fits jobs (now ++ more)
  goes_on jobs rest rest' done now x y is grown fit so more left =
      subst (λ l. Pairs Fits jobs (l ++ more)) (sym grown)
      (subst (Pairs Fits jobs) (sym (append_assoc done (y ∷ []) more))
      (so (y ∷ more) (subst (λ l. Pairs Fits l (y ∷ more)) (sym is) (fit, left))))

  pub ends : (jobs rest : List A) (done : List B) → rest ≡ []
      → ((more : List B) → Pairs Fits rest more → Pairs Fits jobs (done ++ more)) → Pairs Fits jobs done
  ends jobs rest done none so =
      subst (Pairs Fits jobs) (append-nil done) (so [] (subst (λ l. Pairs Fits l []) (sym none) tt))

  pub pairs-snoc : (xs : List A) (ys : List B) (x : A) (y : B) → Pairs Fits xs ys → Fits x y
      → Pairs Fits (xs ++ x ∷ []) (ys ++ y ∷ [])
  pairs-snoc [] [] x y p fit = (fit, tt)
  pairs-snoc (w ∷ xs) (z ∷ ys) x y p fit = (p.0, pairs-snoc xs ys x y p.1 fit)
  pairs-snoc [] (z ∷ ys) x y p fit = absurd p
  pairs-snoc (w ∷ xs) [] x y p fit = absurd p

pub pairs-through : {A B C : Type 0} (value : B → A) (Fits : A → C → Type 0) (xs : List A) (ys : List B) (zs : List C)
    → Pairs (λ x y. value y ≡ x) xs ys → Pairs (λ y. Fits (value y)) ys zs → Pairs Fits xs zs
pairs-through value Fits [] [] [] p q = tt
pairs-through value Fits (x ∷ xs) (y ∷ ys) (z ∷ zs) p q =
    (subst (λ w. Fits w z) p.0 q.0, pairs-through value Fits xs ys zs p.1 q.1)
pairs-through value Fits [] (y ∷ ys) zs p q = absurd p
pairs-through value Fits (x ∷ xs) [] zs p q = absurd p
pairs-through value Fits [] [] (z ∷ zs) p q = absurd q
pairs-through value Fits (x ∷ xs) (y ∷ ys) [] p q = absurd q

pub none_of_length : {A : Type 0} (xs : List A) (n : ℕ) → n ≡ length xs → n ≡ 0 → xs ≡ []
none_of_length [] n e z = refl
none_of_length (x ∷ xs) n e z = absurd (omega arith)

pub all_last : {A : Type 0} (P : A → Type 0) (xs : List A) (x : A) → All P (xs ++ x ∷ []) → P x
all_last P [] x all = all zero x (omega arith)
all_last P (y ∷ xs) x all = all_last P xs x (All-rest P y (xs ++ x ∷ []) (y ∷ (xs ++ x ∷ [])) refl all)
