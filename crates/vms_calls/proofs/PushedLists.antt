-- For other crates too: a list to which a number was pushed.
use Rattle.std.proofs.Common.{◌≡◌, ◌≢◌, ℕ, ◌+◌, ◌<◌, List, [], ◌∷◌, ◌++◌, length, get_or, sym, ap, subst, ◌∙◌, arith}
use Rattle.std.proofs.Common.{⊎_elim, length-append}
use Rattle.std.proofs.Math.ListN.{get_or-append}
use Rattle.std.proofs.Math.Seq.{get_or-append_seam}
use Rattle.std.proofs.lemmas.Bool.{cases_eq}

module _ (xs : List ℕ) (y n : ℕ) (long : length xs ≡ n) where
  pub length-pushed : length (xs ++ (y ∷ [])) ≡ n + 1
  length-pushed = length-append xs (y ∷ []) ∙ ap (λ (m : ℕ). m + 1) long

  -- what holds of each number holds with one more of which it holds
  pub each-pushed : (P : ℕ → ℕ → Type 0) → ((i : ℕ) → i < n → P i (get_or xs i 0)) → P n y
      → (i : ℕ) → i < n + 1 → P i (get_or (xs ++ (y ∷ [])) i 0)
  each-pushed P each last i below = ⊎_elim
      (λ (same : i ≡ n). subst (λ (j : ℕ). P j (get_or (xs ++ (y ∷ [])) j 0)) (sym same)
      (subst (P n) (sym (ap (λ (j : ℕ). get_or (xs ++ (y ∷ [])) j 0) (sym long) ∙ get_or-append_seam xs y [] 0)) last))
      (λ (other : i ≢ n). subst (P i) (sym (get_or-append xs (y ∷ []) 0 i (omega (arith, long))))
      (each i (omega arith)))
      (cases_eq i n)
