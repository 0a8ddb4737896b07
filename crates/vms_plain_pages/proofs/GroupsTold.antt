-- For other crates too: the differentials of a group as the list that a step names, where they are small.
use Rattle.std.proofs.Common.{◌≡◌, ℕ, zero, suc, ◌+◌, ◌*◌, ◌<◌, ◌≤◌, ℤ, pos, unsigned_abs, List, [], ◌∷◌, get_or, refl}
use Rattle.std.proofs.Common.{arith, ⊎_elim}
use Rattle.std.proofs.lemmas.Bool.{cases_lt}
use Rattle.std.proofs.lemmas.List.{get_or_past}
use Rattle.vms_calls.specs.Common.{Diffs, AreBytes, most_threshold, State, TellsGroup, diff_at}
use Rattle.vms_core.proofs.Common.{byte}

module _ (s : State) (c j : ℕ)
    (small : (i : ℕ) → i < 8 → unsigned_abs (diff_at s c (8 * j + i)) ≤ most_threshold) where
  abbrev at : ℕ → ℤ
  at i = diff_at s c (8 * j + i)

  abbrev eight_at : List ℤ
  eight_at = at 0 ∷ at 1 ∷ at 2 ∷ at 3 ∷ at 4 ∷ at 5 ∷ at 6 ∷ at 7 ∷ []

  each-at : (i : ℕ) → i < 8 → get_or eight_at i (pos 0) ≡ at i
  each-at zero below = refl
  each-at (suc zero) below = refl
  each-at (suc (suc zero)) below = refl
  each-at (suc (suc (suc zero))) below = refl
  each-at (suc (suc (suc (suc zero)))) below = refl
  each-at (suc (suc (suc (suc (suc zero))))) below = refl
  each-at (suc (suc (suc (suc (suc (suc zero)))))) below = refl
  each-at (suc (suc (suc (suc (suc (suc (suc zero))))))) below = refl
  each-at (suc (suc (suc (suc (suc (suc (suc (suc i)))))))) below = absurd (omega arith)

  bytes-at : AreBytes eight_at
  bytes-at k = ⊎_elim
      (λ (within : k < 8). rw (each-at k within) (byte (at k) (small k within)))
      (λ (past : 8 ≤ k). rw (get_or_past eight_at k (pos 0) past) (byte (pos 0) (omega arith)))
      (cases_lt k 8)

  pub group_told : (w : Diffs) × TellsGroup s c j w.values
  group_told = (record { values = eight_at; bytes = bytes-at }, record { eight = refl; each = each-at })
