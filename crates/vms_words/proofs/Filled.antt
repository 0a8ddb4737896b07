-- A row that is filled entry by entry.
use Rattle.std.proofs.Common.{◌≡◌, ℕ, ◌+◌, ◌<◌, Bool, true, false, List, length, get_or, set, slice_get, slice_index, ℤ}
use Rattle.std.proofs.Common.{pos, inl, inr, Some, nat_eq, if◌then◌else◌, refl, sym, ap, ◌∙◌, arith, eqb-true}
use Rattle.std.proofs.lemmas.Bool.{cases_eq, eqb-false}
use Rattle.std.proofs.lemmas.List.{get_or-set_other, get_or-set_same}
use Rattle.std.proofs.lemmas.Option.{unwrap_or-slice_get}
use Rattle.std.specs.Option.{unwrap_or}
use Rattle.vms_history.proofs.Common.{get_or-set}

-- what is got at a place stands there
pub got : (words : List ℕ) (place word : ℕ) → slice_get words place ≡ Some word → word ≡ slice_index words place
got words place word is = sym (ap (λ found. unwrap_or found 0) is) ∙ unwrap_or-slice_get words place 0

-- one more of the numbers that are put from a place on
pub put-more : (numbers : List ℤ) (at n : ℕ) (row : List ℤ) (x : ℤ) → at + n < length row
    → x ≡ get_or numbers n (pos 0)
    → ((m : ℕ) → m < n → get_or row (at + m) (pos 0) ≡ get_or numbers m (pos 0))
    → (m : ℕ) → m < n + 1 → get_or (set row (at + n) x) (at + m) (pos 0) ≡ get_or numbers m (pos 0)
put-more numbers at n row x within is before m m_in =
    elim (cases_eq m n) [
      | inl here ↦
          ap (λ i. get_or (set row (at + n) x) (at + i) (pos 0)) here ∙ get_or-set_same row (at + n) x (pos 0) within
          ∙ is ∙ ap (λ i. get_or numbers i (pos 0)) (sym here)
      | inr differ ↦
          get_or-set_other row (at + n) (at + m) x (pos 0) (λ same. differ (omega (arith, same)))
          ∙ before m (omega (arith, m_in, differ))
    ]

-- one more entry
pub filled-more : {X : Type 0} (told : ℕ → X) (n : ℕ) (row next : List X) (x default : X) → n < length row
    → next ≡ set row n x → x ≡ told n → ((m : ℕ) → m < n → get_or row m default ≡ told m)
    → (m : ℕ) → m < n + 1 → get_or next m default ≡ told m
filled-more told n row next x default within is entry before m less =
    ap (λ xs. get_or xs m default) is ∙ get_or-set row n m x default within ∙ by (nat_eq n m) refl
  where
    by : (same : Bool) → nat_eq n m ≡ same → (if same then x else get_or row m default) ≡ told m
    by true at = entry ∙ ap told (eqb-true n m at)
    by false differ = before m (let other = eqb-false n m differ in omega (arith, other))
