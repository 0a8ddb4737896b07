-- A row that is filled entry by entry, and a table that is filled row by row.
use Rattle.std.proofs.Common.{◌≡◌, ℕ, ◌+◌, ◌*◌, ◌<◌, ◌≤◌, List, length, get_or, set, slice_get, slice_index, Some, sym}
use Rattle.std.proofs.Common.{ap, ◌∙◌, arith, inl, inr}
use Rattle.std.proofs.Math.Nat.{mul-le-mul_right}
use Rattle.std.proofs.lemmas.Bool.{cases_eq, cases_lt}
use Rattle.std.proofs.lemmas.List.{get_or-set_other, get_or-set_same}
use Rattle.std.proofs.lemmas.Option.{unwrap_or-slice_get}
use Rattle.std.specs.Option.{unwrap_or}
use Rattle.vms_history.specs.Common.{cell}
use Rattle.vms_base.proofs.Common.{cell-lt}

-- what is got at a place stands there
pub got : (words : List ℕ) (place word : ℕ) → slice_get words place ≡ Some word → word ≡ slice_index words place
got words place word is = sym (ap (λ found. unwrap_or found 0) is) ∙ unwrap_or-slice_get words place 0

module _ {X : Type 0} (read : ℕ → X) (words : List ℕ) where
  -- one more entry
  pub filled-more : (start at n : ℕ) (row : List X) (x default : X) → at + n < length row
      → x ≡ read (slice_index words (start + n))
      → ((m : ℕ) → m < n → get_or row (at + m) default ≡ read (slice_index words (start + m)))
      → (m : ℕ) → m < n + 1 → get_or (set row (at + n) x) (at + m) default ≡ read (slice_index words (start + m))
  filled-more start at n row x default within is before m m_in =
      elim (cases_eq m n) [
        | inl here ↦
            ap (λ i. get_or (set row (at + n) x) (at + i) default) here
            ∙ get_or-set_same row (at + n) x default within ∙ is
            ∙ ap (λ i. read (slice_index words (start + i))) (sym here)
        | inr differ ↦
            get_or-set_other row (at + n) (at + m) x default (λ same. differ (omega (arith, same)))
            ∙ before m (omega (arith, m_in, differ))
      ]

  -- one more row
  pub rows-more : (start width count c : ℕ) (new old : List X) (default : X)
      → ((k : ℕ) → k < count
      → get_or new (c * count + k) default ≡ read (slice_index words (start + c * width + k)))
      → ((k : ℕ) → k < c * count → get_or new k default ≡ get_or old k default)
      → ((d k : ℕ) → d < c → k < count
      → get_or old (cell count d k) default ≡ read (slice_index words (start + cell width d k)))
      → (d k : ℕ) → d < c + 1 → k < count
      → get_or new (cell count d k) default ≡ read (slice_index words (start + cell width d k))
  rows-more start width count c new old default row same above d k d_in k_in =
      elim (cases_lt d c) [
        | inl earlier ↦
            same (cell count d k) (cell-lt count c d k earlier k_in) ∙ above d k earlier k_in
        | inr late ↦
            let here : d ≡ c = omega (arith, d_in, late) in
            ap (λ e. get_or new (cell count e k) default) here ∙ row k k_in
            ∙ ap (λ i. read (slice_index words i)) (omega arith)
            ∙ ap (λ e. read (slice_index words (start + cell width e k))) (sym here)
      ]

-- the entries of a row stand in a table with so many for each row
pub row-fits : (rows count c : ℕ) → c < rows → c * count + count ≤ rows * count
row-fits rows count c c_in = let above = mul-le-mul_right count c_in in omega (arith, above)
