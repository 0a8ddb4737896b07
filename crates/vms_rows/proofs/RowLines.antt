-- No line of 64 bytes has words of two rows.
use Rattle.std.proofs.Common.{◌≢◌, ℕ, suc, ◌+◌, ◌*◌, ◌<◌, ◌≤◌, inl, inr, arith}
use Rattle.std.proofs.Math.Nat.{mul-le-mul_right}
use Rattle.std.proofs.lemmas.Bool.{cases_lt}
use Rattle.vms_rows.specs.Common.{line_of, row_place, row_width}

module _ (count : ℕ) where
  -- words of a row stand at least 8 words before those of a later one
  before : (c d k m : ℕ) → c < d → k < count → row_place count c k + 8 ≤ row_place count d m
  before c d k m earlier k_in =
      let above : suc c * row_width count ≤ d * row_width count = mul-le-mul_right (row_width count) earlier in
      omega (arith, above, k_in)

  -- so words of two rows stand in two lines
  pub rows-apart : (start c d k m : ℕ) → k < count → m < count → c ≢ d
      → line_of (start + row_place count c k) ≢ line_of (start + row_place count d m)
  rows-apart start c d k m k_in m_in differ same =
      elim (cases_lt c d) [
        | inl earlier ↦ let far = before c d k m earlier k_in in absurd (omega (arith, far, same))
        | inr later ↦ let far = before d c m k (omega (arith, later, differ)) m_in in absurd (omega (arith, far, same))
      ]
