-- No line of 64 bytes has words of two rows.
use Rattle.std.proofs.Common.{◌≡◌, ◌≢◌, ℕ, suc, ◌+◌, ◌*◌, ◌<◌, ◌≤◌, inl, inr, ap, sym, ◌∙◌, arith}
use Rattle.std.proofs.Math.Nat.{mul-le-mul_right}
use Rattle.std.proofs.lemmas.Bool.{cases_lt}
use Rattle.vms_history.specs.Common.{cell}
use Rattle.vms_group_core.specs.declared.trees.Tree.{Tree}
use Rattle.vms_group_core.specs.Common.{IsGroup}
use Rattle.vms_group.specs.Common.{line_of, pending_place, row_width, up_place}

module _ (tree : Tree) where
  -- words of a row stand at least 8 words before those of a later one
  apart : (row later g k : ℕ) → row < later → IsGroup tree g
      → cell (row_width tree) row g + 8 ≤ cell (row_width tree) later k
  apart row later g k before g_in =
      let above : suc row * row_width tree ≤ later * row_width tree = mul-le-mul_right (row_width tree) before in
      omega (arith, above, g_in)

  -- so words of two rows stand in two lines
  lines-apart : (start row other g k : ℕ) → IsGroup tree g → IsGroup tree k → row ≢ other
      → line_of (start + cell (row_width tree) row g) ≢ line_of (start + cell (row_width tree) other k)
  lines-apart start row other g k g_in k_in differ same =
      elim (cases_lt row other) [
        | inl before ↦ let far = apart row other g k before g_in in absurd (omega (arith, far, same))
        | inr after ↦
            let far = apart other row k g (omega (arith, after, differ)) k_in in absurd (omega (arith, far, same))
      ]

  -- the row of a CPU
  place-is : (start c g : ℕ) → line_of (start + pending_place tree c g)
      ≡ line_of (start + cell (row_width tree) (suc (suc c)) g)
  place-is start c g = ap (λ i. line_of (start + i)) (omega arith)

  pub cpus-apart : (start c d g k : ℕ) → IsGroup tree g → IsGroup tree k → c ≢ d
      → line_of (start + pending_place tree c g) ≢ line_of (start + pending_place tree d k)
  cpus-apart start c d g k g_in k_in differ same =
      lines-apart start (suc (suc c)) (suc (suc d)) g k g_in k_in (λ one. differ (omega (arith, one)))
      (sym (place-is start c g) ∙ same ∙ place-is start d k)

  pub values-apart : (start c g k : ℕ) → IsGroup tree g → IsGroup tree k
      → line_of (start + pending_place tree c g) ≢ line_of (start + k)
  values-apart start c g k g_in k_in same =
      lines-apart start (suc (suc c)) 0 g k g_in k_in (λ one. absurd (omega (arith, one)))
      (sym (place-is start c g) ∙ same ∙ ap (λ i. line_of (start + i)) (omega arith))

  pub children-apart : (start c g k : ℕ) → IsGroup tree g → IsGroup tree k
      → line_of (start + pending_place tree c g) ≢ line_of (start + up_place tree k)
  children-apart start c g k g_in k_in same =
      lines-apart start (suc (suc c)) 1 g k g_in k_in (λ one. absurd (omega (arith, one)))
      (sym (place-is start c g) ∙ same ∙ ap (λ i. line_of (start + i)) (omega arith))
