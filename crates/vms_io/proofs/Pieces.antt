-- A piece from the front of what is left.
use Rattle.std.proofs.Common.{◌≡◌, ℕ, ◌+◌, ◌-◌, ◌≤◌, List, ◌++◌, length, take, drop, sym, ap, ◌∙◌, arith, length-drop}
use Rattle.std.proofs.Common.{drop-drop, subst}
use Rattle.std.proofs.Math.Seq.{take-append_seam}
use Rattle.std.proofs.lemmas.List.{take-append-drop, length-take-le}

module _ (items piece buf : List ℕ) (given n : ℕ) (within : given + n ≤ length items)
    (is : piece ≡ take (given + n - given) (drop given items)) where
  -- the piece has n bytes
  pub piece-is : piece ≡ take n (drop given items)
  piece-is = is ∙ ap (λ k. take k (drop given items)) {x = given + n - given} {y = n} (omega arith)

  -- what was left begins with the piece, which stands at the front of the buffer
  pub left-is : drop given items ≡ take n (piece ++ drop n buf) ++ drop (given + n) items
  left-is =
      let long : length piece ≡ n = ap length piece-is
      ∙ length-take-le n (drop given items) (omega (arith, length-drop given items)) in
      let front : take n (piece ++ drop n buf) ≡ piece = subst (λ k. take k (piece ++ drop n buf) ≡ piece) long
      (take-append_seam piece (drop n buf)) in
      sym (ap (λ l. l ++ drop (given + n) items) (front ∙ piece-is)
      ∙ ap (λ l. take n (drop given items) ++ l) (sym (drop-drop n given items))
      ∙ take-append-drop n (drop given items))
