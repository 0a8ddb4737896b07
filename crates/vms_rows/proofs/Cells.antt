-- The entries of a list with so many for each row.
use Rattle.std.proofs.Common.{◌≡◌, ℕ, zero, suc, ◌+◌, ◌-◌, ◌*◌, ◌/◌, ◌%◌, ◌<◌, ◌≤◌, List, length, get_or, take, drop}
use Rattle.std.proofs.Common.{ap, ◌∙◌, subst, arith}
use Rattle.std.proofs.Math.Nat.{mul-le-mul_right}
use Rattle.std.proofs.lemmas.List.{ext_get_or, get_or-drop, get_or-take, length-drop, length-take-le}
use Rattle.std.proofs.lemmas.Nat.{div-add-mod', div_below, mod_below}
use Rattle.vms_history.specs.Common.{cell}

-- a place of such a list is of a row that has entries
some : (rows count i : ℕ) → i < rows * count → 0 < count
some rows zero i within = absurd (omega arith)
some rows (suc count) i within = omega arith

module _ {X : Type 0} (count rows : ℕ) (default : X) (xs : List X) (long : length xs ≡ rows * count) where
  -- the entries of a row, as they are cut out of those of all
  abbrev part : ℕ → List X
  part c = take (c * count + count - c * count) (drop (c * count) xs)

  part-is : (c : ℕ) → part c ≡ take count (drop (c * count) xs)
  part-is c = ap (λ n. take n (drop (c * count) xs)) (omega arith)

  pub length-part : (c : ℕ) → c < rows → length (part c) ≡ count
  length-part c c_in =
      let inside : suc c * count ≤ rows * count = mul-le-mul_right count c_in in
      let after = length-drop (c * count) xs in
      ap length (part-is c) ∙ length-take-le count (drop (c * count) xs) (omega (arith, inside, after, long))

  pub part-at : (c k : ℕ) → k < count → get_or (part c) k default ≡ get_or xs (cell count c k) default
  part-at c k k_in =
      ap (λ (list : List X). get_or list k default) (part-is c)
      ∙ get_or-take count (drop (c * count) xs) k default k_in ∙ get_or-drop (c * count) xs k default

  -- a list that has the same entries by row is the same
  pub cells-same : (ys : List X) → length ys ≡ length xs
      → ((c k : ℕ) → c < rows → k < count → get_or ys (cell count c k) default ≡ get_or xs (cell count c k) default)
      → ys ≡ xs
  cells-same ys same each = ext_get_or default ys xs same at
    where
      at : (i : ℕ) → i < length ys → get_or ys i default ≡ get_or xs i default
      at i within =
          let inside : i < rows * count = omega (arith, within, same, long) in
          let some_in : 0 < count = some rows count i inside in
          subst (λ n. get_or ys n default ≡ get_or xs n default) (div-add-mod' i count)
          (each (i / count) (i % count) (div_below i count rows some_in inside) (mod_below i count some_in))
