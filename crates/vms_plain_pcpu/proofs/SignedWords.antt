-- Small signed numbers as words of 64 bits.
use Rattle.std.proofs.Common.{◌≡◌, ◌+◌, ◌^◌, ◌<◌, ◌≤◌, ◌≢◌, ℤ, pos, negsuc, ◌+ℤ◌, ◌-ℤ◌, unsigned_abs, FitsSigned, w64}
use Rattle.std.proofs.Common.{to_z, of_z, ap, ◌∙◌, arith}
use Rattle.std.proofs.lemmas.Int.{ints, to_z-of_z}

-- small numbers as they are
pub same_word : (x : ℤ) → unsigned_abs x < 2 ^ 63 → to_z w64 (of_z w64 x) ≡ x
same_word x small = let fits : FitsSigned w64 x = omega (arith, ints) in to_z-of_z w64 x fits

pub same_sum : (x y : ℤ) → unsigned_abs x ≤ 2 ^ 62 → unsigned_abs y ≤ 2 ^ 61
    → to_z w64 (of_z w64 (to_z w64 (of_z w64 x) +ℤ to_z w64 (of_z w64 y))) ≡ x +ℤ y
same_sum x y first second =
    let both : FitsSigned w64 (x +ℤ y) = omega (arith, ints) in
    ap (λ (z : ℤ). to_z w64 (of_z w64 (z +ℤ to_z w64 (of_z w64 y)))) (same_word x (omega arith))
    ∙ ap (λ (z : ℤ). to_z w64 (of_z w64 (x +ℤ z))) (same_word y (omega arith))
    ∙ to_z-of_z w64 (x +ℤ y) both

pub same_difference : (x y : ℤ) → unsigned_abs x ≤ 2 ^ 61 + 2 ^ 60 → unsigned_abs y ≤ 2 ^ 62
    → to_z w64 (of_z w64 (to_z w64 (of_z w64 x) -ℤ to_z w64 (of_z w64 y))) ≡ x -ℤ y
same_difference x y first second =
    let both : FitsSigned w64 (x -ℤ y) = omega (arith, ints) in
    ap (λ (z : ℤ). to_z w64 (of_z w64 (z -ℤ to_z w64 (of_z w64 y)))) (same_word x (omega arith))
    ∙ ap (λ (z : ℤ). to_z w64 (of_z w64 (x -ℤ z))) (same_word y (omega arith))
    ∙ to_z-of_z w64 (x -ℤ y) both

-- the word 0 is that of 0 alone
pub zero_word : (x : ℤ) → unsigned_abs x < 2 ^ 63 → of_z w64 x ≡ 0 → x ≡ pos 0
zero_word (pos n) small is = ap pos is
zero_word (negsuc n) small is = absurd (omega (arith, small, is))

pub other_word : (x : ℤ) → (of_z w64 x ≡ 0 → ⊥) → x ≢ pos 0
other_word x differs same = differs (ap (of_z w64) same)
