-- Sums in 128 bits: no overflow on the way.
use Rattle.std.proofs.Common.{◌≡◌, ◌^◌, ◌≤◌, ℤ, ◌+ℤ◌, unsigned_abs, FitsSigned, to_z, of_z, ap, ◌∙◌, arith}
use Rattle.std.proofs.lemmas.Int.{ints, to_z-of_z}
use mir.Syntax.{w128}

pub whole : (sum more : ℤ) → unsigned_abs sum ≤ 2 ^ 80 → unsigned_abs more ≤ 2 ^ 80
    → to_z w128 (of_z w128 (sum +ℤ to_z w128 (of_z w128 more))) ≡ sum +ℤ more
whole sum more small few =
    let one : FitsSigned w128 more = omega (arith, ints, few) in
    let both : FitsSigned w128 (sum +ℤ more) = omega (arith, ints, small, few) in
    ap (λ x. to_z w128 (of_z w128 (sum +ℤ x))) (to_z-of_z w128 more one) ∙ to_z-of_z w128 (sum +ℤ more) both
