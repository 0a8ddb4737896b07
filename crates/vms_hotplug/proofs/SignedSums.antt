-- Signed numbers as words, and a state whose three lists were written.
use Rattle.std.proofs.Common.{◌≡◌, ℕ, ◌^◌, ◌≤◌, ℤ, pos, ◌+ℤ◌, unsigned_abs, FitsSigned, w64, to_z, of_z, List, length}
use Rattle.std.proofs.Common.{refl, ap, ◌∙◌, arith}
use Rattle.std.proofs.Math.ListN.{set}
use Rattle.std.proofs.lemmas.Int.{ints, to_z-of_z}
use Rattle.vms_world.specs.Common.{Shape, cell, item_of, State, diff_at, system_at, value_at, with_diff, with_carried}

pub same_sum : (v d : ℤ) → unsigned_abs v ≤ 2 ^ 61 → unsigned_abs d ≤ 125
    → to_z w64 (of_z w64 (to_z w64 (of_z w64 v) +ℤ to_z w64 (of_z w64 d))) ≡ v +ℤ d
same_sum v d small few =
    let first : FitsSigned w64 v = omega (arith, ints) in
    let second : FitsSigned w64 d = omega (arith, ints) in
    let both : FitsSigned w64 (v +ℤ d) = omega (arith, ints) in
    ap (λ x. to_z w64 (of_z w64 (x +ℤ to_z w64 (of_z w64 d)))) (to_z-of_z w64 v first)
    ∙ ap (λ x. to_z w64 (of_z w64 (v +ℤ x))) (to_z-of_z w64 d second)
    ∙ to_z-of_z w64 (v +ℤ d) both

pub moved : (shape : Shape) (s : State) (c k : ℕ) (place system diff : List ℤ)
    → place ≡ set s.place k (value_at s k +ℤ diff_at s c k)
    → system ≡ set s.system (item_of shape k) (system_at s (item_of shape k) +ℤ diff_at s c k)
    → diff ≡ set s.diff (cell (length s.place) c k) (pos 0)
    → record s { place = place; system = system; diff = diff }
    ≡ with_carried shape k (diff_at s c k) (with_diff s c k (pos 0))
moved shape s c k place system diff placed summed emptied = rw (placed, summed, emptied) refl
