-- For other crates too: how many places and groups a layout has.
use Rattle.std.proofs.Common.{◌≡◌, ℕ, ◌+◌, ◌*◌, ◌/◌, ◌<◌, ◌≤◌, ap, arith, ⊎_elim}
use Rattle.vms_calls.specs.Common.{IsLayout, Shape, place_count}
use Rattle.vms_base.proofs.Common.{place_count-most}

pub eight-each : (shape : Shape) → IsLayout shape → 8 * (shape.positions / 8) ≡ shape.positions
eight-each shape is = ⊎_elim (λ (eight : shape.positions ≡ 8). omega (arith, eight))
    (λ (sixteen : shape.positions ≡ 16). omega (arith, sixteen)) is.positions

pub few-places : (shape : Shape) → IsLayout shape → (g : ℕ) → g < place_count shape → g + 1 ≤ 32
few-places shape is g less = omega (arith, place_count-most shape is, less)

pub few-groups : (shape : Shape) → IsLayout shape → (g : ℕ) → g < place_count shape
    → shape.positions / 8 * (g + 1) ≤ 64
few-groups shape is g less = ⊎_elim
    (λ (eight : shape.positions ≡ 8). let one : shape.positions / 8 ≡ 1 = ap (λ n. n / 8) eight in
    rw one (omega (arith, few-places shape is g less)))
    (λ (sixteen : shape.positions ≡ 16). let two : shape.positions / 8 ≡ 2 = ap (λ n. n / 8) sixteen in
    rw two (omega (arith, few-places shape is g less)))
    is.positions
