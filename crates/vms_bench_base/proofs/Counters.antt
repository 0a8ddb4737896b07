-- Each place has eight counters at least.
use Rattle.std.proofs.Common.{◌≡◌, ℕ, ◌*◌, ◌<◌, ◌≤◌, arith, ⊎_elim, subst, sym}
use Rattle.vms_calls.specs.Common.{Shape, IsLayout, IsCounter, place_count}

pub first_counters : (shape : Shape) → IsLayout shape → (k : ℕ) → k < 8 → IsCounter shape k
first_counters shape layout k within =
    let some : 1 ≤ place_count shape = let zone = layout.some_zone in omega arith in
    ⊎_elim
    (λ (eight : shape.positions ≡ 8).
    subst (λ n. k < n * place_count shape) (sym eight) (omega (arith, some, within)))
    (λ (sixteen : shape.positions ≡ 16).
    subst (λ n. k < n * place_count shape) (sym sixteen) (omega (arith, some, within)))
    layout.positions
