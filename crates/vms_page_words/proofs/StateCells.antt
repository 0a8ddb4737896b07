-- Where the numbers of a CPU stand in the lists of a state.
use Rattle.std.proofs.Common.{◌≡◌, ℕ, ◌+◌, ◌*◌, ◌<◌, ◌≤◌, ap, sym, ◌∙◌, arith}
use Rattle.std.proofs.lemmas.Nat.{mul-le}
use Rattle.std.specs.Prelude.{◌^◌}
use Rattle.vms_history.specs.Common.{IsCpu, IsGroup, IsLayout, Shape, cell, counter_count, place_count}
use Rattle.vms_base.proofs.Common.{cell-lt, counter_count-most}
use Rattle.vms_core.specs.declared.states.State.{State}
use Rattle.vms_core.specs.Common.{HasShape, counters_of, places_of}
use Rattle.vms_core.proofs.Common.{group-within, places_of-shaped}

-- the eight cells of a group stand in the list
pub group-ends : (shape : Shape) (c j : ℕ) → IsCpu shape c → IsGroup shape j
    → cell (counter_count shape) c (8 * j) + 8 ≤ shape.cpus * counter_count shape
group-ends shape c j c_in j_in =
    let whole = group-within (counter_count shape) j j_in in
    omega (arith, cell-lt (counter_count shape) shape.cpus c (8 * j + 7) c_in (omega (arith, whole)))

-- and the list is short
pub group-small : (shape : Shape) (c j : ℕ) → IsLayout shape → IsCpu shape c → IsGroup shape j
    → cell (counter_count shape) c (8 * j) < 2 ^ 32
group-small shape c j layout c_in j_in =
    omega (
      arith,
      group-ends shape c j c_in j_in,
      mul-le shape.cpus (counter_count shape) 128 512 layout.cpus_most (counter_count-most shape layout),
    )

-- the cells by the layout are those by the lists of the state
pub cell-place : (shape : Shape) (s : State) → IsLayout shape → HasShape shape s → (c g : ℕ)
    → cell (place_count shape) c g ≡ cell (places_of s) c g
cell-place shape s layout shaped c g = ap (λ w. cell w c g) (sym (places_of-shaped shape s layout shaped))

pub cell-counter : (shape : Shape) (s : State) → HasShape shape s → (c k : ℕ)
    → cell (counter_count shape) c k ≡ cell (counters_of s) c k
cell-counter shape s shaped c k = ap (λ w. cell w c k) (sym shaped.place)

pub cell-group : (shape : Shape) (s : State) → HasShape shape s → (start c j n : ℕ)
    → start ≡ cell (counter_count shape) c (8 * j) → start + n ≡ cell (counters_of s) c (8 * j + n)
cell-group shape s shaped start c j n is =
    let first : start ≡ cell (counters_of s) c (8 * j) = is ∙ cell-counter shape s shaped c (8 * j) in
    omega (arith, first)
