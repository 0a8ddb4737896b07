-- The blocks of a layout's words, and how large they are.
use Rattle.std.proofs.Common.{◌≡◌, ◌+◌, ◌*◌, ◌<◌, ◌≤◌, ◌^◌, length, refl, sym, arith, subst, ⊎_elim}
use Rattle.std.proofs.Math.Nat.{mul-le-mul}
use Rattle.vms_calls.specs.Common.{Shape, IsLayout, place_count, counter_count, group_count, item_count}
use Rattle.vms_base.proofs.Common.{counter_count-most, group_count-most, place_count-most}
use Rattle.vms_rows.specs.Common.{gap}
use Rattle.vms_words.specs.declared.spots.Blocks.{Blocks}
use Rattle.vms_words.specs.Spots.{blocks_of}

-- each block begins where the one before it ends
pub record AreBlocks (shape : Shape) (b : Blocks) : Type 0 where
  pub systems : b.systems ≡ counter_count shape
  pub marks : b.marks ≡ b.systems + item_count shape
  pub shared : b.shared ≡ b.marks + length shape.zones
  pub rows : b.rows ≡ b.shared + gap
  pub thresholds : b.thresholds ≡ group_count shape
  pub acknowledgements : b.acknowledgements ≡ b.thresholds + place_count shape
  pub state : b.state ≡ b.acknowledgements + length shape.zones
  pub width : b.width ≡ b.state + 1 + gap
  pub end : b.end ≡ b.rows + shape.cpus * b.width

pub blocks-are : (shape : Shape) → AreBlocks shape (blocks_of shape)
unfolding blocks_of
blocks-are shape = record {
  systems = refl;
  marks = refl;
  shared = refl;
  rows = refl;
  thresholds = refl;
  acknowledgements = refl;
  state = refl;
  width = refl;
  end = refl;
}

pub are_blocks : (shape : Shape) (b : Blocks) → b ≡ blocks_of shape → AreBlocks shape b
are_blocks shape b same = subst (AreBlocks shape) (sym same) (blocks-are shape)

module _ (shape : Shape) (layout : IsLayout shape) where
  items-most : item_count shape ≤ 32
  items-most = ⊎_elim (λ narrow. omega (arith, narrow)) (λ wide. omega (arith, wide)) layout.positions

  pub width-most : (b : Blocks) → AreBlocks shape b → b.width ≤ 120
  width-most b are = omega (
    arith,
    are.thresholds,
    are.acknowledgements,
    are.state,
    are.width,
    layout.zones_most,
    group_count-most shape layout,
    place_count-most shape layout,
  )

  pub rows-most : (b : Blocks) → AreBlocks shape b → b.rows ≤ 600
  rows-most b are = omega (
    arith,
    are.systems,
    are.marks,
    are.shared,
    are.rows,
    layout.zones_most,
    counter_count-most shape layout,
    items-most,
  )

  pub end-most : (b : Blocks) → AreBlocks shape b → b.end < 2 ^ 32
  end-most b are =
      let all : shape.cpus * b.width ≤ 128 * 120 = mul-le-mul layout.cpus_most (width-most b are) in
      omega (arith, are.end, rows-most b are, all)
