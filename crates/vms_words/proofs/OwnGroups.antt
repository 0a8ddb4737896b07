-- Where the words of a CPU's groups begin, and those of its other groups stand.
use Rattle.std.proofs.Common.{◌≡◌, ℕ, ◌+◌, ◌*◌, ◌<◌, ◌≤◌, ◌^◌, refl, sym, ap, ◌∙◌, arith, subst}
use Rattle.std.proofs.Math.Nat.{mul-le-mul_right}
use Rattle.vms_calls.specs.Common.{CpuId, GroupId, Shape, IsCpu, IsGroup, IsLayout, cell}
use Rattle.vms_words.specs.declared.spots.Blocks.{Blocks}
use Rattle.vms_words.specs.declared.spots.Spot.TheVariants.{Group}
use Rattle.vms_words.specs.Spots.{blocks_of}
use Rattle.vms_words.specs.Common.{groups_start, place_in}
use Rattle.vms_words.proofs.Blocks.{are_blocks, end-most}
use Rattle.vms_words.proofs.Places.{place-lt}

further : (g row j : ℕ) → g + (row + 0) + j ≡ g + (row + j)
further g row j = omega arith

-- the groups of a CPU begin before the end
pub first-fits : (shape : Shape) → IsLayout shape → (b : Blocks) → b ≡ blocks_of shape → (c : CpuId)
    → IsCpu shape c.number → b.rows + cell b.width c.number 0 < 2 ^ 63
first-fits shape layout b laid c known =
    let are = are_blocks shape b laid in
    let above : c.number * b.width ≤ shape.cpus * b.width = mul-le-mul_right b.width (omega (arith, known)) in
    omega (arith, above, are.end, end-most shape layout b are)

module _ (shape : Shape) (b : Blocks) (laid : b ≡ blocks_of shape) (c : CpuId) (j : GroupId) (first : ℕ)
    (at : first ≡ groups_start shape c.number) where
  -- the word of a group stands as far behind that of the first group as its number says
  pub group-at : first + j.number ≡ place_in b (Group c j)
  group-at =
      ap (λ n. n + j.number) (subst (λ (x : Blocks). first ≡ x.rows + cell x.width c.number 0) (sym laid) at)
      ∙ further b.rows (c.number * b.width) j.number

  -- and so it is one of the words, and its number small
  module _ (layout : IsLayout shape) (known : IsCpu shape c.number) (group : IsGroup shape j.number) where
    pub group-within : first + j.number < b.end
    group-within = rw group-at (place-lt shape layout b laid (Group c j) (Group c j) (known, group) refl)

    pub group-fits : first + j.number < 2 ^ 64
    group-fits =
        let most = end-most shape layout b (are_blocks shape b laid) in
        omega (arith, most, group-within)
