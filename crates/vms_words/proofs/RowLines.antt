-- No line of 64 bytes has words of two CPUs, or of a CPU and of none.
use Rattle.std.proofs.Common.{◌≡◌, ◌≢◌, ℕ, ◌+◌, ◌<◌, ◌≤◌, Some, None, ap, ◌∙◌, arith}
use Rattle.vms_calls.specs.Common.{Shape, cell}
use Rattle.vms_rows.proofs.Common.{rows-apart}
use Rattle.vms_rows.specs.Common.{line_of, row_place}
use Rattle.vms_words.specs.declared.spots.Blocks.{Blocks}
use Rattle.vms_words.specs.declared.spots.Spot.{Spot}
use Rattle.vms_words.specs.declared.spots.Spot.TheVariants.{Value, System, Group, Threshold, Mark, Cpu, Acknowledgement}
use Rattle.vms_words.specs.Common.{IsSpot, cpu_of_spot, place_in}
use Rattle.vms_words.specs.Spots.{blocks_of}
use Rattle.vms_words.proofs.Blocks.{AreBlocks, blocks-are}

module _ (shape : Shape) where
  abbrev b : Blocks
  b = blocks_of shape

  are : AreBlocks shape b
  are = blocks-are shape

  -- which word of its CPU's row it is
  abbrev InRow : ℕ → Spot → Type 0
  InRow c spot = (k : ℕ) × (k < b.state + 1) × (place_in b spot ≡ b.rows + row_place (b.state + 1) c k)

  same-place : (c k : ℕ) → b.rows + cell b.width c k ≡ b.rows + row_place (b.state + 1) c k
  same-place c k = ap (λ w. b.rows + cell w c k) are.width

  in-row : (c : ℕ) (spot : Spot) → IsSpot shape spot → cpu_of_spot spot ≡ Some c → InRow c spot
  in-row c (Value k) known of = absurd cc
  in-row c (System i) known of = absurd cc
  in-row c (Mark g) known of = absurd cc
  in-row c (Group d j) known of =
      let same : d.number ≡ c = cc in (
        j.number,
        omega (arith, known.1, are.thresholds, are.acknowledgements, are.state),
        same-place d.number j.number ∙ ap (λ e. b.rows + row_place (b.state + 1) e j.number) same,
      )
  in-row c (Threshold d g) known of =
      let same : d.number ≡ c = cc in
      let k = b.thresholds + g.number in (
        k,
        omega (arith, known.1, are.acknowledgements, are.state),
        same-place d.number k ∙ ap (λ e. b.rows + row_place (b.state + 1) e k) same,
      )
  in-row c (Acknowledgement d g) known of =
      let same : d.number ≡ c = cc in
      let k = b.acknowledgements + g.number in (
        k,
        omega (arith, known.1, are.state),
        same-place d.number k ∙ ap (λ e. b.rows + row_place (b.state + 1) e k) same,
      )
  in-row c (Cpu d) known of =
      let same : d.number ≡ c = cc in (
        b.state,
        omega arith,
        same-place d.number b.state ∙ ap (λ e. b.rows + row_place (b.state + 1) e b.state) same,
      )

  -- a word of no CPU stands before the rows, and the gap is between them
  before-rows : (spot : Spot) → IsSpot shape spot → cpu_of_spot spot ≡ None → place_in b spot + 8 ≤ b.rows
  before-rows (Value k) known of = omega (arith, known, are.systems, are.marks, are.shared, are.rows)
  before-rows (System i) known of = omega (arith, known, are.marks, are.shared, are.rows)
  before-rows (Mark g) known of = omega (arith, known, are.shared, are.rows)
  before-rows (Group d j) known of = absurd cc
  before-rows (Threshold d g) known of = absurd cc
  before-rows (Acknowledgement d g) known of = absurd cc
  before-rows (Cpu d) known of = absurd cc

  pub cpus-apart : (start c d : ℕ) (one other : Spot) → IsSpot shape one → IsSpot shape other
      → cpu_of_spot one ≡ Some c → cpu_of_spot other ≡ Some d → c ≢ d
      → line_of (start + place_in b one) ≢ line_of (start + place_in b other)
  cpus-apart start c d one other one_in other_in of_one of_other differ same =
      let (k, k_in, at) = in-row c one one_in of_one in
      let (m, m_in, other_at) = in-row d other other_in of_other in
      rows-apart (b.state + 1) (start + b.rows) c d k m k_in m_in differ
      (ap line_of (omega (arith, at)) ∙ same ∙ ap line_of (omega (arith, other_at)))

  pub shared-apart : (start c : ℕ) (one other : Spot) → IsSpot shape one → IsSpot shape other
      → cpu_of_spot one ≡ Some c → cpu_of_spot other ≡ None
      → line_of (start + place_in b one) ≢ line_of (start + place_in b other)
  shared-apart start c one other one_in other_in of_one of_none same =
      let (k, k_in, at) = in-row c one one_in of_one in
      let before = before-rows other other_in of_none in
      absurd (omega (arith, at, before, same))
