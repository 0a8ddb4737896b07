-- Each word has one place, and each place holds one word.
use Rattle.std.proofs.Common.{◌≡◌, ℕ, ◌+◌, ◌-◌, ◌*◌, ◌/◌, ◌%◌, ◌<◌, ◌≤◌, ◌^◌, Bool, true, false, nat_lt, IfSome, Option}
use Rattle.std.proofs.Common.{Some, None, refl, ap, ◌∙◌, arith, subst, if◌then◌else◌}
use Rattle.std.proofs.lemmas.Bool.{ltb-true, ltb-false}
use Rattle.std.proofs.lemmas.Nat.{div_below, div-add-mod'}
use Rattle.vms_calls.specs.Common.{Shape, IsLayout, cell}
use Rattle.vms_base.proofs.Common.{cell-lt, cell-cpu, cell-thing}
use Rattle.vms_words.specs.declared.spots.Blocks.{Blocks}
use Rattle.vms_words.specs.declared.spots.Spot.{Spot}
use Rattle.vms_words.specs.declared.spots.Spot.TheVariants.{Value, System, Group, Threshold, Mark, Cpu, Acknowledgement}
use Rattle.vms_words.specs.Common.{IsSpot, place_in, spot_before, spot_in, spot_in_row}
use Rattle.vms_words.specs.Spots.{blocks_of}
use Rattle.vms_words.proofs.Blocks.{AreBlocks, are_blocks, end-most}

by_test : {X : Type 0} (P : X → Type 0) (b : Bool) (x y : X) → (b ≡ true → P x) → (b ≡ false → P y)
    → P (if b then x else y)
by_test P true x y holds fails = holds refl
by_test P false x y holds fails = fails refl

below : {X : Type 0} (P : X → Type 0) (n m : ℕ) (x y : X) → (n < m → P x) → (m ≤ n → P y)
    → P (if nat_lt n m then x else y)
below P n m x y less least =
    by_test P (nat_lt n m) x y (λ e. less (ltb-true n m e)) (λ e. least (ltb-false n m e))

-- what is known of the word at a place: it is one of the layout's, and stands there; or it stays 0
abbrev pub StandsAt : Shape → Blocks → ℕ → Option Spot → Type 0
StandsAt shape b n None = Unit {0}
StandsAt shape b n (Some spot) = IsSpot shape spot × (place_in b spot ≡ n)

module _ (shape : Shape) (b : Blocks) (are : AreBlocks shape b) where
  -- where the blocks begin
  ascends : (b.systems ≤ b.marks) × (b.marks ≤ b.shared) × (b.shared ≤ b.rows) × (b.rows ≤ b.end)
      × (b.thresholds ≤ b.acknowledgements) × (b.acknowledgements ≤ b.state) × (b.state < b.width)
  ascends = (
    omega (arith, are.marks),
    omega (arith, are.shared),
    omega (arith, are.rows),
    omega (arith, are.end),
    omega (arith, are.acknowledgements),
    omega (arith, are.state),
    omega (arith, are.width),
  )

  -- a word of a CPU's row
  in_row-lt : (c k : ℕ) → c < shape.cpus → k < b.width → b.rows + cell b.width c k < b.end
  in_row-lt c k c_in k_in = let inside = cell-lt b.width shape.cpus c k c_in k_in in omega (arith, are.end, inside)

  pub place_in-lt : (spot : Spot) → IsSpot shape spot → place_in b spot < b.end
  place_in-lt (Value k) known = omega (arith, ascends, are.systems)
  place_in-lt (System i) known = omega (arith, ascends, are.marks)
  place_in-lt (Mark g) known = omega (arith, ascends, are.shared)
  place_in-lt (Group c j) known = in_row-lt c.number j.number known.0 (omega (arith, ascends, known.1, are.thresholds))
  place_in-lt (Threshold c g) known =
      in_row-lt c.number (b.thresholds + g.number) known.0 (omega (arith, ascends, known.1, are.acknowledgements))
  place_in-lt (Acknowledgement c g) known =
      in_row-lt c.number (b.acknowledgements + g.number) known.0 (omega (arith, ascends, known.1, are.state))
  place_in-lt (Cpu c) known = in_row-lt c.number b.state known (omega (arith, ascends))

  pub before-stands : (n : ℕ) → StandsAt shape b n (spot_before b n)
  before-stands n =
      below (StandsAt shape b n) n b.systems _ _ (λ less. (omega (arith, less, are.systems), refl)) (λ l0.
      below (StandsAt shape b n) n b.marks _ _ (λ less. (omega (arith, l0, less, are.marks), omega (arith, l0))) (λ l1.
      below (StandsAt shape b n) n b.shared _ _ (λ less. (omega (arith, l1, less, are.shared), omega (arith, l1)))
      (λ l2. tt)))

  pub row-stands : (c k : ℕ) → c < shape.cpus → (n : ℕ) → b.rows + cell b.width c k ≡ n
      → StandsAt shape b n (spot_in_row b c k)
  row-stands c k c_in n at =
      below (StandsAt shape b n) k b.thresholds _ _ (λ less. ((c_in, omega (arith, less, are.thresholds)), at)) (λ l0.
      below (StandsAt shape b n) k b.acknowledgements _ _
      (λ less. ((c_in, omega (arith, l0, less, are.acknowledgements)), omega (arith, l0, at))) (λ l1.
      below (StandsAt shape b n) k b.state _ _
      (λ less. ((c_in, omega (arith, l1, less, are.state)), omega (arith, l1, at))) (λ l2.
      below (StandsAt shape b n) k (b.state + 1) _ _ (λ less. (c_in, omega (arith, l2, less, at))) (λ l3. tt))))

  -- the word at a place is the one that stands there
  pub spot_in-stands : (n : ℕ) → n < b.end → StandsAt shape b n (spot_in b n)
  spot_in-stands n within =
      below (StandsAt shape b n) n b.rows _ _ (λ less. before-stands n) (λ least.
      let inside : n - b.rows < shape.cpus * b.width = omega (arith, least, within, are.end) in
      let whole = div-add-mod' (n - b.rows) b.width in
      row-stands ((n - b.rows) / b.width) ((n - b.rows) % b.width)
      (div_below (n - b.rows) b.width shape.cpus (omega (arith, ascends)) inside) n (omega (arith, least, whole)))

  pub spot_in-before : (n : ℕ) → n < b.rows → spot_in b n ≡ spot_before b n
  spot_in-before n less =
      below (λ x. x ≡ spot_before b n) n b.rows _ _ (λ inside. refl) (λ least. absurd (omega (arith, less, least)))

  pub spot_in-row : (c k : ℕ) → k < b.width → spot_in b (b.rows + cell b.width c k) ≡ spot_in_row b c k
  spot_in-row c k k_in =
      below (λ x. x ≡ spot_in_row b c k) (b.rows + cell b.width c k) b.rows _ _ (λ less. absurd (omega (arith, less)))
      (λ least.
      let behind : b.rows + cell b.width c k - b.rows ≡ cell b.width c k = omega arith in
      ap (λ n. spot_in_row b (n / b.width) (n % b.width)) behind
      ∙ ap (λ r. spot_in_row b r (cell b.width c k % b.width)) (cell-cpu b.width c k k_in)
      ∙ ap (spot_in_row b c) (cell-thing b.width c k k_in))

  -- the place of a word holds it
  pub spot_in-place_in : (spot : Spot) → IsSpot shape spot → spot_in b (place_in b spot) ≡ Some spot
  spot_in-place_in (Value k) known =
      spot_in-before k.number (omega (arith, ascends, are.systems, known))
      ∙ below (λ x. x ≡ Some (Value k)) k.number b.systems _ _ (λ less. refl)
      (λ least. absurd (omega (arith, are.systems, known, least)))
  spot_in-place_in (System i) known =
      spot_in-before (b.systems + i.number) (omega (arith, ascends, are.marks, known))
      ∙ below (λ x. x ≡ Some (System i)) (b.systems + i.number) b.systems _ _ (λ less. absurd (omega (arith, less)))
      (λ l0. below (λ x. x ≡ Some (System i)) (b.systems + i.number) b.marks _ _
      (λ less. let same : b.systems + i.number - b.systems ≡ i.number = omega arith in
      λ at. Some (System (record { number = same at })))
      (λ l1. absurd (omega (arith, are.marks, known, l1))))
  spot_in-place_in (Mark g) known =
      spot_in-before (b.marks + g.number) (omega (arith, ascends, are.shared, known))
      ∙ below (λ x. x ≡ Some (Mark g)) (b.marks + g.number) b.systems _ _
      (λ less. absurd (omega (arith, ascends, less)))
      (λ l0. below (λ x. x ≡ Some (Mark g)) (b.marks + g.number) b.marks _ _ (λ less. absurd (omega (arith, less)))
      (λ l1. below (λ x. x ≡ Some (Mark g)) (b.marks + g.number) b.shared _ _
      (λ less. let same : b.marks + g.number - b.marks ≡ g.number = omega arith in
      λ at. Some (Mark (record { number = same at })))
      (λ l2. absurd (omega (arith, are.shared, known, l2)))))
  spot_in-place_in (Group c j) known =
      spot_in-row c.number j.number (omega (arith, ascends, known.1, are.thresholds))
      ∙ below (λ x. x ≡ Some (Group c j)) j.number b.thresholds _ _ (λ less. refl)
      (λ l0. absurd (omega (arith, are.thresholds, known.1, l0)))
  spot_in-place_in (Threshold c g) known =
      let k = b.thresholds + g.number in
      spot_in-row c.number k (omega (arith, ascends, known.1, are.acknowledgements))
      ∙ below (λ x. x ≡ Some (Threshold c g)) k b.thresholds _ _ (λ less. absurd (omega (arith, less)))
      (λ l0. below (λ x. x ≡ Some (Threshold c g)) k b.acknowledgements _ _
      (λ less. let same : b.thresholds + g.number - b.thresholds ≡ g.number = omega arith in
      λ at. Some (Threshold c (record { number = same at })))
      (λ l1. absurd (omega (arith, are.acknowledgements, known.1, l1))))
  spot_in-place_in (Acknowledgement c g) known =
      let k = b.acknowledgements + g.number in
      spot_in-row c.number k (omega (arith, ascends, known.1, are.state))
      ∙ below (λ x. x ≡ Some (Acknowledgement c g)) k b.thresholds _ _
      (λ less. absurd (omega (arith, ascends, less)))
      (λ l0. below (λ x. x ≡ Some (Acknowledgement c g)) k b.acknowledgements _ _ (λ less. absurd (omega (arith, less)))
      (λ l1. below (λ x. x ≡ Some (Acknowledgement c g)) k b.state _ _
      (λ less. let same : b.acknowledgements + g.number - b.acknowledgements ≡ g.number = omega arith in
      λ at. Some (Acknowledgement c (record { number = same at })))
      (λ l2. absurd (omega (arith, are.state, known.1, l2)))))
  spot_in-place_in (Cpu c) known =
      spot_in-row c.number b.state (omega (arith, ascends))
      ∙ below (λ x. x ≡ Some (Cpu c)) b.state b.thresholds _ _ (λ less. absurd (omega (arith, ascends, less)))
      (λ l0. below (λ x. x ≡ Some (Cpu c)) b.state b.acknowledgements _ _
      (λ less. absurd (omega (arith, ascends, less)))
      (λ l1. below (λ x. x ≡ Some (Cpu c)) b.state b.state _ _ (λ less. absurd (omega (arith, less)))
      (λ l2. below (λ x. x ≡ Some (Cpu c)) b.state (b.state + 1) _ _ (λ less. refl)
      (λ l3. absurd (omega (arith, l3))))))

-- what stands at a place is of the layout
pub stands-known : (shape : Shape) (b : Blocks) (n : ℕ) (held : Option Spot) → StandsAt shape b n held
    → IfSome held (IsSpot shape)
stands-known shape b n None stands = tt
stands-known shape b n (Some spot) stands = stands.0

-- the place of a word stands before the end, and the end fits
module _ (shape : Shape) (layout : IsLayout shape) (b : Blocks) (same : b ≡ blocks_of shape) where
  pub place-lt : (known spot : Spot) → IsSpot shape known → known ≡ spot → place_in b spot < b.end
  place-lt known spot inside is = place_in-lt shape b (are_blocks shape b same) spot (subst (IsSpot shape) is inside)

  pub place-fits : (known spot : Spot) → IsSpot shape known → known ≡ spot → place_in b spot < 2 ^ 32
  place-fits known spot inside is =
      omega (arith, place-lt known spot inside is, end-most shape layout b (are_blocks shape b same))
