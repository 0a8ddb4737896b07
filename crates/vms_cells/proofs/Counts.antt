-- The counts of a table of amounts, and what a write makes of them.
use Rattle.std.proofs.Common.{◌≡◌, ◌≢◌, ℕ, zero, suc, ◌+◌, ◌*◌, ◌<◌, ◌≤◌, ◌-◌, ◌&&◌, Bool, true, false, ℤ, pos, negsuc}
use Rattle.std.proofs.Common.{List, length, get_or, refl, sym, ap, ◌∙◌, arith, if◌then◌else◌, nat_eq, eqb-true}
use Rattle.std.specs.Prelude.{◌^◌}
use Rattle.std.proofs.Math.ListN.{set, length-set, replicate}
use Rattle.std.proofs.lemmas.Bool.{eqb-false, eq-eqb, ne_eqb}
use Rattle.std.proofs.lemmas.Int.{ints}
use Rattle.std.proofs.lemmas.List.{length-replicate}
use Rattle.vms_history.specs.Common.{cell, count_below}
use Rattle.vms_history.proofs.Common.{count_below-most, count_below-same, get_or-set, pos-count_below}
use Rattle.vms_history.proofs.Common.{sum_below-changed}
use Rattle.vms_cells.specs.Cells.{Cells, HasCells, at, filled, with_cell}
use Rattle.vms_cells.specs.Tallies.{AreCounted, IsEmptyRow, count_of, counted}
use Rattle.vms_cells.proofs.WrittenCells.{at-with_cell, filled-get_or}

counted-most : (z : ℤ) → counted z ≤ 1
counted-most (pos zero) = omega arith
counted-most (pos (suc n)) = omega arith
counted-most (negsuc n) = omega arith

counted-zero : (z : ℤ) → counted z ≡ 0 → z ≡ pos 0
counted-zero (pos zero) none = refl
counted-zero (pos (suc n)) none = absurd (omega arith)
counted-zero (negsuc n) none = absurd (omega arith)

-- a sum of numbers is 0 where each is, and each is at most the sum
count_below-none : (f : ℕ → ℕ) (n : ℕ) → ((i : ℕ) → i < n → f i ≡ 0) → count_below f n ≡ 0
count_below-none f zero none = refl
count_below-none f (suc n) none =
    omega (arith, none n (omega arith), count_below-none f n (λ i below. none i (omega arith)))

count_below-each : (f : ℕ → ℕ) (n i : ℕ) → i < n → f i ≤ count_below f n
count_below-each f zero i below = absurd (omega arith)
count_below-each f (suc n) i below = by (nat_eq i n) refl (count_below-each f n i)
  where
    by : (b : Bool) → nat_eq i n ≡ b → (i < n → f i ≤ count_below f n) → f i ≤ f n + count_below f n
    by true last rest = let here : f i ≡ f n = ap f (eqb-true i n last) in omega arith
    by false other rest = let differ = eqb-false i n other in omega (arith, rest (omega arith))

-- g differs from f at k alone
count_below-changed : (f g : ℕ → ℕ) (k n : ℕ) → k < n → ((i : ℕ) → i < n → i ≢ k → g i ≡ f i)
    → count_below g n + f k ≡ count_below f n + g k
count_below-changed f g k n below same =
    let changed = sum_below-changed (λ i. pos (f i)) (λ i. pos (g i)) k n below
    (λ i i_in other. ap pos (same i i_in other))
    in
    omega (arith, ints, changed, pos-count_below f n, pos-count_below g n)

module _ (amounts : Cells ℤ) (row : ℕ) where
  pub empty-none : count_of amounts row ≡ 0 → IsEmptyRow amounts row
  empty-none none column within =
      counted-zero (at amounts row column (pos 0))
      (let each = count_below-each (λ i. counted (at amounts row i (pos 0))) amounts.width column within in omega arith)

  pub none-empty : IsEmptyRow amounts row → count_of amounts row ≡ 0
  none-empty empty =
      count_below-none (λ i. counted (at amounts row i (pos 0))) amounts.width
      (λ i within. ap counted (empty i within))

wide_in : (rows width row : ℕ) → row < rows → width ≤ rows * width
wide_in zero width row row_in = absurd (omega arith)
wide_in (suc rows) width row row_in = let more : suc rows * width ≡ rows * width + width = omega arith in omega arith

module _ (amounts : Cells ℤ) (counts : List ℕ) (are : AreCounted amounts counts) (row column : ℕ)
    (row_in : row < amounts.rows) (column_in : column < amounts.width) where
  has : HasCells amounts.rows amounts.width amounts
  has = record { high = refl; wide = refl; one_each = are.whole.one_each }

  pub counted-least : counted (at amounts row column (pos 0)) ≤ get_or counts row 0
  counted-least =
      rw (are.each row row_in)
      (count_below-each (λ i. counted (at amounts row i (pos 0))) amounts.width column column_in)

  pub count-fits : get_or counts row 0 < 2 ^ 63
  count-fits =
      let most = count_below-most (λ i. counted (at amounts row i (pos 0))) amounts.width 1
      (λ i i_in. counted-most (at amounts row i (pos 0))) in
      let wide = wide_in (amounts.rows) amounts.width row row_in in
      omega (arith, most, are.each row row_in, are.whole.fits, wide)

  module _ (v : ℤ) (count : ℕ)
      (is : count + counted (at amounts row column (pos 0)) ≡ get_or counts row 0 + counted v) where
    written : (other thing : ℕ) → thing < amounts.width
        → at (with_cell amounts row column v) other thing (pos 0)
        ≡ (if nat_eq row other && nat_eq column thing then v else at amounts other thing (pos 0))
    written other thing = at-with_cell amounts.rows amounts.width amounts has row column row_in column_in v other thing
        (pos 0)

    count-here : count ≡ count_of (with_cell amounts row column v) row
    count-here =
        let same : nat_eq row row ≡ true = eq-eqb row row refl in
        let changed = count_below-changed (λ i. counted (at amounts row i (pos 0)))
        (λ i. counted (at (with_cell amounts row column v) row i (pos 0))) column amounts.width column_in
        (λ i i_in other.
        let differ : nat_eq column i ≡ false = ne_eqb column i (λ e. other (sym e)) in
        ap counted (rw (written row i i_in, same, differ) refl)) in
        let column_same : nat_eq column column ≡ true = eq-eqb column column refl in
        let here : at (with_cell amounts row column v) row column (pos 0) ≡ v =
        rw (written row column column_in, same, column_same) refl in
        omega (arith, changed, ap counted here, are.each row row_in, is)

    count-elsewhere : (other : ℕ) → nat_eq row other ≡ false
        → count_of (with_cell amounts row column v) other ≡ count_of amounts other
    count-elsewhere other differ =
        count_below-same (λ i. counted (at (with_cell amounts row column v) other i (pos 0)))
        (λ i. counted (at amounts other i (pos 0))) amounts.width
        (λ i i_in. ap counted (rw (written other i i_in, differ) refl))

    pub AreCounted-with_cell : AreCounted (with_cell amounts row column v) (set counts row count)
    AreCounted-with_cell = record {
      whole = record {
        one_each = length-set amounts.items _ v ∙ are.whole.one_each;
        fits = are.whole.fits;
      };
      one_each = length-set counts row count ∙ are.one_each;
      each = λ other other_in.
          let within : row < length counts = rw are.one_each row_in in
          rw (get_or-set counts row other count 0 within) (by other (nat_eq row other) refl other_in);
    }
      where
        by : (other : ℕ) (b : Bool) → nat_eq row other ≡ b → other < amounts.rows
            → (if b then count else get_or counts other 0) ≡ count_of (with_cell amounts row column v) other
        by other true same other_in = rw (← eqb-true row other same) count-here
        by other false differ other_in = rw (count-elsewhere other differ) (are.each other other_in)

-- what a write makes of the counts, from what it found
module _ (amounts : Cells ℤ) (counts : List ℕ) (are : AreCounted amounts counts) (row column : ℕ)
    (row_in : row < amounts.rows) (column_in : column < amounts.width) (found : ℤ) (before count : ℕ)
    (found_is : at amounts row column (pos 0) ≡ found) (before_is : before ≡ counted found)
    (count_is : get_or counts row 0 ≡ count) where
  counts_before : counted (at amounts row column (pos 0)) ≡ before
  counts_before = ap counted found_is ∙ sym before_is

  pub before-least : before ≤ count
  before-least =
      omega (arith, counts_before, count_is, counted-least amounts counts are row column row_in column_in)

  pub count-small : count < 2 ^ 63
  count-small = omega (arith, count_is, count-fits amounts counts are row column row_in column_in)

  pub AreCounted-set : (v : ℤ) (more : ℕ) → more ≡ counted v
      → AreCounted (with_cell amounts row column v) (set counts row (count - before + more))
  AreCounted-set v more more_is =
      AreCounted-with_cell amounts counts are row column row_in column_in v (count - before + more)
      (omega (arith, counts_before, count_is, before-least, more_is))

-- in a table of zeros nothing counts
pub AreCounted-zeros : (rows width : ℕ) → rows * width < 2 ^ 63
    → AreCounted (filled rows width (pos 0)) (replicate rows 0)
AreCounted-zeros rows width fits = record {
  whole = record { one_each = length-replicate (rows * width) (pos 0); fits = fits };
  one_each = length-replicate rows 0;
  each = λ row row_in.
      filled-get_or rows row 0
      ∙ sym (none-empty (filled rows width (pos 0)) row (λ column column_in.
      filled-get_or (rows * width) (cell width row column) (pos 0)));
}
