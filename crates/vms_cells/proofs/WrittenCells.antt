-- For other crates too: what reads of a table find after a write.
use Rattle.std.proofs.Common.{◌≡◌, ℕ, ◌*◌, ◌<◌, ◌&&◌, refl, length, if◌then◌else◌, nat_eq, ◌∙◌, get_or, inl, inr}
use Rattle.std.proofs.Common.{replicate}
use Rattle.std.proofs.Math.ListN.{length-set}
use Rattle.std.proofs.lemmas.Bool.{cases_lt}
use Rattle.std.proofs.lemmas.List.{get_or-replicate, get_or_past, length-replicate}
use Rattle.vms_history.specs.Common.{cell}
use Rattle.vms_base.proofs.Common.{cell-lt}
use Rattle.vms_history.proofs.Common.{get_or-set_cell}
use Rattle.vms_cells.specs.Cells.{Cells, HasCells, at, filled, with_cell}

-- each place of a filled list has the value
pub filled-get_or : {X : Type 0} (n i : ℕ) (v : X) → get_or (replicate n v) i v ≡ v
filled-get_or n i v = elim (cases_lt i n) [
  | inl within ↦ get_or-replicate n i v v within
  | inr past ↦ get_or_past (replicate n v) i v (rw (length-replicate n v) past)
]

-- a table that is filled with one value
module _ {X : Type 0} (rows width : ℕ) (v : X) where
  pub HasCells-filled : HasCells rows width (filled rows width v)
  HasCells-filled = record { high = refl; wide = refl; one_each = length-replicate (rows * width) v }

  pub at-filled : (row column : ℕ) → at (filled rows width v) row column v ≡ v
  at-filled row column = filled-get_or (rows * width) (cell width row column) v

-- and a table in which one cell is written
module _ {X : Type 0} (rows width : ℕ) (cells : Cells X) (has : HasCells rows width cells) (row column : ℕ)
    (row_in : row < rows) (column_in : column < width) where
  pub cell-within : cell cells.width row column < length cells.items
  cell-within = rw (has.wide, has.one_each) (cell-lt width rows row column row_in column_in)

  pub HasCells-with_cell : (v : X) → HasCells rows width (with_cell cells row column v)
  HasCells-with_cell v = record {
    high = has.high;
    wide = has.wide;
    one_each = length-set cells.items (cell cells.width row column) v ∙ has.one_each;
  }

  pub at-with_cell : (v : X) (other thing : ℕ) (default : X) → thing < width
      → at (with_cell cells row column v) other thing default
      ≡ (if nat_eq row other && nat_eq column thing then v else at cells other thing default)
  at-with_cell v other thing default thing_in =
      rw (has.wide)
      (get_or-set_cell width rows cells.items row column other thing v default has.one_each row_in column_in thing_in)
