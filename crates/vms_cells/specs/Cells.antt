-- A table of cells: where they stand, and what a write makes of it.
use Rattle.std.specs.Prelude.{◌≡◌, ℕ, ◌*◌, ◌<◌, ◌^◌, List, length, replicate, slice_index_or, slice_set}
use Rattle.vms_history.specs.Common.{cell}

-- so many rows of so many columns, the cells of row 0 first
pub record Cells (X : Type 0) : Type 0 where
  pub rows : ℕ
  pub width : ℕ
  pub items : List X

-- there is a cell for each row and column
pub record AreWhole {X : Type 0} (rows width : ℕ) (items : List X) : Type 0 where
  pub one_each : length items ≡ rows * width
  pub fits : rows * width < 2 ^ 63

-- what stands in a cell
abbrev pub at : {X : Type 0} → Cells X → ℕ → ℕ → X → X
at cells row column default = slice_index_or cells.items (cell cells.width row column) default

-- the table in which each cell has the same value
abbrev pub filled : {X : Type 0} → ℕ → ℕ → X → Cells X
filled rows width v = record { rows = rows; width = width; items = replicate (rows * width) v }

-- the table with one cell changed
abbrev pub with_cell : {X : Type 0} → Cells X → ℕ → ℕ → X → Cells X
with_cell cells row column v = record cells { items = slice_set cells.items (cell cells.width row column) v }

-- the table has so many rows and columns, and a cell for each
pub record HasCells {X : Type 0} (rows width : ℕ) (cells : Cells X) : Type 0 where
  pub high : cells.rows ≡ rows
  pub wide : cells.width ≡ width
  pub one_each : length cells.items ≡ rows * width
