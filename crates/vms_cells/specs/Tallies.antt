-- A table of amounts with the number of those in a row that aren't 0.
use Rattle.std.specs.Prelude.{◌≡◌, ℕ, zero, ◌<◌, ℤ, pos, List, length, slice_index_or}
use Rattle.vms_history.specs.Common.{count_below}
use Rattle.vms_cells.specs.Cells.{Cells, AreWhole, at}

-- what an amount counts among those that aren't 0
abbrev pub counted : ℤ → ℕ
counted (pos zero) = 0
counted _ = 1

-- how many amounts of a row aren't 0
abbrev pub count_of : Cells ℤ → ℕ → ℕ
count_of amounts row = count_below (λ column. counted (at amounts row column (pos 0))) amounts.width

-- each row has its count
pub record AreCounted (amounts : Cells ℤ) (counts : List ℕ) : Type 0 where
  pub whole : AreWhole amounts.rows amounts.width amounts.items
  pub one_each : length counts ≡ amounts.rows
  pub each : (row : ℕ) → row < amounts.rows → slice_index_or counts row 0 ≡ count_of amounts row

-- all amounts of a row are 0
abbrev pub IsEmptyRow : Cells ℤ → ℕ → Type 0
IsEmptyRow amounts row = (column : ℕ) → column < amounts.width → at amounts row column (pos 0) ≡ pos 0
