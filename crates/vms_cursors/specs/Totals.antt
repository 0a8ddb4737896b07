-- What a fold took for each item.
use Rattle.std.specs.Prelude.{ℕ, ◌*◌, ◌≤◌, ℤ, pos, List, slice_index_or, unsigned_abs}

-- the total of item i
abbrev pub total_at : List ℤ → ℕ → ℤ
total_at totals i = slice_index_or totals i (pos 0)

-- no total is more than so many groups may have
abbrev pub AreWithin : ℕ → List ℤ → Type 0
AreWithin groups totals = (i : ℕ) → unsigned_abs (total_at totals i) ≤ 1024 * groups
