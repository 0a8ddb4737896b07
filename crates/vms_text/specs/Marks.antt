-- The spaces of a line as the bits of a number.
use Rattle.std.specs.Prelude.{ℕ, ◌≡◌, ◌==◌, if◌then◌else◌, List, slice_index}
use Rattle.std.specs.Int.{bit_at}

-- bit k of the marks is 1 where byte k of a line is a space, and 0 elsewhere and past the end of the line
abbrev pub MarksSpaces : List ℕ → ℕ → Type 0
MarksSpaces line marks = (k : ℕ) → bit_at marks k ≡ (if slice_index line k == 32 then 1 else 0)
