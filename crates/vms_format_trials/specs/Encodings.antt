-- Numbers and how they are encoded, worked out by hand.
use Rattle.std.specs.Prelude.{ℕ, ℤ, pos, negsuc, List, [], ◌∷◌}
use Rattle.vms_base.specs.Common.{bits_of}
use Rattle.vms_format_trials.specs.Rows.{Row}

-- the position of a number's highest bit
abbrev pub bits : (number position : ℕ) → Row
bits number position = record { given = bits_of number; wanted = position }

-- positions are counted from 1
abbrev pub bit_rows : List Row
bit_rows =
    bits 0 0 ∷
    bits 1 1 ∷
    bits 2 2 ∷
    bits 3 2 ∷
    bits 4 3 ∷
    bits 255 8 ∷
    bits 256 9 ∷
    bits 18446744073709551615 64 ∷
    []

abbrev pub eight_numbers : List ℤ
eight_numbers =
    pos 1 ∷ negsuc 0 ∷ pos 0 ∷ pos 127 ∷ negsuc 127 ∷ pos 2 ∷ pos 3 ∷ negsuc 1 ∷ []
