-- What the words of numbers tell.
use Rattle.std.proofs.Common.{◌≡◌, ℕ, ◌/◌, ◌%◌, ◌<◌, ◌^◌, ℤ, pos, negsuc, unsigned_abs, Option, Some, None, List}
use Rattle.std.proofs.Common.{get_or, to_z, of_z, refl, arith}
use Rattle.std.specs.Int.{w64}
use Rattle.std.proofs.lemmas.Int.{ints, to_z-of_z}
use mir.Val.{SFits}
use Rattle.vms_calls.specs.Common.{CpuState, Online, Dead, Absent, IsByte, AreBytes, word_of, signed_of_word}
use Rattle.vms_calls.specs.Common.{size_limit}
use Rattle.vms_words.specs.Common.{threshold_word, packed_mark, cpu_word, acknowledgement_word, cpu_told}
use Rattle.vms_words.specs.Common.{acknowledgement_told}

pub fits-64 : (z : ℤ) → unsigned_abs z < 2 ^ 62 → SFits w64 z
fits-64 (pos n) small = record { sfits = omega (arith, ints) }
fits-64 (negsuc n) small = record { sfits = omega (arith, ints) }

byte_fits : (z : ℤ) → IsByte z → SFits w64 z
byte_fits (pos n) is = record { sfits = omega (arith, ints) }
byte_fits (negsuc n) is = record { sfits = omega (arith, ints) }

-- a byte is the same after it was passed on
pub byte-passed : (values : List ℤ) → AreBytes values → (k : ℕ)
    → to_z w64 (of_z w64 (get_or values k (pos 0))) ≡ get_or values k (pos 0)
byte-passed values bytes k = to_z-of_z w64 (get_or values k (pos 0)) (byte_fits (get_or values k (pos 0)) (bytes k))

pub number-told : (z : ℤ) → unsigned_abs z < size_limit → signed_of_word (word_of z) ≡ z
number-told z small = to_z-of_z w64 z (fits-64 z small)

pub cpu-told : (x : CpuState) → cpu_told (cpu_word x) ≡ x
cpu-told Online = refl
cpu-told Dead = refl
cpu-told Absent = refl

pub acknowledgement-told : (x : Option ℕ) → acknowledgement_told (acknowledgement_word x) ≡ x
acknowledgement-told None = refl
acknowledgement-told (Some n) = refl

-- a threshold and a mark are told by the rest and the quotient
pub threshold-told : (t number : ℕ) → t < 2 ^ 32
    → (threshold_word t number % 2 ^ 32 ≡ t) × (threshold_word t number / 2 ^ 32 ≡ number)
threshold-told t number small = (omega (arith, small), omega (arith, small))

pub mark-told : (m number : ℕ) → m < 2 ^ 43
    → (packed_mark m number % 2 ^ 43 ≡ m) × (packed_mark m number / 2 ^ 43 ≡ number)
mark-told m number small = (omega (arith, small), omega (arith, small))
