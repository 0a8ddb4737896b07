-- Eight signed bytes and their word tell each other.
use Rattle.std.proofs.Common.{◌≡◌, ℕ, zero, suc, ◌<◌, ◌^◌, ℤ, pos, negsuc, List, [], ◌∷◌, length, get_or, map}
use Rattle.std.proofs.Common.{replicate, refl, arith, ◌∙◌, ap, sym}
use Rattle.std.specs.Int.{w8, w64, cast_signed, cast_unsigned, to_le_bytes, from_le_bytes, byte_at, bytes_low_first}
use Rattle.std.proofs.lemmas.Int.{ints, to_z-of_z, of_z-to_z}
use Rattle.std.proofs.lemmas.List.{length-map}
use Rattle.std.proofs.lemmas.Nat.{le_bytes_8, from_le_bytes-to_le_bytes_8}
use mir.Val.{SFits}
use Rattle.vms_base.specs.Common.{IsByte, AreBytes}
use Rattle.vms_base.specs.Groups.{word_of_bytes, bytes_of_word}

byte_fits : (z : ℤ) → IsByte z → SFits w8 z
byte_fits (pos n) h = record { sfits = omega (arith, ints) }
byte_fits (negsuc n) h = record { sfits = omega (arith, ints) }

cast_unsigned-lt : (z : ℤ) → IsByte z → cast_unsigned w8 z < 256
cast_unsigned-lt (pos n) h = omega (arith, ints)
cast_unsigned-lt (negsuc n) h = omega (arith, ints)

-- as bytes and back
signed_unsigned : (zs : List ℤ) → AreBytes zs → map (cast_signed w8) (map (cast_unsigned w8) zs) ≡ zs
signed_unsigned [] h = refl
signed_unsigned (z ∷ zs) h =
    let first = to_z-of_z w8 z (byte_fits z (h 0)) in
    let rest = signed_unsigned zs (λ k. h (suc k)) in
    rw (first, rest) refl

unsigned_signed : (bs : List ℕ) → ((k : ℕ) → get_or bs k 0 < 256)
    → map (cast_unsigned w8) (map (cast_signed w8) bs) ≡ bs
unsigned_signed [] h = refl
unsigned_signed (b ∷ bs) h =
    let first = of_z-to_z w8 b (h 0) in
    let rest = unsigned_signed bs (λ k. h (suc k)) in
    rw (first, rest) refl

all_below : (zs : List ℤ) → AreBytes zs → (k : ℕ) → get_or (map (cast_unsigned w8) zs) k 0 < 256
all_below [] h k = omega arith
all_below (z ∷ zs) h zero = cast_unsigned-lt z (h 0)
all_below (z ∷ zs) h (suc k) = all_below zs (λ j. h (suc j)) k

byte_at-lt : (i word : ℕ) → byte_at i word < 256
byte_at-lt zero word = omega arith
byte_at-lt (suc i) word = omega arith

bytes_low_first-below : (i count word k : ℕ) → get_or (bytes_low_first i count word) k 0 < 256
bytes_low_first-below i zero word k = omega arith
bytes_low_first-below i (suc count) word zero = byte_at-lt i word
bytes_low_first-below i (suc count) word (suc k) = bytes_low_first-below (suc i) count word k

-- the word of eight bytes holds them
pub bytes_of_word-word_of_bytes : (zs : List ℤ) → length zs ≡ 8 → AreBytes zs → bytes_of_word (word_of_bytes zs) ≡ zs
unfolding word_of_bytes bytes_of_word
bytes_of_word-word_of_bytes zs eight h =
    ap (map (cast_signed w8))
    (le_bytes_8 (map (cast_unsigned w8) zs) (from_le_bytes w64 (map (cast_unsigned w8) zs))
    (length-map zs (cast_unsigned w8) ∙ eight) (all_below zs h) refl)
    ∙ signed_unsigned zs h

-- the bytes of a word make it
pub word_of_bytes-bytes_of_word : (word : ℕ) → word < 2 ^ 64 → word_of_bytes (bytes_of_word word) ≡ word
unfolding word_of_bytes bytes_of_word
word_of_bytes-bytes_of_word word fits =
    ap (from_le_bytes w64) (unsigned_signed (to_le_bytes w64 word) (bytes_low_first-below 0 8 word))
    ∙ from_le_bytes-to_le_bytes_8 word fits

-- bytes that make one word are the same
pub word_of_bytes-injective : (ys zs : List ℤ) → length ys ≡ 8 → length zs ≡ 8 → AreBytes ys → AreBytes zs
    → word_of_bytes ys ≡ word_of_bytes zs → ys ≡ zs
word_of_bytes-injective ys zs first second low high same =
    sym (bytes_of_word-word_of_bytes ys first low) ∙ ap bytes_of_word same ∙ bytes_of_word-word_of_bytes zs second high

pub word_of_bytes-zeros : word_of_bytes (replicate 8 (pos 0)) ≡ 0
unfolding word_of_bytes
word_of_bytes-zeros = refl

pub word_of_bytes-lt : (zs : List ℤ) → AreBytes zs → word_of_bytes zs < 2 ^ 64
unfolding word_of_bytes
word_of_bytes-lt zs h =
    omega (
      arith,
      all_below zs h 0,
      all_below zs h 1,
      all_below zs h 2,
      all_below zs h 3,
      all_below zs h 4,
      all_below zs h 5,
      all_below zs h 6,
      all_below zs h 7,
    )

pub length-bytes_of_word : (word : ℕ) → length (bytes_of_word word) ≡ 8
unfolding bytes_of_word
length-bytes_of_word word = refl
