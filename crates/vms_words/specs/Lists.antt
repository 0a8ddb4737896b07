-- The eight differentials that a word tells.
use Rattle.std.proofs.Common.{◌≡◌, ℕ, zero, suc, ◌/◌, ◌^◌, ◌<◌, ℤ, pos, negsuc, List, [], ◌∷◌, get_or, map, refl, ap}
use Rattle.std.proofs.Common.{◌∙◌, subst, lit<}
use Rattle.std.proofs.Math.Dec.{T, leb-suc-suc, lt→ltb}
use Rattle.std.proofs.Math.Nat.{mod-lt}
use Rattle.std.proofs.lemmas.Int.{of_z-to_z}
use Rattle.std.proofs.lemmas.Nat.{from_le_bytes-to_le_bytes_8}
use Rattle.std.specs.Int.{w8, w64, cast_signed, cast_unsigned, byte_at, bytes_low_first, from_le_bytes, to_le_bytes}
use Rattle.std.proofs.Math.Facts.{sfits_to_z}
use mir.Val.{SFits}
use Rattle.vms_calls.specs.Common.{Diffs, IsByte, AreBytes}
use Rattle.vms_base.specs.Groups.{bytes_of_word, word_of_bytes}

-- what a signed byte may be is between -128 and 127
in_byte : (z : ℤ) → SFits w8 z → IsByte z
in_byte (pos n) fits =
    (record { le = tt }, record { le = subst T (leb-suc-suc n 127) (lt→ltb n 128 fits.sfits) })
in_byte (negsuc n) fits =
    (record { le = subst T (leb-suc-suc n 127) (lt→ltb n 128 fits.sfits) }, record { le = tt })

pub byte_at-lt : (i word : ℕ) → byte_at i word < 256
byte_at-lt zero word = mod-lt word {m = 256} (lit< tt)
byte_at-lt (suc i) word = mod-lt (word / 256 ^ suc i) {m = 256} (lit< tt)

AreBytes-low_first : (i count word : ℕ) → AreBytes (map (cast_signed w8) (bytes_low_first i count word))
AreBytes-low_first i zero word k = in_byte (pos 0) (record { sfits = lit< tt })
AreBytes-low_first i (suc count) word zero =
    in_byte (cast_signed w8 (byte_at i word)) (sfits_to_z (record { fits = byte_at-lt i word }))
AreBytes-low_first i (suc count) word (suc k) = AreBytes-low_first (suc i) count word k

pub AreBytes-bytes_of_word : (word : ℕ) → AreBytes (bytes_of_word word)
unfolding bytes_of_word
AreBytes-bytes_of_word word = AreBytes-low_first 0 8 word

abbrev pub list_told : ℕ → Diffs
list_told word = record { values = bytes_of_word word; bytes = AreBytes-bytes_of_word word }

-- a word is the one of the list that it tells
bytes-back : (bs : List ℕ) → ((k : ℕ) → get_or bs k 0 < 256)
    → map (cast_unsigned w8) (map (cast_signed w8) bs) ≡ bs
bytes-back [] below = refl
bytes-back (b ∷ bs) below =
    ap (λ n. n ∷ map (cast_unsigned w8) (map (cast_signed w8) bs)) (of_z-to_z w8 b (below 0))
    ∙ ap (λ ns. b ∷ ns) (bytes-back bs (λ k. below (suc k)))

pub low_first-below : (i count word k : ℕ) → get_or (bytes_low_first i count word) k 0 < 256
low_first-below i zero word k = lit< tt
low_first-below i (suc count) word zero = byte_at-lt i word
low_first-below i (suc count) word (suc k) = low_first-below (suc i) count word k

pub word-told : (word : ℕ) → word < 2 ^ 64 → word_of_bytes (bytes_of_word word) ≡ word
unfolding word_of_bytes bytes_of_word
word-told word fits =
    ap (from_le_bytes w64) (bytes-back (to_le_bytes w64 word) (low_first-below 0 8 word))
    ∙ from_le_bytes-to_le_bytes_8 word fits
