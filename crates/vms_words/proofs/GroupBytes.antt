-- The word of eight bytes gives them back, and eight bytes are one list.
use Rattle.std.proofs.Common.{◌≡◌, ℕ, zero, suc, ◌<◌, ℤ, pos, negsuc, List, [], ◌∷◌, length, get_or, map, replicate}
use Rattle.std.proofs.Common.{refl, arith, ◌∙◌, ap, subst}
use Rattle.std.specs.Int.{w8, w64, cast_signed, cast_unsigned, from_le_bytes}
use Rattle.std.proofs.Math.Dec.{T_prop}
use Rattle.std.proofs.lemmas.Int.{ints, to_z-of_z}
use Rattle.std.proofs.lemmas.List.{length-map}
use Rattle.std.proofs.lemmas.Nat.{le_bytes_8}
use mir.Val.{SFits}
use Rattle.vms_calls.specs.Common.{Diffs, IsByte, AreBytes}
use Rattle.vms_base.specs.Groups.{word_of_bytes, bytes_of_word}

pub byte-fits : (z : ℤ) → IsByte z → SFits w8 z
byte-fits (pos n) is = record { sfits = omega (arith, ints) }
byte-fits (negsuc n) is = record { sfits = omega (arith, ints) }

byte-below : (z : ℤ) → IsByte z → cast_unsigned w8 z < 256
byte-below (pos n) is = omega (arith, ints)
byte-below (negsuc n) is = omega (arith, ints)

bytes-back : (zs : List ℤ) → AreBytes zs → map (cast_signed w8) (map (cast_unsigned w8) zs) ≡ zs
bytes-back [] are = refl
bytes-back (z ∷ zs) are =
    rw (to_z-of_z w8 z (byte-fits z (are 0)), bytes-back zs (λ k. are (suc k))) refl

bytes-below : (zs : List ℤ) → AreBytes zs → (k : ℕ) → get_or (map (cast_unsigned w8) zs) k 0 < 256
bytes-below [] are k = omega arith
bytes-below (z ∷ zs) are zero = byte-below z (are 0)
bytes-below (z ∷ zs) are (suc k) = bytes-below zs (λ j. are (suc j)) k

pub bytes-of_word : (zs : List ℤ) → length zs ≡ 8 → AreBytes zs → bytes_of_word (word_of_bytes zs) ≡ zs
unfolding word_of_bytes bytes_of_word
bytes-of_word zs eight are =
    ap (map (cast_signed w8))
    (le_bytes_8 (map (cast_unsigned w8) zs) (from_le_bytes w64 (map (cast_unsigned w8) zs))
    (length-map zs (cast_unsigned w8) ∙ eight) (bytes-below zs are) refl)
    ∙ bytes-back zs are

pub length-read : (word : ℕ) → length (bytes_of_word word) ≡ 8
unfolding bytes_of_word
length-read word = refl

pub word-of_zeros : word_of_bytes (replicate 8 (pos 0)) ≡ 0
unfolding word_of_bytes
word-of_zeros = refl

-- lists of eight with the same entries are one
are_bytes-prop : (values : List ℤ) → IsProp (AreBytes values)
are_bytes-prop values = hlevel T_prop

list_of : (values : List ℤ) → AreBytes values → Diffs
list_of values bytes = record { values = values; bytes = bytes }

pub same-list : (w v : Diffs) → w.values ≡ v.values → w ≡ v
unfolding list_of
same-list w v same =
    subst (λ (values : List ℤ). (bytes : AreBytes values) → w ≡ list_of values bytes) same
    (λ bytes. ap (list_of w.values) (are_bytes-prop w.values w.bytes bytes)) v.bytes
