-- One entry of a packed list is read, or changed, within its word.
use Rattle.std.proofs.Common.{◌≡◌, ℕ, zero, suc, ◌+◌, ◌*◌, ◌-◌, ◌/◌, ◌%◌, ◌<◌, ◌≤◌, ◌^◌, ℤ, pos, List, [], ◌∷◌, get_or}
use Rattle.std.proofs.Common.{map, replicate, refl, arith, ◌∙◌, ap, sym, subst, length-set}
use Rattle.std.specs.Int.{w8, w64, cast_signed, cast_unsigned, from_le_bytes, to_le_bytes, byte_at, bytes_low_first}
use Rattle.std.proofs.Math.ListN.{set}
use Rattle.std.proofs.lemmas.Int.{to_z-of_z}
use Rattle.std.proofs.lemmas.List.{map-set}
use Rattle.std.proofs.lemmas.Nat.{le_bytes_8, from_le_bytes-to_le_bytes_8, shl_whole}
use Rattle.vms_calls.specs.Common.{IsByte}
use Rattle.vms_base.specs.Groups.{bytes_of_word}
use Rattle.vms_words.specs.Common.{byte_at-lt, low_first-below}
use Rattle.vms_words.proofs.GroupBytes.{byte-fits}

pub read-zeros : bytes_of_word 0 ≡ replicate 8 (pos 0)
unfolding bytes_of_word
read-zeros = refl

-- a byte of a word stands where the word is shifted to
pub byte-shifted : (word i : ℕ) → i < 8 → word / 2 ^ (8 * i) % 256 ≡ byte_at i word
byte-shifted word zero less = omega arith
byte-shifted word (suc zero) less = omega arith
byte-shifted word (suc (suc zero)) less = omega arith
byte-shifted word (suc (suc (suc zero))) less = omega arith
byte-shifted word (suc (suc (suc (suc zero)))) less = omega arith
byte-shifted word (suc (suc (suc (suc (suc zero))))) less = omega arith
byte-shifted word (suc (suc (suc (suc (suc (suc zero)))))) less = omega arith
byte-shifted word (suc (suc (suc (suc (suc (suc (suc zero))))))) less = omega arith
byte-shifted word (suc (suc (suc (suc (suc (suc (suc (suc i)))))))) less = omega (arith, less)

entry-low_first : (first count word i : ℕ) → i < count
    → get_or (map (cast_signed w8) (bytes_low_first first count word)) i (pos 0) ≡ cast_signed w8
    (byte_at (first + i) word)
entry-low_first first zero word i less = absurd (omega (arith, less))
entry-low_first first (suc count) word zero less =
    let same : first ≡ first + 0 = omega arith in
    ap (λ n. cast_signed w8 (byte_at n word)) same
entry-low_first first (suc count) word (suc i) less =
    let same : suc first + i ≡ first + suc i = omega arith in
    entry-low_first (suc first) count word i (omega (arith, less)) ∙ ap (λ n. cast_signed w8 (byte_at n word)) same

pub entry-read : (word i : ℕ) → i < 8 → get_or (bytes_of_word word) i (pos 0) ≡ cast_signed w8 (byte_at i word)
unfolding bytes_of_word
entry-read word i less =
    let same : 0 + i ≡ i = omega arith in
    entry-low_first 0 8 word i less ∙ ap (λ n. cast_signed w8 (byte_at n word)) same

-- eight bytes of which one was changed make the word that differs by what both are worth
changed-sum : (a b c d e f g h new i : ℕ) → i < 8
    → from_le_bytes w64 (set (a ∷ b ∷ c ∷ d ∷ e ∷ f ∷ g ∷ h ∷ []) i new)
    + get_or (a ∷ b ∷ c ∷ d ∷ e ∷ f ∷ g ∷ h ∷ []) i 0 * 2 ^ (8 * i)
    ≡ from_le_bytes w64 (a ∷ b ∷ c ∷ d ∷ e ∷ f ∷ g ∷ h ∷ []) + new * 2 ^ (8 * i)
changed-sum a b c d e f g h new zero less = omega arith
changed-sum a b c d e f g h new (suc zero) less = omega arith
changed-sum a b c d e f g h new (suc (suc zero)) less = omega arith
changed-sum a b c d e f g h new (suc (suc (suc zero))) less = omega arith
changed-sum a b c d e f g h new (suc (suc (suc (suc zero)))) less = omega arith
changed-sum a b c d e f g h new (suc (suc (suc (suc (suc zero))))) less = omega arith
changed-sum a b c d e f g h new (suc (suc (suc (suc (suc (suc zero)))))) less = omega arith
changed-sum a b c d e f g h new (suc (suc (suc (suc (suc (suc (suc zero))))))) less = omega arith
changed-sum a b c d e f g h new (suc (suc (suc (suc (suc (suc (suc (suc i)))))))) less = omega (arith, less)

set-below : (bs : List ℕ) → ((k : ℕ) → get_or bs k 0 < 256) → (i new : ℕ) → new < 256 → (k : ℕ)
    → get_or (set bs i new) k 0 < 256
set-below [] below i new small k = omega arith
set-below (b ∷ bs) below zero new small zero = small
set-below (b ∷ bs) below zero new small (suc k) = below (suc k)
set-below (b ∷ bs) below (suc i) new small zero = below 0
set-below (b ∷ bs) below (suc i) new small (suc k) = set-below bs (λ j. below (suc j)) i new small k

word-below : (bs : List ℕ) → ((k : ℕ) → get_or bs k 0 < 256) → from_le_bytes w64 bs < 2 ^ 64
word-below bs below =
    omega (arith, below 0, below 1, below 2, below 3, below 4, below 5, below 6, below 7)

module _ (word : ℕ) (fits : word < 2 ^ 64) (i new : ℕ) (i_in : i < 8) (small : new < 256) where
  abbrev changed : List ℕ
  changed = set (to_le_bytes w64 word) i new

  abbrev worth : ℕ → ℕ
  worth byte = byte * 2 ^ (8 * i)

  at-is : get_or (to_le_bytes w64 word) i 0 ≡ byte_at i word
  at-is =
      let same : 0 + i ≡ i = omega arith in
      at 0 8 i i_in ∙ ap (λ n. byte_at n word) same
    where
      at : (first count k : ℕ) → k < count → get_or (bytes_low_first first count word) k 0 ≡ byte_at (first + k) word
      at first zero k less = omega (arith, less)
      at first (suc count) zero less =
          let same : first ≡ first + 0 = omega arith in
          ap (λ n. byte_at n word) same
      at first (suc count) (suc k) less =
          let same : suc first + k ≡ first + suc k = omega arith in
          at (suc first) count k (omega (arith, less)) ∙ ap (λ n. byte_at n word) same

  changed-is : from_le_bytes w64 changed + worth (byte_at i word) ≡ word + worth new
  changed-is =
      let sum = changed-sum (byte_at 0 word) (byte_at 1 word) (byte_at 2 word) (byte_at 3 word) (byte_at 4 word)
      (byte_at 5 word) (byte_at 6 word) (byte_at 7 word) new i i_in in
      ap (λ n. from_le_bytes w64 changed + worth n) (sym at-is) ∙ sum
      ∙ ap (λ n. n + worth new) (from_le_bytes-to_le_bytes_8 word fits)

  all-below : (k : ℕ) → get_or changed k 0 < 256
  all-below = set-below (to_le_bytes w64 word) (low_first-below 0 8 word) i new small

  pub changed-below : word + worth new < worth (byte_at i word) + 2 ^ 64
  changed-below = omega (arith, changed-is, word-below changed all-below)

  pub changed-bytes : (result : ℕ) → result + worth (byte_at i word) ≡ word + worth new
      → to_le_bytes w64 result ≡ changed
  changed-bytes result is =
      le_bytes_8 changed result (length-set (to_le_bytes w64 word) i new) all-below (omega (arith, changed-is, is))

pub byte-within : (word i : ℕ) → word < 2 ^ 64 → i < 8 → byte_at i word * 2 ^ (8 * i) ≤ word
byte-within word i fits i_in = omega (arith, changed-is word fits i 0 i_in (omega arith))

-- the word that shifts make
module _ (word old new position byte : ℕ) (fits : word < 2 ^ 64) (position_in : position < 8) (small : byte < 256)
    (old_is : old ≡ byte_at position word) (new_is : new ≡ byte) where
  shifted : (n : ℕ) → n < 256 → n * 2 ^ (8 * position) % 2 ^ 64 ≡ n * 2 ^ (8 * position)
  shifted n below = shl_whole n 8 (8 * position) 64 below (omega (arith, position_in))

  old-shifted : old * 2 ^ (8 * position) % 2 ^ 64 ≡ byte_at position word * 2 ^ (8 * position)
  old-shifted = ap (λ n. n * 2 ^ (8 * position) % 2 ^ 64) old_is
      ∙ shifted (byte_at position word) (byte_at-lt position word)

  new-shifted : new * 2 ^ (8 * position) % 2 ^ 64 ≡ byte * 2 ^ (8 * position)
  new-shifted = ap (λ n. n * 2 ^ (8 * position) % 2 ^ 64) new_is ∙ shifted byte small

  pub old-within : old * 2 ^ (8 * position) % 2 ^ 64 ≤ word
  old-within = subst (λ n. n ≤ word) (sym old-shifted) (byte-within word position fits position_in)

  abbrev result : ℕ
  result = word - old * 2 ^ (8 * position) % 2 ^ 64 + new * 2 ^ (8 * position) % 2 ^ 64

  result-is : result + byte_at position word * 2 ^ (8 * position) ≡ word + byte * 2 ^ (8 * position)
  result-is = by (old * 2 ^ (8 * position) % 2 ^ 64) (new * 2 ^ (8 * position) % 2 ^ 64)
      (byte_at position word * 2 ^ (8 * position)) (byte * 2 ^ (8 * position)) old-shifted new-shifted old-within
    where
      by : (a b m n : ℕ) → a ≡ m → b ≡ n → a ≤ word → word - a + b + m ≡ word + n
      by a b m n first second within = omega (arith, first, second, within)

  pub result-fits : result < 2 ^ 64
  result-fits =
      by result (byte_at position word * 2 ^ (8 * position)) (byte * 2 ^ (8 * position)) result-is
      (changed-below word fits position byte position_in small)
    where
      by : (r m n : ℕ) → r + m ≡ word + n → word + n < m + 2 ^ 64 → r < 2 ^ 64
      by r m n is below = omega (arith, is, below)

  pub result-bytes : to_le_bytes w64 result ≡ set (to_le_bytes w64 word) position byte
  result-bytes = changed-bytes word fits position byte position_in small result result-is

-- a changed entry is one of the list that the word shows
pub changed-list : (word made i : ℕ) (differential : ℤ) → IsByte differential
    → to_le_bytes w64 made ≡ set (to_le_bytes w64 word) i (cast_unsigned w8 differential)
    → bytes_of_word made ≡ set (bytes_of_word word) i differential
unfolding bytes_of_word
changed-list word made i differential is bytes =
    ap (map (cast_signed w8)) bytes
    ∙ map-set (cast_signed w8) (to_le_bytes w64 word) i (cast_unsigned w8 differential)
    ∙ ap (set (map (cast_signed w8) (to_le_bytes w64 word)) i)
    (to_z-of_z w8 differential (byte-fits differential is))
