-- What a line of the body says by its first words.
use Rattle.std.proofs.Common.{ℕ, ◌≡◌, ◌≤◌, true, false, nat_lt, List, [], ◌∷◌, length, take, Err, refl, sym, ap, ◌∙◌}
use Rattle.std.proofs.Common.{arith}
use Rattle.std.proofs.lemmas.Bool.Decides.{nat_tests}
use Rattle.vms_text.specs.Common.{is_clean, is_ignored, words_of}
use Rattle.vms_group_lines.specs.declared.causes.GroupCause.TheVariants.{Malformed}
use Rattle.vms_group_lines.specs.declared.headers.GroupHeader.{GroupHeader}
use Rattle.vms_group_lines.specs.Common.{lane_line, read_group_line, read_words}

-- a lane's line has two or three words after the lane's
pub lane_line-one : (header : GroupHeader) (n : ℕ) (words : List (List ℕ)) → length words ≤ 1
    → lane_line header n words ≡ Err Malformed
lane_line-one header n [] few = refl
lane_line-one header n (verb ∷ []) few = refl
lane_line-one header n (verb ∷ name ∷ words) few = absurd (omega (arith, few))

pub lane_line-long : (header : GroupHeader) (n : ℕ) (words : List (List ℕ)) → 4 ≤ length words
    → lane_line header n words ≡ Err Malformed
lane_line-long header n [] long = refl
lane_line-long header n (verb ∷ []) long = refl
lane_line-long header n (verb ∷ name ∷ []) long = absurd (omega (arith, long))
lane_line-long header n (verb ∷ name ∷ delta ∷ []) long = absurd (omega (arith, long))
lane_line-long header n (verb ∷ name ∷ delta ∷ other ∷ words) long = refl

-- no line has more than four words
read_words-eight : (header : GroupHeader) (words : List (List ℕ))
    → read_words header (take 8 words) ≡ read_words header words
read_words-eight header [] = refl
read_words-eight header (a ∷ []) = refl
read_words-eight header (a ∷ b ∷ []) = refl
read_words-eight header (a ∷ b ∷ c ∷ []) = refl
read_words-eight header (a ∷ b ∷ c ∷ d ∷ []) = refl
read_words-eight header (a ∷ b ∷ c ∷ d ∷ e ∷ words) = refl

-- a line of words that isn't ignored
pub read_group_line-words : (header : GroupHeader) (line : List ℕ) (words : List (List ℕ)) → length line ≤ 200
    → is_ignored line ≡ false → is_clean line ≡ true → words ≡ take 8 (words_of line)
    → read_words header words ≡ read_group_line header line
read_group_line-words header line words within ignored clean are =
    let short : nat_lt 200 (length line) ≡ false = grind (arith, nat_tests) in
    ap (read_words header) are ∙ read_words-eight header (words_of line) ∙ sym (rw (short, ignored, clean) refl)
