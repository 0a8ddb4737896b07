-- The first word of a line that begins with it.
use Rattle.std.proofs.Common.{ℕ, ◌≡◌, ◌+◌, ◌<◌, ◌≤◌, ◌&&◌, Bool, true, false, not, List, ◌∷◌, ◌++◌, ◌⊎◌, inl, inr, refl}
use Rattle.std.proofs.Common.{sym, subst, ◌∙◌, ap, arith, take, drop, get_or, length}
use Rattle.std.proofs.lemmas.List.{at_drop_all, drop_more, get_or-take, length-take-le, take-append-drop, take_all}
use Rattle.std.proofs.lemmas.List.Sums.{fails_before_first, passes_at_first, prefix_len-le-length}
use Rattle.std.specs.List.{All, position_or_len}
use Rattle.vms_text.specs.Common.{is_clean, is_word_byte, words_of}
use Rattle.vms_text.proofs.Cuts.{not-false}
use Rattle.vms_text.proofs.Words.{is_other, words_of-last, words_of-word}
use Rattle.vms_text.proofs.Common.{words_of-other}
use Rattle.vms_written_lines.proofs.WordsRead.{is_clean-append, is_clean-word}

run-bytes : (line : List ℕ) → All (λ byte. is_word_byte byte ≡ true) (take (position_or_len is_other line) line)
run-bytes line = λ k d below.
    let size = position_or_len is_other line in
    let short : k < size =
    omega (arith, length-take-le size line (prefix_len-le-length (λ byte. not (is_other byte)) line), below) in
    subst (λ byte. is_word_byte byte ≡ true) (sym (get_or-take size line k d short))
    (not-false (is_word_byte (get_or line k d)) (fails_before_first is_other line k d short))

-- the first word of a line that begins with so many bytes of it
pub record BeginsWord (line : List ℕ) (size : ℕ) : Type 0 where
  pub within : size ≤ length line
  pub words : words_of line ≡ take size line ∷ words_of (drop size line)
  pub clean : is_clean line ≡ is_clean (drop size line)

other_byte : (b : Bool) → not b ≡ true → b ≡ false
other_byte true is = absurd cc
other_byte false is = refl

less_or_not : (m n : ℕ) → (m < n) ⊎ (n ≤ m)
less_or_not m n = grind arith

run-words : (line : List ℕ) (size : ℕ) → size ≡ position_or_len is_other line → 0 < size → size ≤ length line
    → All (λ byte. is_word_byte byte ≡ true) (take size line) → (size < length line) ⊎ (length line ≤ size)
    → words_of line ≡ take size line ∷ words_of (drop size line)
run-words line size is some within bytes (inl more) =
    let byte = get_or line size 0 in
    let rest = drop (size + 1) line in
    let parts = drop_more line size 0 more in
    let filled : 0 < length (take size line) = omega (arith, length-take-le size line within) in
    let ends : is_word_byte byte ≡ false =
    ap (λ n. is_word_byte (get_or line n 0)) is
    ∙ other_byte (is_word_byte (get_or line (position_or_len is_other line) 0))
    (passes_at_first is_other line 0 (omega (arith, is, more))) in
    ap words_of (sym (take-append-drop size line) ∙ ap (λ tail. take size line ++ tail) parts)
    ∙ words_of-word (take size line) byte rest filled bytes ends
    ∙ ap (λ words. take size line ∷ words) (sym (ap words_of parts ∙ words_of-other byte rest ends))
run-words line size is some within bytes (inr none) =
    let filled : 0 < length (take size line) = omega (arith, length-take-le size line within) in
    ap words_of (sym (take_all size line none))
    ∙ words_of-last (take size line) filled bytes
    ∙ ap (λ rest. take size line ∷ words_of rest) (sym (at_drop_all (λ left. left) line size none))

pub BeginsWord-run : (line : List ℕ) (size : ℕ) → size ≡ position_or_len is_other line → 0 < size → BeginsWord line size
BeginsWord-run line size is some =
    let bytes : All (λ byte. is_word_byte byte ≡ true) (take size line) =
    subst (λ n. All (λ byte. is_word_byte byte ≡ true) (take n line)) (sym is) (run-bytes line) in
    let within : size ≤ length line = omega (arith, is, prefix_len-le-length (λ byte. not (is_other byte)) line) in
    record {
      within = within;
      words = run-words line size is some within bytes (less_or_not size (length line));
      clean = ap is_clean (sym (take-append-drop size line)) ∙ is_clean-append (take size line) (drop size line)
          ∙ ap (λ b. b && is_clean (drop size line)) (is_clean-word (take size line) bytes);
    }
