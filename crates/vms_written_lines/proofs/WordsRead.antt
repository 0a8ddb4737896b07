-- Where the bytes of a line are blanks and bytes of words.
use Rattle.std.proofs.Common.{ℕ, suc, ◌≡◌, ◌+◌, ◌-◌, ◌&&◌, Bool, true, not, List, [], ◌∷◌, ◌++◌, refl, sym, ◌∙◌, ap}
use Rattle.std.proofs.Common.{arith, take, drop, length}
use Rattle.std.proofs.Math.Bool.{and_assoc}
use Rattle.std.proofs.lemmas.List.{drop-drop, take-append-drop, take_rest}
use Rattle.std.proofs.lemmas.List.Folds.{list_all-append}
use Rattle.std.specs.List.{All}
use Rattle.vms_text.specs.Common.{IsNextWord, is_clean, is_word_byte, is_wrong_byte}
use Rattle.vms_text.proofs.Pieces.{clean-word}

pub is_clean-word : (word : List ℕ) → All (λ byte. is_word_byte byte ≡ true) word → is_clean word ≡ true
is_clean-word [] bytes = refl
is_clean-word (byte ∷ word) bytes =
    ap (λ b. b && is_clean word) (clean-word byte (bytes 0 0 (omega arith)))
    ∙ is_clean-word word (λ k d below. bytes (suc k) d (omega arith))

pub is_clean-append : (before after : List ℕ) → is_clean (before ++ after) ≡ (is_clean before && is_clean after)
is_clean-append before after = list_all-append (λ byte. not (is_wrong_byte byte)) before after

is_clean-cut : (line : List ℕ) (n : ℕ) → is_clean line ≡ (is_clean (take n line) && is_clean (drop n line))
is_clean-cut line n = ap is_clean (sym (take-append-drop n line)) ∙ is_clean-append (take n line) (drop n line)

-- the bytes before a line's first word and those after it
is_clean-parts : (line : List ℕ) (begin end : ℕ) → IsNextWord line 0 begin end
    → is_clean line ≡ (is_clean (take begin line) && is_clean (drop end line))
is_clean-parts line begin end word =
    let far : begin + (end - begin) ≡ end = omega (arith, word.filled) in
    let rest = drop-drop (end - begin) begin line ∙ ap (λ n. drop n line) far in
    is_clean-cut line begin
    ∙ ap (λ b. is_clean (take begin line) && b) (is_clean-cut (drop begin line) (end - begin)
    ∙ ap (λ b. b && is_clean (drop (end - begin) (drop begin line))) (is_clean-word (take (end - begin) (drop begin line)) word.of_word_bytes)
    ∙ ap is_clean rest)

pub is_clean-next : (clean first : Bool) (line : List ℕ) (begin end : ℕ) → IsNextWord line 0 begin end
    → first ≡ is_clean (take begin line)
    → ((clean && first) && is_clean (take (length line - end) (drop end line))) ≡ (clean && is_clean line)
is_clean-next clean first line begin end word is =
    ap (λ b. (clean && first) && is_clean b) (take_rest line end)
    ∙ and_assoc clean first (is_clean (drop end line))
    ∙ ap (λ b. clean && (b && is_clean (drop end line))) is
    ∙ ap (λ b. clean && b) (sym (is_clean-parts line begin end word))
