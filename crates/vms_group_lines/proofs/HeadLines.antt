-- No line of a header has more than three words: the first eight tell as much as all.
use Rattle.std.proofs.Common.{ℕ, ◌≡◌, ◌≤◌, Bool, false, cond, nat_lt, List, [], ◌∷◌, length, take, Ok, Err, refl, sym}
use Rattle.std.proofs.Common.{ap, ◌∙◌, arith}
use Rattle.std.proofs.lemmas.Bool.Decides.{nat_tests}
use Rattle.vms_text.specs.Common.{is_clean, is_ignored, words_of}
use Rattle.vms_group_lines.specs.declared.causes.GroupCause.TheVariants.{LineTooLong}
use Rattle.vms_group_lines.specs.declared.stages.GroupStage.{GroupStage}
use Rattle.vms_group_lines.specs.declared.stages.GroupStage.TheVariants.{Opening, Versioned, Declaring}
use Rattle.vms_group_lines.specs.declared.stages.HeadStep.TheVariants.{Goes}
use Rattle.vms_group_lines.specs.Common.{group_head_line, stage_line}

stage_line-long : (stage : GroupStage) (clean : Bool) (a b c d : List ℕ) (words others : List (List ℕ))
    → stage_line stage clean (a ∷ b ∷ c ∷ d ∷ words) ≡ stage_line stage clean (a ∷ b ∷ c ∷ d ∷ others)
stage_line-long Opening clean a b c d words others = refl
stage_line-long Versioned clean a b c d words others = refl
stage_line-long (Declaring header) clean a b c d words others = refl

stage_line-eight : (stage : GroupStage) (clean : Bool) (words : List (List ℕ))
    → stage_line stage clean (take 8 words) ≡ stage_line stage clean words
stage_line-eight stage clean [] = refl
stage_line-eight stage clean (a ∷ []) = refl
stage_line-eight stage clean (a ∷ b ∷ []) = refl
stage_line-eight stage clean (a ∷ b ∷ c ∷ []) = refl
stage_line-eight stage clean (a ∷ b ∷ c ∷ d ∷ words) = stage_line-long stage clean a b c d (take 4 words) words

-- a line that is neither too long nor ignored is what its first eight words say
pub group_head_line-words : (stage : GroupStage) (line : List ℕ) (clean : Bool) (words : List (List ℕ))
    → length line ≤ 200 → is_ignored line ≡ false → clean ≡ is_clean line → words ≡ take 8 (words_of line)
    → group_head_line stage line ≡ stage_line stage clean words
group_head_line-words stage line clean words short read clean_is words_are =
    ap (λ test. cond test (Err LineTooLong)
    (cond (is_ignored line) (Ok (Goes stage)) (stage_line stage (is_clean line) (words_of line))))
    (within (length line) short)
    ∙ ap (λ test. cond test (Ok (Goes stage)) (stage_line stage (is_clean line) (words_of line))) read
    ∙ sym (ap (λ words. stage_line stage clean words) words_are
    ∙ ap (λ clean. stage_line stage clean (take 8 (words_of line))) clean_is
    ∙ stage_line-eight stage (is_clean line) (words_of line))
  where
    within : (n : ℕ) → n ≤ 200 → nat_lt 200 n ≡ false
    within n short = grind (arith, nat_tests)
