-- No line of a header has more than seven words: eight tell as much as all.
use Rattle.std.proofs.Common.{ℕ, ◌≡◌, ◌≤◌, Bool, false, cond, nat_lt, List, [], ◌∷◌, length, take, Option, Some, None}
use Rattle.std.proofs.Common.{Ok, Err, refl, sym, ap, ◌∙◌, arith}
use Rattle.std.proofs.lemmas.Bool.Decides.{nat_tests}
use Rattle.vms_header.specs.declared.causes.HeaderCause.TheVariants.{LineTooLong, Malformed}
use Rattle.vms_header.specs.Common.{Draft, Share, Stage, draft_line, head_line, stage_line, Opening, Versioned}
use Rattle.vms_header.specs.Common.{Drafting, Goes, any_zone_row}
use Rattle.vms_text.specs.Common.{is_clean, is_ignored, words_of}

module _ (a b c d e f g h : List ℕ) (words : List (List ℕ)) where
  any_zone-long : (draft : Draft) (share : Option Share)
      → any_zone_row draft share (b ∷ c ∷ d ∷ e ∷ f ∷ g ∷ h ∷ words) ≡ any_zone_row draft
      share (b ∷ c ∷ d ∷ e ∷ f ∷ g ∷ h ∷ [])
  any_zone-long draft None = refl
  any_zone-long draft (Some share) = refl

  draft_line-long : (draft : Draft)
      → draft_line draft (a ∷ b ∷ c ∷ d ∷ e ∷ f ∷ g ∷ h ∷ []) ≡ draft_line draft (a ∷ b ∷ c ∷ d ∷ e ∷ f ∷ g ∷ h ∷ words)
  draft_line-long draft = rw (any_zone-long draft draft.share) refl

  stage_line-long : (stage : Stage) (clean : Bool)
      → stage_line stage clean (a ∷ b ∷ c ∷ d ∷ e ∷ f ∷ g ∷ h ∷ []) ≡ stage_line stage
      clean (a ∷ b ∷ c ∷ d ∷ e ∷ f ∷ g ∷ h ∷ words)
  stage_line-long Opening clean = refl
  stage_line-long (Versioned wide) clean = refl
  stage_line-long (Drafting draft) clean = ap (λ step. cond clean step (Err Malformed)) (draft_line-long draft)

stage_line-eight : (stage : Stage) (clean : Bool) (words : List (List ℕ))
    → stage_line stage clean (take 8 words) ≡ stage_line stage clean words
stage_line-eight stage clean [] = refl
stage_line-eight stage clean (a ∷ []) = refl
stage_line-eight stage clean (a ∷ b ∷ []) = refl
stage_line-eight stage clean (a ∷ b ∷ c ∷ []) = refl
stage_line-eight stage clean (a ∷ b ∷ c ∷ d ∷ []) = refl
stage_line-eight stage clean (a ∷ b ∷ c ∷ d ∷ e ∷ []) = refl
stage_line-eight stage clean (a ∷ b ∷ c ∷ d ∷ e ∷ f ∷ []) = refl
stage_line-eight stage clean (a ∷ b ∷ c ∷ d ∷ e ∷ f ∷ g ∷ []) = refl
stage_line-eight stage clean (a ∷ b ∷ c ∷ d ∷ e ∷ f ∷ g ∷ h ∷ words) = stage_line-long a b c d e f g h words stage clean

-- a line that is neither too long nor ignored is what its first eight words say
pub head_line-words : (stage : Stage) (line : List ℕ) (clean : Bool) (words : List (List ℕ)) → length line ≤ 200
    → is_ignored line ≡ false → clean ≡ is_clean line → words ≡ take 8 (words_of line)
    → head_line stage line ≡ stage_line stage clean words
head_line-words stage line clean words short read clean_is words_are =
    ap (λ test. cond test (Err LineTooLong)
    (cond (is_ignored line) (Ok (Goes stage)) (stage_line stage (is_clean line) (words_of line))))
    (within (length line) short)
    ∙ ap (λ test. cond test (Ok (Goes stage)) (stage_line stage (is_clean line) (words_of line))) read
    ∙ sym (ap (λ words. stage_line stage clean words) words_are
    ∙ ap (λ clean. stage_line stage clean (take 8 (words_of line))) clean_is
    ∙ stage_line-eight stage (is_clean line) (words_of line))
  where
    within : (n : ℕ) → n ≤ 200 → nat_lt 200 n ≡ false
    within n short = grind (arith, nat_tests)
