-- The passes of lanes end one after another, and their lines are written.
use Rattle.std.proofs.Common.{◌≡◌, ℕ, zero, suc, ◌+◌, ◌<◌, List, [], ◌∷◌, ◌++◌, length, take, refl, sym, ap, subst, ◌∙◌}
use Rattle.std.proofs.Common.{arith}
use Rattle.vms_world.specs.Common.{Lane, after}
use Rattle.vms_core.specs.declared.steps.Step.TheVariants.{Join}
use Rattle.vms_core.specs.Pages.{History}
use Rattle.vms_written_lines.specs.Spelling.{event_line}
use Rattle.vms_written_lines.specs.WideSteps.{widened}
use Rattle.vms_file_order.specs.Common.{closing_of, ends_from, page_passes}
use Rattle.vms_phase_lines.specs.Common.{event_lines}
use Rattle.vms_phase_lines.proofs.EventLines.{lines-more}

take-all : (lanes : List Lane) → take (length lanes) lanes ≡ lanes
take-all [] = refl
take-all (lane ∷ lanes) = ap (λ (ls : List Lane). lane ∷ ls) (take-all lanes)

ends-more : (m n : ℕ) (lanes : List Lane) (g : History) → n < length lanes
    → after 0 (ends_from page_passes m (take (suc n) lanes)) g
    ≡ record { caller = 0; step = Join (m + n) } ∷ after 0 (ends_from page_passes m (take n lanes)) g
ends-more m n [] g below = absurd (omega arith)
ends-more m zero (lane ∷ lanes) g below =
    let at : m + 0 ≡ m = omega arith in
    ap (λ (q : ℕ). record { caller = 0; step = Join q } ∷ g) (sym at)
ends-more m (suc n) (lane ∷ lanes) g below =
    let at : suc m + n ≡ m + suc n = omega arith in
    ends-more (suc m) n lanes (record { caller = 0; step = Join m } ∷ g) (omega arith)
    ∙ ap (λ (q : ℕ). record { caller = 0; step = Join q }
    ∷ after 0 (ends_from page_passes (suc m) (take n lanes)) (record { caller = 0; step = Join m } ∷ g)) at

-- the passes of the first n lanes end
abbrev pub ended_first : List Lane → ℕ → History
ended_first lanes n = after 0 (ends_from page_passes 1 (take n lanes)) []

ended-next : (lanes : List Lane) (n : ℕ) → n < length lanes
    → record { caller = 0; step = Join (n + 1) } ∷ ended_first lanes n ≡ ended_first lanes (n + 1)
ended-next lanes n below =
    let at : n + 1 ≡ 1 + n = omega arith in
    let next : n + 1 ≡ suc n = omega arith in
    ap (λ (q : ℕ). record { caller = 0; step = Join q } ∷ ended_first lanes n) at
    ∙ sym (ends-more 1 n lanes [] below) ∙ ap (λ (m : ℕ). ended_first lanes m) (sym next)

module _ (lanes : List Lane) (n : ℕ) (out out' : List ℕ) (lines : out' ≡ out ++ event_lines (ended_first lanes n)) where
  pub lines-ended : n < length lanes → (last : List ℕ) → last ≡ out' ++ event_line 0 (widened (Join (n + 1)))
      → last ≡ out ++ event_lines (ended_first lanes (n + 1))
  lines-ended below last line =
      lines-more out out' last (ended_first lanes n) 0 (Join (n + 1)) lines line
      ∙ ap (λ (g : History). out ++ event_lines g) (ended-next lanes n below)

  -- all have ended
  pub lines-all_ended : n ≡ length lanes → out' ≡ out ++ event_lines (closing_of page_passes lanes [])
  lines-all_ended is =
      subst (λ (ls : List Lane). out' ≡ out ++ event_lines (after 0 (ends_from page_passes 1 ls) []))
      (ap (λ (m : ℕ). take m lanes) is ∙ take-all lanes) lines
