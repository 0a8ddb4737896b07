-- Lines of steps that are written one after another.
use Rattle.std.proofs.Common.{◌≡◌, ℕ, List, [], ◌∷◌, ◌++◌, refl, sym, ap, ◌∙◌, append_assoc, append-nil}
use Rattle.vms_calls.specs.Common.{Step}
use Rattle.vms_written_lines.specs.Spelling.{event_line}
use Rattle.vms_written_lines.specs.WideSteps.{widened}
use Rattle.vms_rating_lines.specs.Lines.{step_lines}

module _ (p : ℕ) where
  pub lines-append : (first rest : List Step) → step_lines p (first ++ rest) ≡ step_lines p first ++ step_lines p rest
  lines-append [] rest = refl
  lines-append (x ∷ first) rest =
      ap (λ ys. event_line p (widened x) ++ ys) (lines-append first rest)
      ∙ sym (append_assoc (event_line p (widened x)) (step_lines p first) (step_lines p rest))

  -- the lines of one step, and then those that are left
  pub lines-step : (x : Step) (out out' : List ℕ) (rest : List Step) → out' ≡ out ++ event_line p (widened x)
      → out' ++ step_lines p rest ≡ out ++ step_lines p (x ∷ rest)
  lines-step x out out' rest written =
      ap (λ ys. ys ++ step_lines p rest) written
      ∙ append_assoc out (event_line p (widened x)) (step_lines p rest)

  -- the lines of some steps, and then those that are left
  pub lines-then : (xs : List Step) (out out' : List ℕ) (rest : List Step) → out' ≡ out ++ step_lines p xs
      → out' ++ step_lines p rest ≡ out ++ step_lines p (xs ++ rest)
  lines-then xs out out' rest written =
      ap (λ ys. ys ++ step_lines p rest) written ∙ append_assoc out (step_lines p xs) (step_lines p rest)
      ∙ ap (λ ys. out ++ ys) (sym (lines-append xs rest))

  -- nothing is left
  pub lines-end : (out out' : List ℕ) → out' ++ step_lines p [] ≡ out → out' ≡ out
  lines-end out out' all = sym (append-nil out') ∙ all

  -- some steps, one, and then others
  pub lines-around : (first : List Step) (x : Step) (rest : List Step) (out one two last : List ℕ)
      → one ≡ out ++ step_lines p first → two ≡ one ++ event_line p (widened x) → last ≡ two ++ step_lines p rest
      → last ≡ out ++ step_lines p (first ++ (x ∷ rest))
  lines-around first x rest out one two last begun then ended =
      ended ∙ lines-step x one two rest then ∙ lines-then first out one (x ∷ rest) begun

  -- some steps, and then others
  pub lines-both : (first rest : List Step) (out between last : List ℕ) → between ≡ out ++ step_lines p first
      → last ≡ between ++ step_lines p rest → last ≡ out ++ step_lines p (first ++ rest)
  lines-both first rest out between last begun ended = ended ∙ lines-then first out between rest begun
