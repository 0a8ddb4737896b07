-- One visit more, and one place more.
use Rattle.std.proofs.Common.{◌≡◌, ℕ, suc, ◌+◌, ◌-◌, ◌<◌, Bool, List, [], ◌∷◌, ◌++◌, sym, ap, ◌∙◌, arith, add-one}
use Rattle.std.proofs.Common.{append_assoc, append-nil}
use Rattle.vms_calls.specs.Common.{MarkRead, State, Step}
use Rattle.vms_rating_lines.specs.Lines.{step_lines}
use Rattle.vms_rating_lines.specs.ToldSteps.{found_at, places_told, thresholds_told, visit_told, visits_told}
use Rattle.vms_rating_lines.proofs.StepLines.{lines-both, lines-then}

module _ (s : State) (found : List MarkRead) (spares : ℕ → Bool) where
  abbrev visit_of : ℕ → List Step
  visit_of g = visit_told s (found_at found g) (spares (found_at found g).mark) g

  visits-more : (gs : List ℕ) (g : ℕ)
      → visits_told s found spares (gs ++ (g ∷ [])) ≡ visits_told s found spares gs ++ visit_of g
  visits-more [] g = append-nil (visit_of g)
  visits-more (f ∷ gs) g = ap (λ ys. visit_of f ++ ys) (visits-more gs g)
      ∙ sym (append_assoc (visit_of f) (visits_told s found spares gs) (visit_of g))

  pub visited-next : (p : ℕ) (gs all : List ℕ) (g : ℕ) (out between last : List ℕ) → all ≡ gs ++ (g ∷ [])
      → between ≡ out ++ step_lines p (visits_told s found spares gs) → last ≡ between ++ step_lines p (visit_of g)
      → last ≡ out ++ step_lines p (visits_told s found spares all)
  visited-next p gs all g out between last more begun ended =
      lines-both p (visits_told s found spares gs) (visit_of g) out between last begun ended
      ∙ ap (λ ks. out ++ step_lines p ks) (sym (visits-more gs g))
      ∙ ap (λ fs. out ++ step_lines p (visits_told s found spares fs)) (sym more)

module _ (p : ℕ) (s : State) where
  pub placed-next : (g end : ℕ) (out last whole : List ℕ) → g < end → last ≡ out ++ step_lines p (thresholds_told s g)
      → out ++ step_lines p (places_told s g (end - g)) ≡ whole
      → last ++ step_lines p (places_told s (g + 1) (end - (g + 1))) ≡ whole
  placed-next g end out last whole below written come =
      let left : end - g ≡ suc (end - (g + 1)) = omega (arith, below) in
      lines-then p (thresholds_told s g) out last (places_told s (g + 1) (end - (g + 1))) written
      ∙ ap (λ (m : ℕ). out ++ step_lines p (thresholds_told s g ++ places_told s m (end - (g + 1)))) (add-one g)
      ∙ ap (λ (n : ℕ). out ++ step_lines p (places_told s g n)) (sym left) ∙ come
