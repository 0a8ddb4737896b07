-- The control pass knows peaks, thresholds, marks and the CPUs' states by its own steps.
use Rattle.std.proofs.Common.{◌≡◌, ◌≢◌, ℕ, List, [], ◌∷◌, None, refl, sym, ap, ◌∙◌, subst, arith}
use Rattle.vms_history.specs.Common.{after, owner, owner_in}
use Rattle.vms_history.proofs.Common.{own-after_others, live_is_given, prefix_is_legal}
use Rattle.vms_core.specs.declared.steps.Facts.{Facts}
use Rattle.vms_core.specs.declared.steps.Step.{Step}
use Rattle.vms_core.specs.declared.steps.Step.TheVariants.{SetM}
use Rattle.vms_calls.specs.Common.{mark_left, mark_left_by, KnowsByOwnSteps, HasMade}
use Rattle.vms_core.specs.Common.{pages, History, IsLegal, role}
use Rattle.vms_calls.proofs.Agreement.{Agrees, event, mark_in, mark_at-told, made-agrees}
use Rattle.vms_calls.proofs.RatingCovers.{SamePeaks-after, peak_sum-same}
use Rattle.vms_core.proofs.Common.{mark_after}

mark_left_by-after : (g m : ℕ) (step : Step) → mark_after g step m ≡ mark_left_by g step m
mark_left_by-after g m (SetM f mark) = refl
mark_left_by-after g m _ = refl

mark_in-after : (facts : Facts) (p g : ℕ) (steps : List Step) (h : History)
    → mark_in facts g (after p steps h) ≡ mark_left g (mark_in facts g h) steps
mark_in-after facts p g [] h = refl
mark_in-after facts p g (step ∷ steps) h =
    mark_in-after facts p g steps (event facts p step ∷ h)
    ∙ ap (λ m. mark_left g m steps) (mark_left_by-after g (mark_in facts g h) step)

module _ (facts : Facts) (later earlier : History) (p : ℕ) (steps : List Step)
    (has : HasMade facts later earlier p steps) where
  legal : IsLegal facts earlier
  legal = prefix_is_legal pages facts has.extends.0 earlier (subst (IsLegal facts) has.extends.1 has.legal)

  given : p ≢ 0
  given main = let first = (live_is_given pages facts earlier p legal has.lived).0 in absurd (omega arith)

  agrees : Agrees facts p later (after p steps earlier)
  agrees = made-agrees facts p earlier given legal steps later has

  owner_same : owner_in role (after p steps earlier) p ≡ owner_in role earlier p
  owner_same = ap (λ es. owner role es p) (own-after_others p steps earlier 0 (λ main. given (sym main)))

pub KnowsByOwnSteps-holds : KnowsByOwnSteps
KnowsByOwnSteps-holds facts later earlier p steps has control =
    let agrees = agrees facts later earlier p steps has in
    let none : owner_in role (after p steps earlier) p ≡ None =
    owner_same facts later earlier p steps has ∙ control in
    let legal = legal facts later earlier p steps has in
    record {
      sets = λ c g. (agrees.peaks none g).same_sets c;
      thresholds = λ c g. (agrees.peaks none g).same_thresholds c;
      peaks = λ c g. (agrees.peaks none g).same_peaks c;
      cpus = λ c. (agrees.peaks none 0).same_cpus c;
      marks = λ g.
          mark_at-told facts later has.legal g ∙ agrees.marks none g ∙ mark_in-after facts p g steps earlier
          ∙ ap (λ m. mark_left g m steps) (sym (mark_at-told facts earlier legal g));
      peak_sums = λ more g.
          peak_sum-same facts g (after p more later) (after p more (after p steps earlier))
          (SamePeaks-after facts g p more later (after p steps earlier) (agrees.peaks none g));
    }
