-- What steps leave of a state that set thresholds and marks of some places.
use Rattle.std.proofs.Common.{◌≡◌, ◌≢◌, ℕ, List, [], ◌∷◌, refl, subst, ◌∙◌}
use Rattle.vms_calls.specs.Common.{HasShape, IsPlace, Shape, State, mark_at, mark_sets_at, threshold_at}

-- place f is none of these
abbrev pub IsApart : ℕ → List ℕ → Type 0
IsApart f [] = Unit {0}
IsApart f (g ∷ gs) = (f ≢ g) × IsApart f gs

-- the CPUs and their acknowledgements stay, and thresholds and marks of these places
pub record Leaves (shape : Shape) (Left : ℕ → Type 0) (s next : State) : Type 0 where
  pub cpus : next.cpu ≡ s.cpu
  pub acknowledged : next.acknowledged ≡ s.acknowledged
  pub shaped : HasShape shape next
  pub marks : (f : ℕ) → Left f → mark_at next f ≡ mark_at s f
  pub numbers : (f : ℕ) → Left f → mark_sets_at next f ≡ mark_sets_at s f
  pub thresholds : (c f : ℕ) → IsPlace shape f → Left f → threshold_at next c f ≡ threshold_at s c f

module _ (shape : Shape) where
  pub leaves-same : (Left : ℕ → Type 0) (s next : State) → HasShape shape s → s ≡ next → Leaves shape Left s next
  leaves-same Left s next shaped same = subst (Leaves shape Left s) same (record {
    cpus = refl;
    acknowledged = refl;
    shaped = shaped;
    marks = λ f left. refl;
    numbers = λ f left. refl;
    thresholds = λ c f f_in left. refl;
  })

  pub leaves-both : (Left : ℕ → Type 0) (s mid next : State) → Leaves shape Left s mid → Leaves shape Left mid next
      → Leaves shape Left s next
  leaves-both Left s mid next first second = record {
    cpus = second.cpus ∙ first.cpus;
    acknowledged = second.acknowledged ∙ first.acknowledged;
    shaped = second.shaped;
    marks = λ f left. second.marks f left ∙ first.marks f left;
    numbers = λ f left. second.numbers f left ∙ first.numbers f left;
    thresholds = λ c f f_in left. second.thresholds c f f_in left ∙ first.thresholds c f f_in left;
  }

  pub leaves-fewer : (Left Fewer : ℕ → Type 0) (s next : State) → ((f : ℕ) → Fewer f → Left f)
      → Leaves shape Left s next → Leaves shape Fewer s next
  leaves-fewer Left Fewer s next fewer leaves = record {
    cpus = leaves.cpus;
    acknowledged = leaves.acknowledged;
    shaped = leaves.shaped;
    marks = λ f left. leaves.marks f (fewer f left);
    numbers = λ f left. leaves.numbers f (fewer f left);
    thresholds = λ c f f_in left. leaves.thresholds c f f_in (fewer f left);
  }
