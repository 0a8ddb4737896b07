-- For other crates too: steps that set no threshold and look at no acknowledgement leave the peaks as they were.
use Rattle.std.proofs.Common.{◌≡◌, ℕ, List, [], ◌∷◌, refl, sym, ◌∙◌}
use Rattle.vms_calls.specs.Common.{Event, after, Facts, Step, LoadA, SetT, History, peak, peak_after}
use Rattle.vms_calls.proofs.Common.{Each, OfFolds, OfLooks}
use Rattle.vms_plain_control.specs.Common.{KnowsPeaks}

-- a step that neither sets a threshold nor looks what was acknowledged
abbrev pub LeavesPeaks : Step → Type 0
LeavesPeaks (SetT c g t) = ⊥
LeavesPeaks (LoadA c g x) = ⊥
LeavesPeaks _ = Unit {0}

leaves-one : (step : Step) → LeavesPeaks step → (number threshold c g before : ℕ)
    → peak_after number threshold c g step before ≡ before
leaves-one (SetT d f t) leaves number threshold c g before = absurd leaves
leaves-one (LoadA d f x) leaves number threshold c g before = absurd leaves
leaves-one _ leaves number threshold c g before = refl

module _ (facts : Facts) (p : ℕ) where
  leaves-all : (steps : List Step) → Each LeavesPeaks steps → (c g : ℕ) (h : History)
      → peak facts c g (after p steps h) ≡ peak facts c g h
  leaves-all [] leave c g h = refl
  leaves-all (step ∷ steps) leave c g h =
      let event : Event Step = record { caller = p; step = step } in
      leaves-all steps leave.1 c g (event ∷ h) ∙ leaves-one step leave.0 _ _ c g (peak facts c g h)

  pub KnowsPeaks-left : (steps : List Step) → Each LeavesPeaks steps → (h : History) (peaks : List ℕ)
      → KnowsPeaks facts h peaks → KnowsPeaks facts (after p steps h) peaks
  KnowsPeaks-left steps leave h peaks known = record {
    full = known.full;
    each = λ c g c_in zone. known.each c g c_in zone ∙ sym (leaves-all steps leave c g h);
  }

-- looks and folds are of such steps
pub looks-leave : OfLooks LeavesPeaks
looks-leave = record {
  value = λ k v. tt;
  system = λ i v. tt;
  group = λ c j w. tt;
  mark = λ g m a. tt;
  cpu = λ c x. tt;
}

pub folds-leave : OfFolds LeavesPeaks
folds-leave = record {
  threshold = λ g t a. tt;
  take = λ c j w. tt;
  place = λ k z. tt;
  system = λ i z. tt;
  acknowledge = λ g a. tt;
}
