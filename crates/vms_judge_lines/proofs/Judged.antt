-- Verdicts on events, with that on a further event.
use Rattle.std.proofs.Common.{◌≡◌, ℕ, ◌+◌, ◌≤◌, Bool, true, false, List, [], ◌∷◌, ◌++◌, length, take, refl, subst, sym}
use Rattle.std.proofs.Common.{arith, MatchBool}
use Rattle.vms_history.specs.Common.{Machine, IsLegal}
use Rattle.vms_history.specs.declared.events.Event.{Event}
use Rattle.vms_registers.specs.Shows.{Parts, Shows}
use Rattle.vms_judge_lines.specs.Verdicts.{AreJudged}

module _ {F K S : Type 0} (machine : Machine F K S) (facts : F) where
  -- the further event is taken
  pub AreJudged-taken : (h events : List (Event K)) (verdicts : List Bool) (last : List (Event K)) (e : Event K)
      → AreJudged machine facts h events verdicts last → IsLegal machine facts (e ∷ last)
      → AreJudged machine facts h (events ++ e ∷ []) (verdicts ++ true ∷ []) (e ∷ last)
  AreJudged-taken h [] [] last e same legal =
      subst (λ before. IsLegal machine facts (e ∷ before) × (e ∷ before ≡ e ∷ last)) (sym same) (legal, refl)
  AreJudged-taken h [] (b ∷ verdicts) last e none legal = absurd none
  AreJudged-taken h (d ∷ events) [] last e none legal = absurd none
  AreJudged-taken h (d ∷ events) (true ∷ verdicts) last e judged legal =
      (judged.0, AreJudged-taken (d ∷ h) events verdicts last e judged.1 legal)
  AreJudged-taken h (d ∷ events) (false ∷ verdicts) last e judged legal =
      (judged.0, AreJudged-taken h events verdicts last e judged.1 legal)

  -- the further event is not taken
  pub AreJudged-left : (h events : List (Event K)) (verdicts : List Bool) (last : List (Event K)) (e : Event K)
      → AreJudged machine facts h events verdicts last → ¬ IsLegal machine facts (e ∷ last)
      → AreJudged machine facts h (events ++ e ∷ []) (verdicts ++ false ∷ []) last
  AreJudged-left h [] [] last e same refused =
      subst (λ before. (¬ IsLegal machine facts (e ∷ before)) × (before ≡ last)) (sym same) (refused, refl)
  AreJudged-left h [] (b ∷ verdicts) last e none refused = absurd none
  AreJudged-left h (d ∷ events) [] last e none refused = absurd none
  AreJudged-left h (d ∷ events) (true ∷ verdicts) last e judged refused =
      (judged.0, AreJudged-left (d ∷ h) events verdicts last e judged.1 refused)
  AreJudged-left h (d ∷ events) (false ∷ verdicts) last e judged refused =
      (judged.0, AreJudged-left h events verdicts last e judged.1 refused)

  -- what the registers show after one more event
  module _ {R : Type 0} (cpus_of : F → ℕ) (Own : F → List (Event K) → (ℕ → ℕ) → R → Type 0) (events : List (Event K))
      (i : ℕ) (verdicts : List Bool) (h : List (Event K)) (e : Event K) (r : Parts R)
      (judged : AreJudged machine facts [] (take i events) verdicts h) (few : length h ≤ i)
      (more : take (i + 1) events ≡ take i events ++ e ∷ []) where
    pub shown-next : (b : Bool)
        → MatchBool b (IsLegal machine facts (e ∷ h) × Shows machine cpus_of Own facts (e ∷ h) r)
        ((¬ IsLegal machine facts (e ∷ h)) × Shows machine cpus_of Own facts h r)
        → (last : List (Event K)) × Shows machine cpus_of Own facts last r
        × AreJudged machine facts [] (take (i + 1) events) (verdicts ++ b ∷ []) last × (length last ≤ i + 1)
    shown-next true told = (
      e ∷ h,
      told.1,
      rw more (AreJudged-taken [] (take i events) verdicts h e judged told.0),
      omega (arith, few),
    )
    shown-next false told = (
      h,
      told.1,
      rw more (AreJudged-left [] (take i events) verdicts h e judged told.0),
      omega (arith, few),
    )
