-- What a pass has made of its acts stays where another caller acts.
use Rattle.std.proofs.Common.{◌≡◌, ◌≢◌, ℕ, List, ◌∷◌, ap, ◌∙◌}
use Rattle.vms_world.specs.Common.{Event, MakesActs, act as one_act, Act}
use Rattle.vms_world.specs.Lanes.MakesActs.{none as no_act}
use Rattle.vms_history.proofs.Common.{own-others}
use Rattle.vms_written.specs.Common.{GoesAlong}
use Rattle.vms_written.specs.OpenPhases.GoesAlong.{between, within}

module _ {K : Type 0} (makes : Act → List (Event K) → List K → Type 0) (p : ℕ) (e : Event K) (others : e.caller ≢ p) where
  pub MakesActs-others : (acts : List Act) (h : List (Event K)) → MakesActs makes p acts h
      → MakesActs makes p acts (e ∷ h)
  MakesActs-others acts h (no_act same nothing) = no_act (e ∷ h) (own-others e h p others ∙ nothing)
  MakesActs-others acts h (one_act before next h' more steps made making own_is) =
      one_act before next h' (e ∷ more) steps made making (own-others e h p others ∙ own_is)

  pub GoesAlong-others : (acts : List Act) (h : List (Event K)) → GoesAlong makes p acts h
      → GoesAlong makes p acts (e ∷ h)
  GoesAlong-others acts h (between made left is makes_made) =
      between made left is (MakesActs-others made h makes_made)
  GoesAlong-others acts h (within made left next before more begun due is parts makes_made making own_is) =
      within made left next before (e ∷ more) begun due is (ap (λ (es : List (Event K)). e ∷ es) parts) makes_made making
      (own-others e h p others ∙ own_is)
