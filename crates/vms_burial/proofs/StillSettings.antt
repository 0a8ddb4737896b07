-- While the control pass makes steps that set nothing, no threshold and no mark is set.
use Rattle.std.proofs.Common.{◌≡◌, ◌≢◌, ℕ, nat_eq, Bool, true, false, List, [], ◌∷◌, ◌++◌, None, refl, sym, ap, ◌∙◌}
use Rattle.std.proofs.Common.{subst, if◌then◌else◌}
use Rattle.std.proofs.lemmas.Bool.{eqb-false}
use Rattle.vms_world.specs.Common.{IsPlace, Event, own, after, lives_in, owner_in, HasMade, Facts, Step, SetT, SetM}
use Rattle.vms_world.specs.Common.{mark_sets_at, threshold_sets_at, pages}
use Rattle.vms_history.proofs.Common.{holds_while_live, made-given, own-on_top, owner_acts_alone}
use Rattle.vms_calls.proofs.Common.{Each, OfFolds}
use Rattle.vms_core.specs.Pages.{History, IsLegal, state_after}
use Rattle.vms_core.specs.Steps.{role}
use Rattle.vms_core.proofs.Common.{mark_sets_at-newest, sets-newest}

-- a step that sets no threshold and no mark
abbrev pub SetsNothing : Step → Type 0
SetsNothing (SetT c g t) = ⊥
SetsNothing (SetM g m) = ⊥
SetsNothing _ = Unit {0}

pub folds-set_nothing : OfFolds SetsNothing
folds-set_nothing = record {
  threshold = λ g t a. tt;
  take = λ c j w. tt;
  place = λ k z. tt;
  system = λ i z. tt;
  acknowledge = λ g a. tt;
}

-- thresholds and marks were set as often as before
pub record StandStill (facts : Facts) (later earlier : History) : Type 0 where
  pub thresholds : (c g : ℕ) → IsPlace facts.layout g →
      threshold_sets_at (state_after facts later) c g ≡ threshold_sets_at (state_after facts earlier) c g
  pub marks : (g : ℕ) → mark_sets_at (state_after facts later) g ≡ mark_sets_at (state_after facts earlier) g

-- these events set nothing
abbrev AllSetNothing : History → Type 0
AllSetNothing [] = Unit {0}
AllSetNothing (e ∷ h) = SetsNothing e.step × AllSetNothing h

all-after : (p : ℕ) (steps : List Step) (h : History) → Each SetsNothing steps → AllSetNothing h
    → AllSetNothing (after p steps h)
all-after p [] h each all = all
all-after p (k ∷ ks) h each all = all-after p ks (record { caller = p; step = k } ∷ h) each.1 (each.0, all)

module _ (facts : Facts) where
  still-newest : (q : ℕ) (k : Step) (h : History) → IsLegal facts (record { caller = q; step = k } ∷ h)
      → SetsNothing k → StandStill facts (record { caller = q; step = k } ∷ h) h
  still-newest q (SetT c g t) h legal nothing = absurd nothing
  still-newest q (SetM g m) h legal nothing = absurd nothing
  still-newest q k h legal nothing = record {
    thresholds = λ c g g_in. sets-newest facts (record { caller = q; step = k }) h legal c g g_in;
    marks = λ g. mark_sets_at-newest facts (record { caller = q; step = k }) h legal g;
  }

  -- while a pass without a CPU lives, no other sets anything
  others-nothing : (q : ℕ) (k : Step) (h : History) (p : ℕ) → IsLegal facts (record { caller = q; step = k } ∷ h)
      → lives_in role h p ≡ true → owner_in role h p ≡ None → q ≢ p → SetsNothing k
  others-nothing q (SetT c g t) h p legal lives none other =
      absurd (other (owner_acts_alone pages facts (record { caller = q; step = SetT c g t }) h p legal legal.1.0 lives
      (legal.2.control ∙ sym none)))
  others-nothing q (SetM g m) h p legal lives none other =
      absurd (other (owner_acts_alone pages facts (record { caller = q; step = SetM g m }) h p legal legal.1.0 lives
      (legal.2.control ∙ sym none)))
  others-nothing q _ h p legal lives none other = tt

  pub stand-still : (later earlier : History) (p : ℕ) (steps : List Step) → HasMade facts later earlier p steps
      → owner_in role earlier p ≡ None → Each SetsNothing steps → StandStill facts later earlier
  stand-still later earlier p steps made control each =
      let more : History = made.extends.0 in
      let parts : later ≡ more ++ earlier = made.extends.1 in
      subst (λ (g : History). StandStill facts g earlier) (sym parts)
      (holds_while_live pages facts earlier p (λ g. StandStill facts g earlier) AllSetNothing (λ e es all. all.1) next
      (made-given pages facts later earlier p steps made).1
      (record { thresholds = λ c g g_in. refl; marks = λ g. refl }) more (subst (IsLegal facts) parts made.legal)
      (subst (λ (g : History). lives_in role g p ≡ true) parts made.lives)
      (subst AllSetNothing
      (sym (own-on_top more earlier p steps (ap (λ (g : History). own g p) (sym parts) ∙ made.made)))
      (all-after p steps [] each tt)))
    where
      both : (e : Event Step) (h : History) → StandStill facts (e ∷ h) h → StandStill facts h earlier
          → StandStill facts (e ∷ h) earlier
      both e h second first = record {
        thresholds = λ c g g_in. second.thresholds c g g_in ∙ first.thresholds c g g_in;
        marks = λ g. second.marks g ∙ first.marks g;
      }

      next : (e : Event Step) (m : History) → IsLegal facts (e ∷ (m ++ earlier))
          → lives_in role (m ++ earlier) p ≡ true
          → owner_in role (m ++ earlier) p ≡ owner_in role earlier p → AllSetNothing (own (e ∷ m) p)
          → StandStill facts (m ++ earlier) earlier → StandStill facts (e ∷ (m ++ earlier)) earlier
      next e m legal lives same quiet before =
          both e (m ++ earlier)
          (still-newest e.caller e.step (m ++ earlier) legal (by (nat_eq e.caller p) refl quiet)) before
        where
          by : (b : Bool) → nat_eq e.caller p ≡ b → AllSetNothing (if b then e ∷ own m p else own m p)
              → SetsNothing e.step
          by true is quiet = quiet.0
          by false is quiet =
              others-nothing e.caller e.step (m ++ earlier) p legal lives (same ∙ control)
              (eqb-false e.caller p is)
