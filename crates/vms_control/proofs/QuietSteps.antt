-- For other crates too: steps of the control pass that set no threshold and no mark leave how often each was set,
-- whatever others do between them.
use Rattle.std.proofs.Common.{◌≡◌, ◌≢◌, ℕ, List, [], ◌∷◌, ◌++◌, true, refl, sym, ◌∙◌, subst, arith, ⊎_elim}
use Rattle.std.proofs.lemmas.Bool.{cases_eq}
use Rattle.vms_calls.specs.Common.{IsPlace, HasMade, Facts, Step, SetT, SetM, mark_sets_at, threshold_sets_at}
use Rattle.vms_calls.specs.Common.{IsControl, mark_sets_after, pages, History, state_after, sets_after, role, Event}
use Rattle.vms_calls.specs.Common.{after, own, lives_in, owner_in}
use Rattle.vms_calls.proofs.Common.{Each, OfFolds, OfLooks}
use Rattle.vms_core.specs.Pages.{IsLegal}
use Rattle.vms_core.proofs.Common.{event-leaves, mark_sets_at-newest, sets-newest}
use Rattle.vms_control.specs.Common.{SetsAtMost, never}
use Rattle.vms_history.proofs.Common.{holds_while_live, made-given, own-mine, own-on_top, owner_acts_alone}

-- a step that sets no threshold and no mark
abbrev pub SetsNothing : Step → Type 0
SetsNothing (SetT c g t) = ⊥
SetsNothing (SetM g m) = ⊥
SetsNothing _ = Unit {0}

-- loads of values, groups, marks and CPU states are such steps
pub looks-set_nothing : OfLooks SetsNothing
looks-set_nothing = record {
  value = λ k v. tt;
  system = λ i v. tt;
  group = λ c j w. tt;
  mark = λ g m a. tt;
  cpu = λ c x. tt;
}

-- so are the steps of a fold
pub folds-set_nothing : OfFolds SetsNothing
folds-set_nothing = record {
  threshold = λ g t a. tt;
  take = λ c j w. tt;
  place = λ k z. tt;
  system = λ i z. tt;
  acknowledge = λ g a. tt;
}

sets-left : (c g n : ℕ) (step : Step) → SetsNothing step → sets_after c g step n ≡ n
sets-left c g n (SetT d f t) quiet = absurd quiet
sets-left c g n _ quiet = refl

mark_sets-left : (g n : ℕ) (step : Step) → SetsNothing step → mark_sets_after g step n ≡ n
mark_sets-left g n (SetM f m) quiet = absurd quiet
mark_sets-left g n _ quiet = refl

-- events that set nothing
abbrev AreQuiet : History → Type 0
AreQuiet [] = Unit {0}
AreQuiet (e ∷ h) = SetsNothing e.step × AreQuiet h

quiet-after : (p : ℕ) (steps : List Step) (h : History) → Each SetsNothing steps → AreQuiet h
    → AreQuiet (after p steps h)
quiet-after p [] h each quiet = quiet
quiet-after p (step ∷ steps) h each quiet =
    quiet-after p steps (record { caller = p; step = step } ∷ h) each.1 (each.0, quiet)

module _ (facts : Facts) (later earlier : History) (p : ℕ) (steps : List Step)
    (has : HasMade facts later earlier p steps) (control : IsControl earlier p) (each : Each SetsNothing steps) where
  -- how often each was set is as it was
  record AreSetAsBefore (h : History) : Type 0 where
    pub thresholds : (c g : ℕ) → IsPlace facts.layout g →
        threshold_sets_at (state_after facts h) c g ≡ threshold_sets_at (state_after facts earlier) c g
    pub marks : (g : ℕ) → mark_sets_at (state_after facts h) g ≡ mark_sets_at (state_after facts earlier) g

  next-event : (e : Event Step) (m : History) → IsLegal facts (e ∷ (m ++ earlier))
      → lives_in role (m ++ earlier) p ≡ true → owner_in role (m ++ earlier) p ≡ owner_in role earlier p
      → AreQuiet (own (e ∷ m) p) → AreSetAsBefore (m ++ earlier) → AreSetAsBefore (e ∷ (m ++ earlier))
  next-event e m legal lives same quiet before = ⊎_elim
      (λ (mine : e.caller ≡ p).
      let nothing = (subst AreQuiet (own-mine e m p mine) quiet).0 in
      record {
        thresholds = λ c g g_in. sets-newest facts e (m ++ earlier) legal c g g_in
            ∙ sets-left c g (threshold_sets_at (state_after facts (m ++ earlier)) c g) e.step nothing
            ∙ before.thresholds c g g_in;
        marks = λ g. mark_sets_at-newest facts e (m ++ earlier) legal g
            ∙ mark_sets-left g (mark_sets_at (state_after facts (m ++ earlier)) g) e.step nothing ∙ before.marks g;
      })
      (λ (others : e.caller ≢ p).
      let leaves = event-leaves facts e (m ++ earlier) legal (λ other none.
      others (owner_acts_alone pages facts e (m ++ earlier) p legal other lives (none ∙ sym (same ∙ control)))) in
      record {
        thresholds = λ c g g_in. leaves.threshold_sets c g ∙ before.thresholds c g g_in;
        marks = λ g. leaves.mark_sets g ∙ before.marks g;
      })
      (cases_eq e.caller p)

  set-as_before : AreSetAsBefore later
  set-as_before =
      let m = has.extends.0 in
      let same = has.extends.1 in
      let mine = own-on_top m earlier p steps (subst (λ (h : History). own h p ≡ after p steps (own earlier p)) same
      has.made) in
      subst AreSetAsBefore (sym same)
      (holds_while_live pages facts earlier p AreSetAsBefore AreQuiet (λ e es quiet. quiet.1) next-event
      (made-given pages facts later earlier p steps has).1
      (record { thresholds = λ c g g_in. refl; marks = λ g. refl })
      m (subst (IsLegal facts) same has.legal) (subst (λ (h : History). lives_in role h p ≡ true) same has.lives)
      (subst AreQuiet (sym mine) (quiet-after p steps [] each tt)))

  pub quiet-sets : SetsAtMost facts never never later earlier
  quiet-sets = record {
    thresholds = λ c g c_in g_in. omega (arith, set-as_before.thresholds c g g_in);
    marks = λ g g_in. omega (arith, set-as_before.marks g);
  }
