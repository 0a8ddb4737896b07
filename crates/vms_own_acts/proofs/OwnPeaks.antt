-- Where no other pass is a control pass, what CPUs may hide goes by a pass's own events.
use Rattle.std.proofs.Common.{◌≡◌, ◌≢◌, ℕ, ◌≤◌, ◌==◌, cond, Bool, true, false, [], ◌∷◌, ◌++◌, refl, ◌∙◌, arith}
use Rattle.std.proofs.lemmas.Bool.{eqb-false}
use Rattle.std.specs.Prelude.{None}
use Rattle.vms_world.specs.Common.{begun_in, own, owner_in, Event, Facts, Step, pages}
use Rattle.vms_history.proofs.Common.{begun_in-append, caller_is_given, owner_in-append}
use Rattle.vms_core.specs.Pages.{History, IsLegal}
use Rattle.vms_core.specs.Steps.{role}
use Rattle.vms_core.proofs.Common.{event-leaves}
use Rattle.vms_calls.proofs.RatingCovers.{SamePeaks, SamePeaks-next}
use Rattle.vms_own_acts.proofs.SameCalls.{AreAlike}

module _ (facts : Facts) (p : ℕ) where
  -- no pass but p is a control pass
  abbrev pub IsAlone : History → Type 0
  IsAlone h = (q : ℕ) → 1 ≤ q → q ≤ begun_in role h → owner_in role h q ≡ None → q ≡ p

  pub alone-before : (m h : History) → IsLegal facts (m ++ h) → IsAlone (m ++ h) → IsAlone h
  alone-before m h legal alone q least most none =
      let grows = begun_in-append role m h in
      alone q least (omega arith) (owner_in-append pages facts m h q legal most ∙ none)

  -- an event of another pass leaves what CPUs may hide
  others-leave : (e : Event Step) (h : History) → IsLegal facts (e ∷ h) → IsAlone h → e.caller ≢ p
      → AreAlike facts (e ∷ h) h
  others-leave e h legal alone other g =
      let given = caller_is_given pages facts h e.caller (role e.step) legal.0 legal.1 in
      let knows = event-leaves facts e h legal (λ some none. other (alone e.caller (omega arith) given none)) in
      record {
        same_sets = λ c. knows.sets c g;
        same_thresholds = λ c. knows.newest c g;
        same_peaks = λ c. knows.peaks c g;
        same_cpus = knows.states;
      }

  -- so a history is like the pass's own events
  pub alike-own : (h : History) → IsLegal facts h → IsAlone h → AreAlike facts h (own h p)
  alike-own [] legal alone g = record {
    same_sets = λ c. refl;
    same_thresholds = λ c. refl;
    same_peaks = λ c. refl;
    same_cpus = λ c. refl;
  }
  alike-own (e ∷ h) legal alone g =
      by (e.caller == p) refl (alike-own h legal.0 (alone-before (e ∷ []) h legal alone) g)
    where
      by : (b : Bool) → (e.caller == p) ≡ b → SamePeaks facts g h (own h p)
          → SamePeaks facts g (e ∷ h) (cond b (e ∷ own h p) (own h p))
      by true mine same = SamePeaks-next facts g h (own h p) e same
      by false is same =
          let left = others-leave e h legal (alone-before (e ∷ []) h legal alone) (eqb-false e.caller p is) g in
          record {
            same_sets = λ c. left.same_sets c ∙ same.same_sets c;
            same_thresholds = λ c. left.same_thresholds c ∙ same.same_thresholds c;
            same_peaks = λ c. left.same_peaks c ∙ same.same_peaks c;
            same_cpus = λ c. left.same_cpus c ∙ same.same_cpus c;
          }
