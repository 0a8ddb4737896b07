-- How often thresholds and marks were set after one step more, and after parts of a call.
use Rattle.std.proofs.Common.{◌≡◌, ℕ, suc, ◌+◌, ◌≤◌, nat_eq, Bool, true, false, if◌then◌else◌, ◌∷◌, refl, ap, ◌∙◌}
use Rattle.std.proofs.Common.{subst, arith}
use Rattle.std.proofs.lemmas.Bool.Decides.{nat_tests}
use Rattle.vms_calls.specs.Common.{PlaceId, IsPlace, Facts, Step, SetM, mark_at, mark_sets_at, threshold_sets_at}
use Rattle.vms_calls.specs.Common.{IsControl, mark_after, mark_sets_after, ControlKnows, pages, History, state_after}
use Rattle.vms_calls.specs.Common.{sets_after}
use Rattle.vms_core.specs.Pages.{IsLegal}
use Rattle.vms_core.proofs.Common.{control-knows_later, mark_at-newest, mark_sets_at-newest, sets-newest}
use Rattle.vms_control.specs.Common.{SetsAtMost, MayStillSet, never, once}
use Rattle.vms_seats.specs.Common.{MakesStep}

module _ (facts : Facts) where
  pub set-none : (h : History) → SetsAtMost facts never never h h
  set-none h = record { thresholds = λ c g c_in g_in. omega arith; marks = λ g g_in. omega arith }

  -- two parts, of which each sets at most so often
  pub set-both : (f₁ g₁ f₂ g₂ f g : ℕ → ℕ) (last later earlier : History) → SetsAtMost facts f₂ g₂ last later
      → SetsAtMost facts f₁ g₁ later earlier → ((n : ℕ) → f₂ n + f₁ n ≤ f n) → ((n : ℕ) → g₂ n + g₁ n ≤ g n)
      → SetsAtMost facts f g last earlier
  set-both f₁ g₁ f₂ g₂ f g last later earlier second first f_less g_less = record {
    thresholds = λ c n c_in n_in. omega (
      arith,
      second.thresholds c n c_in n_in,
      first.thresholds c n c_in n_in,
      f_less n,
    );
    marks = λ n n_in. omega (arith, second.marks n n_in, first.marks n n_in, g_less n);
  }

  -- what may be set once more after a part that didn't set it
  pub still-may : (f g : ℕ → ℕ) (later earlier : History) (n : ℕ) → IsPlace facts.layout n
      → SetsAtMost facts f g later earlier → f n ≡ 0 → g n ≡ 0
      → MayStillSet facts earlier n → MayStillSet facts later n
  still-may f g later earlier n n_in sets none none_marked may = record {
    thresholds = λ c c_in. omega (arith, sets.thresholds c n c_in n_in, none, may.thresholds c c_in);
    mark = λ zone. omega (arith, sets.marks n zone, none_marked, may.mark zone);
  }

-- the tests of a place
pub once-at : (g f : ℕ) → nat_eq g f ≡ true → once g (suc g) f ≡ 1
once-at g f same = grind (arith, nat_tests)

pub once-other : (from to g : ℕ) → to ≤ g → once from to g ≡ 0
once-other from to g past = grind (arith, nat_tests)

pub once-next : (n g : ℕ) → once n (suc n) g + once 0 n g ≤ once 0 (n + 1) g
once-next n g = grind (arith, nat_tests)

pub once-from : (from n g : ℕ) → from ≤ n → once n (suc n) g + once from n g ≤ once from (n + 1) g
once-from from n g past = grind (arith, nat_tests)

pub once-parts : (mid to g : ℕ) → once mid to g + once 0 mid g ≤ 1
once-parts mid to g = grind (arith, nat_tests)

-- one step of the control pass
module _ (facts : Facts) (later earlier : History) (p : ℕ) (step : Step)
    (at : MakesStep pages facts later earlier p step) (control : IsControl earlier p) where
  knows : ControlKnows facts at.before earlier
  knows = control-knows_later facts at.before earlier p at.others control

  legal : IsLegal facts (record { caller = p; step = step } ∷ at.before)
  legal = subst (IsLegal facts) at.newest at.legal

  pub sets-next : (c g : ℕ) → IsPlace facts.layout g → threshold_sets_at (state_after facts later) c g
      ≡ sets_after c g step (threshold_sets_at (state_after facts earlier) c g)
  sets-next c g g_in = ap (λ (h : History). threshold_sets_at (state_after facts h) c g) at.newest
      ∙ sets-newest facts (record { caller = p; step = step }) at.before legal c g g_in
      ∙ ap (sets_after c g step) (knows.threshold_sets c g)

  pub mark_sets-next : (g : ℕ) → mark_sets_at (state_after facts later) g
      ≡ mark_sets_after g step (mark_sets_at (state_after facts earlier) g)
  mark_sets-next g = ap (λ (h : History). mark_sets_at (state_after facts h) g) at.newest
      ∙ mark_sets_at-newest facts (record { caller = p; step = step }) at.before legal g
      ∙ ap (mark_sets_after g step) (knows.mark_sets g)

  pub mark-next : (g : ℕ) → mark_at (state_after facts later) g
      ≡ mark_after g step (mark_at (state_after facts earlier) g)
  mark-next g = ap (λ (h : History). mark_at (state_after facts h) g) at.newest
      ∙ mark_at-newest facts (record { caller = p; step = step }) at.before legal g
      ∙ ap (mark_after g step) (knows.marks g)

-- one that sets a mark
pub set-mark : (facts : Facts) (later earlier : History) (p : ℕ) (g : PlaceId) (m : ℕ)
    → MakesStep pages facts later earlier p (SetM g m) → IsControl earlier p
    → SetsAtMost facts never (once g.number (suc g.number)) later earlier
set-mark facts later earlier p g m at control = record {
  thresholds = λ c f c_in f_in. omega (arith, sets-next facts later earlier p (SetM g m) at control c f f_in);
  marks = λ f f_in. by f (nat_eq g.number f) refl (mark_sets-next facts later earlier p (SetM g m) at control f);
}
  where
    by : (f : ℕ) (b : Bool) → nat_eq g.number f ≡ b → mark_sets_at (state_after facts later) f
        ≡ (if b then suc (mark_sets_at (state_after facts earlier) f) else mark_sets_at (state_after facts earlier) f)
        → mark_sets_at (state_after facts later) f
        ≤ once g.number (suc g.number) f + mark_sets_at (state_after facts earlier) f
    by f true same set = omega (arith, set, once-at g.number f same)
    by f false other set = omega (arith, set)
