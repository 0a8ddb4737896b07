-- Lines that are written one after another.
use Rattle.std.proofs.Common.{◌≡◌, ℕ, List, [], ◌∷◌, ◌++◌, refl, sym, ap, subst, ◌∙◌, append_assoc, append-nil}
use Rattle.std.specs.Prelude.{Option}
use Rattle.vms_calls.specs.Common.{CpuId, State, Step}
use Rattle.vms_plans.specs.declared.due_steps.DueStep.{DueStep}
use Rattle.vms_plans.specs.declared.due_steps.DueStep.TheVariants.{Makes}
use Rattle.vms_plans.specs.Common.{Plan, and_then, ends, makes_all, waits}
use Rattle.vms_plain_pages.specs.Common.{effect_by}
use Rattle.vms_written_lines.specs.Spelling.{event_line}
use Rattle.vms_written_lines.specs.WideSteps.{widened}
use Rattle.vms_rating_lines.specs.Lines.{step_lines}
use Rattle.vms_rating_lines.proofs.Common.{lines-append}
use Rattle.vms_call_lines.specs.Lines.{BeginsWriting, WritesWay}
use Rattle.vms_call_lines.specs.Ways.{IsOnlyWay, led}
use Rattle.vms_call_lines.proofs.Ways.{IsOneStep, led-append, only-and_then, only-ends, only-waits}

module _ {A : Type 0} (who : Option CpuId) (p : ℕ) where
  pub begins-nothing : (plan : Plan A) (s : State) (out : List ℕ) → BeginsWriting who plan s p out out plan s
  begins-nothing plan s out = record {
    steps = [];
    begins = λ rest answer way. way;
    lines = sym (append-nil out);
    leads = refl;
  }

  -- one step is written
  pub begins-step : (due : DueStep) (next : Step → Plan A) (s : State) (step : Step) (out out' : List ℕ)
      → IsOneStep who due s step → out' ≡ out ++ event_line p (widened step)
      → BeginsWriting who (waits due next) s p out out' (next step) (effect_by who step s)
  begins-step due next s step out out' one lines = record {
    steps = step ∷ [];
    begins = λ rest answer way. only-waits who due next s step rest answer one way;
    lines = lines ∙ ap (λ ys. out ++ ys) (sym (append-nil (event_line p (widened step))));
    leads = refl;
  }

  pub begins-then : (plan middle left : Plan A) (s m next : State) (out between out' : List ℕ)
      → BeginsWriting who plan s p out between middle m → BeginsWriting who middle m p between out' left next
      → BeginsWriting who plan s p out out' left next
  begins-then plan middle left s m next out between out' first second = record {
    steps = first.steps ++ second.steps;
    begins = λ rest answer way.
        subst (λ xs. IsOnlyWay who plan s xs answer) (sym (append_assoc first.steps second.steps rest))
        (first.begins (second.steps ++ rest) answer (second.begins rest answer way));
    lines = second.lines ∙ ap (λ ys. ys ++ step_lines p second.steps) first.lines
        ∙ append_assoc out (step_lines p first.steps) (step_lines p second.steps)
        ∙ ap (λ ys. out ++ ys) (sym (lines-append p first.steps second.steps));
    leads = led-append who first.steps second.steps s ∙ ap (led who second.steps) first.leads ∙ second.leads;
  }

  -- the rest of the way is written
  pub writes-then : (plan left : Plan A) (s m next : State) (out between out' : List ℕ) (answer : A)
      → BeginsWriting who plan s p out between left m → WritesWay who left m p between out' answer next
      → WritesWay who plan s p out out' answer next
  writes-then plan left s m next out between out' answer first rest = record {
    steps = first.steps ++ rest.steps;
    way = first.begins rest.steps answer rest.way;
    lines = rest.lines ∙ ap (λ ys. ys ++ step_lines p rest.steps) first.lines
        ∙ append_assoc out (step_lines p first.steps) (step_lines p rest.steps)
        ∙ ap (λ ys. out ++ ys) (sym (lines-append p first.steps rest.steps));
    leads = led-append who first.steps rest.steps s ∙ ap (led who rest.steps) first.leads ∙ rest.leads;
  }

  pub writes-ends : (answer : A) (s : State) (out : List ℕ) → WritesWay who (ends answer) s p out out answer s
  writes-ends answer s out = record {
    steps = [];
    way = only-ends who answer s;
    lines = sym (append-nil out);
    leads = refl;
  }

-- a plan is written, and then the one that its answer leads to
pub writes-and_then : {A B : Type 0} (who : Option CpuId) (p : ℕ) (plan : Plan A) (more : A → Plan B) (s m next : State)
    (out between out' : List ℕ) (a : A) (b : B) → WritesWay who plan s p out between a m
    → WritesWay who (more a) m p between out' b next → WritesWay who (and_then plan more) s p out out' b next
writes-and_then who p plan more s m next out between out' a b first rest = record {
  steps = first.steps ++ rest.steps;
  way = only-and_then who plan more s first.steps rest.steps a b first.way
      (subst (λ (t : State). IsOnlyWay who (more a) t rest.steps b) (sym first.leads) rest.way);
  lines = rest.lines ∙ ap (λ ys. ys ++ step_lines p rest.steps) first.lines
      ∙ append_assoc out (step_lines p first.steps) (step_lines p rest.steps)
      ∙ ap (λ ys. out ++ ys) (sym (lines-append p first.steps rest.steps));
  leads = led-append who first.steps rest.steps s ∙ ap (led who rest.steps) first.leads ∙ rest.leads;
}

-- a plan is written, and what is left is the one that its answer leads to
pub begins-and_then : {A B : Type 0} (who : Option CpuId) (p : ℕ) (plan : Plan A) (more : A → Plan B) (s m : State)
    (out out' : List ℕ) (a : A) → WritesWay who plan s p out out' a m
    → BeginsWriting who (and_then plan more) s p out out' (more a) m
begins-and_then who p plan more s m out out' a first = record {
  steps = first.steps;
  begins = λ rest answer way. only-and_then who plan more s first.steps rest a answer first.way
      (subst (λ (t : State). IsOnlyWay who (more a) t rest answer) (sym first.leads) way);
  lines = first.lines;
  leads = first.leads;
}

-- steps that are known are written
pub begins-all : {A : Type 0} (who : Option CpuId) (p : ℕ) (xs : List Step) (plan : Plan A) (s : State)
    (out out' : List ℕ) → out' ≡ out ++ step_lines p xs
    → BeginsWriting who (makes_all xs plan) s p out out' plan (led who xs s)
begins-all {A} who p xs plan s out out' lines = record {
  steps = xs;
  begins = λ rest answer way. by xs s rest answer way;
  lines = lines;
  leads = refl;
}
  where
    by : (xs : List Step) (s : State) (rest : List Step) (answer : A) → IsOnlyWay who plan (led who xs s) rest answer
        → IsOnlyWay who (makes_all xs plan) s (xs ++ rest) answer
    by [] s rest answer way = way
    by (x ∷ xs) s rest answer way = only-waits who (Makes x) (λ made. makes_all xs plan) s x (xs ++ rest) answer
        (λ y fits tells. sym fits) (by xs (effect_by who x s) rest answer way)

pub writes-all : {A : Type 0} (who : Option CpuId) (p : ℕ) (xs : List Step) (answer : A) (s : State)
    (out out' : List ℕ) → out' ≡ out ++ step_lines p xs
    → WritesWay who (makes_all xs (ends answer)) s p out out' answer (led who xs s)
writes-all who p xs answer s out out' lines =
    writes-then who p (makes_all xs (ends answer)) (ends answer) s (led who xs s) (led who xs s) out out' out' answer
    (begins-all who p xs (ends answer) s out out' lines) (writes-ends who p answer (led who xs s) out')
