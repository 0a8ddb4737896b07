-- For other crates too: the control pass may act on a history that goes on with its own steps.
use Rattle.std.proofs.Common.{◌≡◌, ◌≢◌, ℕ, pos, List, [], ◌∷◌, ◌++◌, refl, sym, ap, subst, ◌∙◌, arith}
use Rattle.vms_calls.specs.Common.{Header, CpuId, Absent, Dead, IsCpu, IsCounter, after, lives_in, owner_in, GoesOnTo}
use Rattle.vms_calls.specs.Common.{State, Facts, Step, SetO, cpu_at, diff_at, with_cpu, pages, History, state_after}
use Rattle.vms_calls.specs.Common.{effect, role, facts_of, ControlsIn}
use Rattle.vms_history.proofs.Common.{after-steps, live_is_given, lives_in-others, owner_in-others}
use Rattle.vms_plain_control.specs.Common.{Controls, KnowsPeaks}

module _ (facts : Facts) (h : History) (p : ℕ) (control : ControlsIn facts h p) where
  pub not_main : p ≢ 0
  not_main main = let given = live_is_given pages facts h p control.living.legal control.living.lives in
      let some = given.0 in absurd (omega arith)

  lives-after : (steps : List Step) (k : History) → lives_in role (after p steps k) p ≡ lives_in role k p
  lives-after [] k = refl
  lives-after (step ∷ steps) k = lives-after steps (record { caller = p; step = step } ∷ k)
      ∙ lives_in-others role (record { caller = p; step = step }) k p not_main

  owner-after : (steps : List Step) (k : History) → owner_in role (after p steps k) p ≡ owner_in role k p
  owner-after [] k = refl
  owner-after (step ∷ steps) k = owner-after steps (record { caller = p; step = step } ∷ k)
      ∙ owner_in-others role (record { caller = p; step = step }) k p not_main

  pub ControlsIn-after : (steps : List Step) (next : State) → GoesOnTo pages facts p steps h next
      → ControlsIn facts (after p steps h) p
  ControlsIn-after steps next goes = record {
    living = record { legal = goes.legal; lives = lives-after steps h ∙ control.living.lives };
    control = owner-after steps h ∙ control.control;
  }

-- the history goes on with further steps
pub GoesOnTo-both : (facts : Facts) (p : ℕ) (first second : List Step) (h : History) (mid next : State)
    → GoesOnTo pages facts p first h mid → GoesOnTo pages facts p second (after p first h) next
    → GoesOnTo pages facts p (first ++ second) h next
GoesOnTo-both facts p first second h mid next one two =
    let come = after-steps p first second h in
    record {
      legal = rw come two.legal;
      state = ap (state_after facts) come ∙ two.state;
    }

module _ (header : Header) (base : State) (h : History) (p : ℕ) (s : State) (peaks : List ℕ)
    (controls : Controls header base h p s peaks) where
  abbrev facts : Facts
  facts = facts_of header base

  pub Controls-after : (steps : List Step) (next : State) (known : List ℕ) → GoesOnTo pages facts p steps h next
      → KnowsPeaks facts (after p steps h) known → Controls header base (after p steps h) p next known
  Controls-after steps next known goes knows = record {
    control = ControlsIn-after facts h p controls.control steps next goes;
    stands = goes.state;
    known = knows;
  }

  -- a dead CPU that hides nothing becomes absent
  pub absent-goes_on : (c : CpuId) → IsCpu header.layout c.number → cpu_at s c.number ≡ Dead
      → ((k : ℕ) → IsCounter header.layout k → diff_at s c.number k ≡ pos 0)
      → GoesOnTo pages facts p (SetO c ∷ []) h (with_cpu s c.number Absent)
  absent-goes_on c c_in dead zeros = record {
    legal = (
      controls.control.living.legal,
      (not_main facts h p controls.control, controls.control.living.lives),
      record {
        control = controls.control.control;
        cpu = c_in;
        dead = subst (λ (x : State). cpu_at x c.number ≡ Dead) (sym controls.stands) dead;
        zeros = λ k k_in. subst (λ (x : State). diff_at x c.number k ≡ pos 0) (sym controls.stands) (zeros k k_in);
      },
    );
    state = ap (λ who. effect facts who (SetO c) (state_after facts h)) controls.control.control
        ∙ ap (λ (x : State). with_cpu x c.number Absent) controls.stands;
  }
