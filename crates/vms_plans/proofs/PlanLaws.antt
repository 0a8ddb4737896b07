-- For other crates too: how steps run through plans that are put together.
use Rattle.std.proofs.Common.{◌≡◌, ℕ, List, [], ◌∷◌, ◌++◌, refl, sym, ap, subst, ◌∙◌, append-nil}
use Rattle.vms_calls.specs.Common.{after, Step, History}
use Rattle.vms_plans.specs.Common.{Plan, ends, refuses, waits, asks, Runs, makes_all, and_then, recorded}

-- steps that run through one plan, and more that run through the next
pub runs-and_then : {A B : Type 0} (plan : Plan A) (more : A → Plan B) (first rest : List Step) (a : A) (b : B)
    → Runs plan first a → Runs (more a) rest b → Runs (and_then plan more) (first ++ rest) b
runs-and_then (ends x) more [] rest a b run later = subst (λ y. Runs (more y) rest b) (sym run) later
runs-and_then (ends x) more (k ∷ ks) rest a b run later = absurd run
runs-and_then refuses more first rest a b run later = absurd run
runs-and_then (waits due next) more [] rest a b run later = absurd run
runs-and_then (waits due next) more (k ∷ ks) rest a b run later =
    (run.0, runs-and_then (next k) more ks rest a b run.1 later)
runs-and_then (asks Allows next) more first rest a b run later =
    (run.0, run.1, run.2, runs-and_then (next run.0 run.1) more first rest a b run.3 later)

-- steps that run through both split in two
pub record Splits {A B : Type 0} (plan : Plan A) (more : A → Plan B) (steps : List Step) (b : B) : Type 0 where
  pub first : List Step
  pub rest : List Step
  pub answer : A
  pub in_order : steps ≡ first ++ rest
  pub run : Runs plan first answer
  pub later : Runs (more answer) rest b

pub splits-and_then : {A B : Type 0} (plan : Plan A) (more : A → Plan B) (steps : List Step) (b : B)
    → Runs (and_then plan more) steps b → Splits plan more steps b
splits-and_then (ends x) more steps b run =
    record { first = []; rest = steps; answer = x; in_order = refl; run = refl; later = run }
splits-and_then refuses more steps b run = absurd run
splits-and_then (waits due next) more [] b run = absurd run
splits-and_then (waits due next) more (k ∷ ks) b run =
    let parts = splits-and_then (next k) more ks b run.1 in
    record {
      first = k ∷ parts.first;
      rest = parts.rest;
      answer = parts.answer;
      in_order = ap (λ xs. k ∷ xs) parts.in_order;
      run = (run.0, parts.run);
      later = parts.later;
    }
splits-and_then (asks Allows next) more steps b run =
    let parts = splits-and_then (next run.0 run.1) more steps b run.3 in
    record {
      first = parts.first;
      rest = parts.rest;
      answer = parts.answer;
      in_order = parts.in_order;
      run = (run.0, run.1, run.2, parts.run);
      later = parts.later;
    }

-- a plan that is done
pub ends_only : {A : Type 0} (a b : A) (steps : List Step) → Runs (ends a) steps b → (steps ≡ []) × (a ≡ b)
ends_only a b [] run = (refl, run)
ends_only a b (k ∷ ks) run = absurd run

-- steps that are known run first
pub runs-makes_all : {A : Type 0} (first : List Step) (plan : Plan A) (rest : List Step) (a : A)
    → Runs plan rest a → Runs (makes_all first plan) (first ++ rest) a
runs-makes_all [] plan rest a run = run
runs-makes_all (k ∷ ks) plan rest a run = (refl, runs-makes_all ks plan rest a run)

pub splits-makes_all : {A : Type 0} (first : List Step) (plan : Plan A) (steps : List Step) (a : A)
    → Runs (makes_all first plan) steps a → (rest : List Step) × (steps ≡ first ++ rest) × Runs plan rest a
splits-makes_all [] plan steps a run = (steps, refl, run)
splits-makes_all (k ∷ ks) plan [] a run = absurd run
splits-makes_all (k ∷ ks) plan (j ∷ js) a run =
    let parts = splits-makes_all ks plan js a run.1 in
    (parts.0, ap (λ x. x ∷ js) (sym run.0) ∙ ap (λ xs. k ∷ xs) parts.1, parts.2)

-- and are all
pub runs-makes_only : {A : Type 0} (ks : List Step) (a : A) → Runs (makes_all ks (ends a)) ks a
runs-makes_only ks a =
    subst (λ xs. Runs (makes_all ks (ends a)) xs a) (append-nil ks) (runs-makes_all ks (ends a) [] a refl)

pub makes_only : {A : Type 0} (ks : List Step) (a b : A) (steps : List Step)
    → Runs (makes_all ks (ends a)) steps b → (steps ≡ ks) × (a ≡ b)
makes_only ks a b steps run =
    let parts = splits-makes_all ks (ends a) steps b run in
    let last = ends_only a b parts.0 parts.2 in
    (parts.1 ∙ ap (λ xs. ks ++ xs) last.0 ∙ append-nil ks, last.1)

-- a plan whose answer is told in other words
pub runs-answering : {A B : Type 0} (plan : Plan A) (tell : A → B) (steps : List Step) (a : A)
    → Runs plan steps a → Runs (and_then plan (λ x. ends (tell x))) steps (tell a)
runs-answering plan tell steps a run =
    subst (λ xs. Runs (and_then plan (λ x. ends (tell x))) xs (tell a)) (append-nil steps)
    (runs-and_then plan (λ x. ends (tell x)) steps [] a (tell a) run refl)

pub told-answering : {A B : Type 0} (plan : Plan A) (tell : A → B) (steps : List Step) (b : B)
    → Runs (and_then plan (λ x. ends (tell x))) steps b → (a : A) × Runs plan steps a × (tell a ≡ b)
told-answering plan tell steps b run =
    let parts = splits-and_then plan (λ x. ends (tell x)) steps b run in
    let last = ends_only (tell parts.answer) b parts.rest parts.later in
    let whole : parts.first ≡ steps =
    sym (append-nil parts.first) ∙ ap (λ xs. parts.first ++ xs) (sym last.0) ∙ sym parts.in_order in
    (parts.answer, subst (λ xs. Runs plan xs parts.answer) whole parts.run, last.1)

module _ (p : ℕ) where
  -- the history is that after the steps
  pub runs-recorded : {A : Type 0} (plan : Plan A) (h : History) (steps : List Step) (a : A)
      → Runs plan steps a → Runs (recorded p h plan) steps (a, after p steps h)
  runs-recorded (ends x) h [] a run = ap (λ y. (y, h)) run
  runs-recorded (ends x) h (k ∷ ks) a run = absurd run
  runs-recorded refuses h steps a run = absurd run
  runs-recorded (waits due next) h [] a run = absurd run
  runs-recorded (waits due next) h (k ∷ ks) a run =
      (run.0, runs-recorded (next k) (after p (k ∷ []) h) ks a run.1)
  runs-recorded (asks Allows next) h steps a run =
      (run.0, run.1, run.2, runs-recorded (next run.0 run.1) h steps a run.3)

  pub told-recorded : {A : Type 0} (plan : Plan A) (h : History) (steps : List Step) (found : A × History)
      → Runs (recorded p h plan) steps found → Runs plan steps found.0 × (found.1 ≡ after p steps h)
  told-recorded (ends x) h [] found run = (ap (λ (f : _ × History). f.0) run, sym (ap (λ (f : _ × History). f.1) run))
  told-recorded (ends x) h (k ∷ ks) found run = absurd run
  told-recorded refuses h steps found run = absurd run
  told-recorded (waits due next) h [] found run = absurd run
  told-recorded (waits due next) h (k ∷ ks) found run =
      let later = told-recorded (next k) (after p (k ∷ []) h) ks found run.1 in ((run.0, later.0), later.1)
  told-recorded (asks Allows next) h steps found run =
      let later = told-recorded (next run.0 run.1) h steps found run.3 in
      ((run.0, run.1, run.2, later.0), later.1)

  -- a plan, and then one that goes by the history after its steps
  pub runs-and_after : {A B : Type 0} (plan : Plan A) (h : History) (more : A × History → Plan B)
      (first rest : List Step) (a : A) (b : B) → Runs plan first a → Runs (more (a, after p first h)) rest b
      → Runs (and_then (recorded p h plan) more) (first ++ rest) b
  runs-and_after plan h more first rest a b run later =
      runs-and_then (recorded p h plan) more first rest (a, after p first h) b (runs-recorded plan h first a run) later

  pub record SplitsAfter {A B : Type 0} (plan : Plan A) (h : History) (more : A × History → Plan B)
      (steps : List Step) (b : B) : Type 0 where
    pub first : List Step
    pub rest : List Step
    pub answer : A
    pub in_order : steps ≡ first ++ rest
    pub run : Runs plan first answer
    pub later : Runs (more (answer, after p first h)) rest b

  pub splits-and_after : {A B : Type 0} (plan : Plan A) (h : History) (more : A × History → Plan B)
      (steps : List Step) (b : B) → Runs (and_then (recorded p h plan) more) steps b
      → SplitsAfter plan h more steps b
  splits-and_after plan h more steps b run =
      let parts = splits-and_then (recorded p h plan) more steps b run in
      let told = told-recorded plan h parts.first parts.answer parts.run in
      record {
        first = parts.first;
        rest = parts.rest;
        answer = parts.answer.0;
        in_order = parts.in_order;
        run = told.0;
        later = subst (λ g. Runs (more (parts.answer.0, g)) parts.rest b) told.1 parts.later;
      }
