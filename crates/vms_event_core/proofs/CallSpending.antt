-- For other crates too: what a call spends of its CPU's volume, a count its number and another call nothing.
use Rattle.std.proofs.Common.{◌≡◌, ℕ, zero, suc, Bool, true, false, List, [], ◌∷◌, ◌++◌, Option, Some, None, pos, ◌+ℤ◌}
use Rattle.std.proofs.Common.{All, refl, sym, ap, ◌∙◌, subst, arith, if◌then◌else◌, nat_eq, ◌&&◌, eq-eqb}
use Rattle.std.proofs.lemmas.Int.{ints}
use Rattle.std.proofs.lemmas.List.Elements.{All-nil, All-cons, All-head, All-tail}
use Rattle.vms_history.specs.Common.{CpuId, EventId, own, after, total, lives_in, owner_in}
use Rattle.vms_history.proofs.Common.{after-append, total-append, made-given}
use Rattle.vms_event_core.specs.declared.call_values.EventAnswer.{EventAnswer}
use Rattle.vms_event_core.specs.declared.call_values.EventAnswer.TheVariants.{Done, Total}
use Rattle.vms_event_core.specs.declared.call_values.EventCall.{EventCall}
use Rattle.vms_event_core.specs.declared.call_values.EventCall.TheVariants.{Count, Sum, FoldDead}
use Rattle.vms_event_core.specs.declared.steps.EventFacts.{EventFacts}
use Rattle.vms_event_core.specs.declared.steps.EventStep.{EventStep}
use Rattle.vms_event_core.specs.declared.steps.EventStep.TheVariants.{AddE, LoadE, TakeE, AddF}
use Rattle.vms_event_core.specs.Common.{IsAllEvents, IsEventCall, IsFoldEvents, event_spent, folds, loads, online_cpus}
use Rattle.vms_event_core.specs.Common.{events, History, IsLegal, HasMade, SpendNothing, SpendsSince, KeepsSpending}
use Rattle.vms_event_core.specs.Common.{role, counted, spent, spent_by}
use Rattle.vms_event_core.proofs.Spending.{spent_by-owner, GoesAlong, spent-goes_along}

module _ (facts : EventFacts) (later earlier : History) (p : ℕ) (steps : List EventStep)
    (made : HasMade facts later earlier p steps) where
  -- what the caller's CPU counted since is what the caller's steps count
  pub spent-made : (c : CpuId) (k : ℕ) → owner_in role earlier p ≡ Some c
      → pos (spent later c.number k) +ℤ total (counted k) (own earlier p)
      ≡ pos (spent earlier c.number k) +ℤ total (counted k) (after p steps (own earlier p))
  spent-made c k owns =
      let is : later ≡ made.extends.0 ++ earlier = made.extends.1 in
      let along : GoesAlong facts earlier p c k owns later =
      subst (GoesAlong facts earlier p c k owns) (sym is)
      (spent-goes_along facts earlier p c k owns made.extends.0 (subst (IsLegal facts) is made.legal)
      (subst (λ g. lives_in role g p ≡ true) is made.lives) (made-given events facts later earlier p steps made).1) in
      along ∙ ap (λ es. pos (spent earlier c.number k) +ℤ total (counted k) es) made.made

  -- the same, with what the steps count on their own
  pub owner-spends : (c : CpuId) → owner_in role earlier p ≡ Some c → (k : ℕ)
      → pos (spent later c.number k) ≡ pos (spent earlier c.number k) +ℤ total (counted k) (after p steps [])
  owner-spends c owns k =
      let all = spent-made c k owns in
      let parts : total (counted k) (after p steps (own earlier p))
      ≡ total (counted k) (after p steps []) +ℤ total (counted k) (own earlier p) =
      ap (total (counted k)) (after-append p steps [] (own earlier p))
      ∙ total-append (counted k) (after p steps []) (own earlier p) in
      omega (arith, ints, all, parts)

nothing-counted : (c : CpuId) (k p : ℕ) (steps : List EventStep)
    → All (λ step. spent_by (Some c) c.number k step ≡ 0) steps
    → (h : History) → total (counted k) (after p steps h) ≡ total (counted k) h
nothing-counted c k p [] none h = refl
nothing-counted c k p (step ∷ steps) none h =
    let here = All-head (λ x. spent_by (Some c) c.number k x ≡ 0) step steps none in
    let rest = nothing-counted c k p steps (All-tail (λ x. spent_by (Some c) c.number k x ≡ 0) step steps none)
    (record { caller = p; step = step } ∷ h) in
    let is = spent_by-owner c k step in
    omega (arith, ints, here, rest, is)

pub others-spend : (facts : EventFacts) (later earlier : History) (p : ℕ) (steps : List EventStep)
    → HasMade facts later earlier p steps → SpendNothing steps → KeepsSpending later earlier p
others-spend facts later earlier p steps made none c k owns =
    omega (
      arith,
      ints,
      spent-made facts later earlier p steps made c k owns,
      nothing-counted c k p steps (none (Some c) c.number k) (own earlier p),
    )

loads-spend : (k : EventId) (cpus : List CpuId) (found : List ℕ) → SpendNothing (loads k cpus found)
loads-spend k [] found who c l = All-nil (λ step. spent_by who c l step ≡ 0)
loads-spend k (d ∷ cpus) [] who c l = All-nil (λ step. spent_by who c l step ≡ 0)
loads-spend k (d ∷ cpus) (v ∷ found) who c l =
    All-cons (λ step. spent_by who c l step ≡ 0) _ (loads k cpus found) (by who) (loads-spend k cpus found who c l)
  where
    by : (who : Option CpuId) → spent_by who c l (LoadE d k v) ≡ 0
    by None = refl
    by (Some o) = refl

taken-spends : (who : Option CpuId) (c l : ℕ) (from : CpuId) (k : EventId) (v : ℕ)
    → spent_by who c l (TakeE from k v) ≡ 0
taken-spends None c l from k v = refl
taken-spends (Some o) c l from k v = refl

added-spends : (who : Option CpuId) (c l : ℕ) (into : CpuId) (k : EventId) (v : ℕ)
    → spent_by who c l (AddF into k v) ≡ 0
added-spends None c l into k v = refl
added-spends (Some o) c l into k v = refl

folds-spend : (from into : CpuId) (k : ℕ) (found : List ℕ) → SpendNothing (folds from into k found)
folds-spend from into k [] who c l = All-nil (λ step. spent_by who c l step ≡ 0)
folds-spend from into k (zero ∷ found) who c l =
    All-cons (λ step. spent_by who c l step ≡ 0) _ (folds from into (suc k) found)
    (taken-spends who c l from (record { number = k }) 0) (folds-spend from into (suc k) found who c l)
folds-spend from into k (suc v ∷ found) who c l =
    All-cons (λ step. spent_by who c l step ≡ 0) _
    (AddF into (record { number = k }) (suc v) ∷ folds from into (suc k) found)
    (taken-spends who c l from (record { number = k }) (suc v))
    (All-cons (λ step. spent_by who c l step ≡ 0) _ (folds from into (suc k) found)
    (added-spends who c l into (record { number = k }) (suc v)) (folds-spend from into (suc k) found who c l))

pub all_events-spend : (cpus : List CpuId) (k : EventId) (found : List ℕ) (steps : List EventStep) (answer : ℕ)
    → IsAllEvents cpus k found steps answer → SpendNothing steps
all_events-spend cpus k found steps answer is = subst SpendNothing (sym is.in_order) (loads-spend k cpus found)

pub fold_events-spend : (from into : CpuId) (found : List ℕ) (steps : List EventStep)
    → IsFoldEvents from into found steps → SpendNothing steps
fold_events-spend from into found steps is = subst SpendNothing (sym is.in_order) (folds-spend from into 0 found)

-- a count of no times
count-spend_nothing : (k : EventId) (n : ℕ) → n ≡ 0 → SpendNothing (AddE k n ∷ [])
count-spend_nothing k n none who c l =
    All-cons (λ step. spent_by who c l step ≡ 0) (AddE k n) [] (by who) (All-nil (λ step. spent_by who c l step ≡ 0))
  where
    either : (b : Bool) → (if b then n else 0) ≡ 0
    either true = none
    either false = refl

    by : (who : Option CpuId) → spent_by who c l (AddE k n) ≡ 0
    by None = refl
    by (Some o) = either (nat_eq o.number c && nat_eq k.number l)

pub calls-spend_nothing : (facts : EventFacts) (call : EventCall) (steps : List EventStep) (answer : EventAnswer)
    → IsEventCall facts call steps answer → ((k : ℕ) → event_spent call k ≡ 0) → SpendNothing steps
calls-spend_nothing facts (Count k n) steps Done is none =
    let same : nat_eq k.number k.number ≡ true = eq-eqb k.number k.number refl in
    let here : (if nat_eq k.number k.number then n else 0) ≡ n = rw same refl in
    subst SpendNothing (sym is.in_order) (count-spend_nothing k n (sym here ∙ none k.number))
calls-spend_nothing facts (Sum k) steps (Total answer) (found, is) none =
    all_events-spend (online_cpus facts) k found steps answer is
calls-spend_nothing facts (FoldDead c) steps Done (into, found, lowest, is) none =
    fold_events-spend c into found steps is
calls-spend_nothing facts _ steps _ is none = absurd is

-- what the steps of a call count is what the call spends
pub call-counts : (facts : EventFacts) (k p : ℕ) (call : EventCall) (steps : List EventStep) (answer : EventAnswer)
    → IsEventCall facts call steps answer → (h : History)
    → total (counted k) (after p steps h) ≡ pos (event_spent call k) +ℤ total (counted k) h
call-counts facts k p (Count l n) steps Done is h =
    ap (λ ks. total (counted k) (after p ks h)) is.in_order ∙ by (nat_eq l.number k)
  where
    by : (b : Bool) → (if b then pos n else pos 0) +ℤ total (counted k) h
        ≡ pos (if b then n else 0) +ℤ total (counted k) h
    by true = refl
    by false = refl
call-counts facts k p (Sum l) steps (Total answer) (found, is) h =
    let none = all_events-spend (online_cpus facts) l found steps answer is in
    omega (arith, ints, nothing-counted (record { number = 0 }) k p steps (none (Some (record { number = 0 })) 0 k) h)
call-counts facts k p (FoldDead d) steps Done (into, found, lowest, is) h =
    let none = fold_events-spend d into found steps is in
    omega (arith, ints, nothing-counted d k p steps (none (Some d) d.number k) h)
call-counts facts k p _ steps _ is h = absurd is

pub call-spends : (facts : EventFacts) (later earlier : History) (p : ℕ) (call : EventCall) (steps : List EventStep)
    (answer : EventAnswer) → HasMade facts later earlier p steps → IsEventCall facts call steps answer
    → SpendsSince later earlier p (event_spent call)
call-spends facts later earlier p call steps answer made is c k owns =
    omega (
      arith,
      ints,
      spent-made facts later earlier p steps made c k owns,
      call-counts facts k p call steps answer is (own earlier p),
    )
