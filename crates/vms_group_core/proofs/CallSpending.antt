-- For other crates too: what a call spends of its CPU's volume, a change its size and another call nothing.
use Rattle.std.proofs.Common.{◌≡◌, ℕ, suc, Bool, true, false, List, [], ◌∷◌, ◌++◌, Option, Some, None, ℤ, pos, ◌+ℤ◌}
use Rattle.std.proofs.Common.{All, refl, sym, ap, ◌∙◌, subst, arith, if◌then◌else◌, nat_eq, ◌&&◌, eq-eqb, unsigned_abs}
use Rattle.std.specs.Ordering.{int_eq}
use Rattle.std.proofs.lemmas.Int.{ints}
use Rattle.std.proofs.lemmas.List.Elements.{All-nil, All-cons, All-head, All-tail, All-append}
use Rattle.vms_history.specs.Common.{CpuId, own, after, total, lives_in, owner_in}
use Rattle.vms_history.proofs.Common.{after-append, total-append, made-given}
use Rattle.vms_group_core.specs.declared.call_values.GroupAnswer.{GroupAnswer}
use Rattle.vms_group_core.specs.declared.call_values.GroupAnswer.TheVariants.{Done, Value as Answers}
use Rattle.vms_group_core.specs.declared.call_values.GroupCall.{GroupCall}
use Rattle.vms_group_core.specs.declared.call_values.GroupCall.TheVariants.{Change, Flush, Value}
use Rattle.vms_group_core.specs.declared.steps.GroupFacts.{GroupFacts}
use Rattle.vms_group_core.specs.declared.steps.GroupStep.{GroupStep}
use Rattle.vms_group_core.specs.declared.steps.GroupStep.TheVariants.{AddP, TakeP, TakeU, AddV, AddU, LoadV}
use Rattle.vms_group_core.specs.declared.trees.Tree.{Tree}
use Rattle.vms_group_core.specs.Common.{parent_of, subtree, size_of, changed, spent, spent_by, role, groups, History}
use Rattle.vms_group_core.specs.Common.{IsLegal, HasMade, SpendNothing, SpendsSince, KeepsSpending, Found, IsGroupCall}
use Rattle.vms_group_core.specs.Common.{all_of, flushes, flushes_each, group_spent, moves_up, raises, takes}
use Rattle.vms_group_core.proofs.Spending.{spent_by-owner, GoesAlong, spent-goes_along}

module _ (facts : GroupFacts) (later earlier : History) (p : ℕ) (steps : List GroupStep)
    (made : HasMade facts later earlier p steps) where
  -- what the caller's CPU spent since is what the caller's steps change in size
  pub spent-made : (c : CpuId) (g : ℕ) → owner_in role earlier p ≡ Some c
      → pos (spent later c.number g) +ℤ total (changed size_of g) (own earlier p)
      ≡ pos (spent earlier c.number g) +ℤ total (changed size_of g) (after p steps (own earlier p))
  spent-made c g owns =
      let is : later ≡ made.extends.0 ++ earlier = made.extends.1 in
      let along : GoesAlong facts earlier p c g owns later =
      subst (GoesAlong facts earlier p c g owns) (sym is)
      (spent-goes_along facts earlier p c g owns made.extends.0 (subst (IsLegal facts) is made.legal)
      (subst (λ h. lives_in role h p ≡ true) is made.lives) (made-given groups facts later earlier p steps made).1) in
      along ∙ ap (λ es. pos (spent earlier c.number g) +ℤ total (changed size_of g) es) made.made

  -- the same, with what the steps change on their own
  pub owner-spends : (c : CpuId) → owner_in role earlier p ≡ Some c → (g : ℕ)
      → pos (spent later c.number g) ≡ pos (spent earlier c.number g) +ℤ total (changed size_of g) (after p steps [])
  owner-spends c owns g =
      let all = spent-made c g owns in
      let parts : total (changed size_of g) (after p steps (own earlier p))
      ≡ total (changed size_of g) (after p steps []) +ℤ total (changed size_of g) (own earlier p) =
      ap (total (changed size_of g)) (after-append p steps [] (own earlier p))
      ∙ total-append (changed size_of g) (after p steps []) (own earlier p) in
      omega (arith, ints, all, parts)

nothing-changed : (c : CpuId) (g p : ℕ) (steps : List GroupStep)
    → All (λ step. spent_by (Some c) c.number g step ≡ 0) steps
    → (h : History) → total (changed size_of g) (after p steps h) ≡ total (changed size_of g) h
nothing-changed c g p [] none h = refl
nothing-changed c g p (step ∷ steps) none h =
    let here = All-head (λ x. spent_by (Some c) c.number g x ≡ 0) step steps none in
    let rest = nothing-changed c g p steps (All-tail (λ x. spent_by (Some c) c.number g x ≡ 0) step steps none)
    (record { caller = p; step = step } ∷ h) in
    let is = spent_by-owner c g step in
    omega (arith, ints, here, rest, is)

pub others-spend : (facts : GroupFacts) (later earlier : History) (p : ℕ) (steps : List GroupStep)
    → HasMade facts later earlier p steps → SpendNothing steps → KeepsSpending later earlier p
others-spend facts later earlier p steps made none c g owns =
    omega (
      arith,
      ints,
      spent-made facts later earlier p steps made c g owns,
      nothing-changed c g p steps (none (Some c) c.number g) (own earlier p),
    )

-- a step that changes no group spends nothing
abbrev IsFree : GroupStep → Type 0
IsFree step = (who : Option CpuId) (c x : ℕ) → spent_by who c x step ≡ 0

take-free : (c : CpuId) (g : ℕ) (v : ℤ) → IsFree (TakeP c g v)
take-free c g v None d x = refl
take-free c g v (Some o) d x = refl

take_up-free : (g : ℕ) (v : ℤ) → IsFree (TakeU g v)
take_up-free g v None d x = refl
take_up-free g v (Some o) d x = refl

value-free : (g : ℕ) (a : ℤ) → IsFree (AddV g a)
value-free g a None d x = refl
value-free g a (Some o) d x = refl

up-free : (g : ℕ) (a : ℤ) → IsFree (AddU g a)
up-free g a None d x = refl
up-free g a (Some o) d x = refl

load-free : (g : ℕ) (v : ℤ) → IsFree (LoadV g v)
load-free g v None d x = refl
load-free g v (Some o) d x = refl

free-first : (step : GroupStep) (steps : List GroupStep) → IsFree step → SpendNothing steps
    → SpendNothing (step ∷ steps)
free-first step steps free none who c x =
    All-cons (λ s. spent_by who c x s ≡ 0) step steps (free who c x) (none who c x)

free-none : SpendNothing []
free-none who c x = All-nil (λ s. spent_by who c x s ≡ 0)

free-both : (first second : List GroupStep) → SpendNothing first → SpendNothing second
    → SpendNothing (first ++ second)
free-both first second one two who c x =
    All-append (λ s. spent_by who c x s ≡ 0) first second (one who c x) (two who c x)

takes-free : (g c : ℕ) (found : List ℤ) → SpendNothing (takes g c found)
takes-free g c [] = free-none
takes-free g c (v ∷ found) =
    free-first _ (takes g (suc c) found) (take-free (record { number = c }) g v) (takes-free g (suc c) found)

raises-free : (up : Option ℕ) (g : ℕ) (a : ℤ) → SpendNothing (raises up g a)
raises-free None g a = free-first (AddV g a) [] (value-free g a) free-none
raises-free (Some y) g a =
    free-first (AddV g a) (AddU y a ∷ []) (value-free g a) (free-first (AddU y a) [] (up-free y a) free-none)

moves_up-free : (tree : Tree) (g : ℕ) (a : ℤ) → SpendNothing (moves_up tree g a)
moves_up-free tree g a = by (int_eq a (pos 0))
  where
    by : (b : Bool) → SpendNothing (if b then [] else raises (parent_of tree g) g a)
    by true = free-none
    by false = raises-free (parent_of tree g) g a

flushes-free : (tree : Tree) (names : List ℕ) (found : List Found) → SpendNothing (flushes_each tree names found)
flushes-free tree [] found = free-none
flushes-free tree (g ∷ names) [] = free-none
flushes-free tree (g ∷ names) (one ∷ found) =
    free-both (flushes tree g one) (flushes_each tree names found)
    (free-both (takes g 0 one.by_cpu) (TakeU g one.up ∷ moves_up tree g (all_of one)) (takes-free g 0 one.by_cpu)
    (free-first (TakeU g one.up) (moves_up tree g (all_of one)) (take_up-free g one.up)
    (moves_up-free tree g (all_of one))))
    (flushes-free tree names found)

-- a change by nothing
change-spends_nothing : (g : ℕ) (a : ℤ) → unsigned_abs a ≡ 0 → SpendNothing (AddP g a ∷ [])
change-spends_nothing g a none = free-first (AddP g a) [] by free-none
  where
    either : (b : Bool) → (if b then unsigned_abs a else 0) ≡ 0
    either true = none
    either false = refl

    by : (who : Option CpuId) (c x : ℕ) → spent_by who c x (AddP g a) ≡ 0
    by None c x = refl
    by (Some o) c x = either (nat_eq o.number c && nat_eq g x)

pub calls-spend_nothing : (facts : GroupFacts) (call : GroupCall) (steps : List GroupStep) (answer : GroupAnswer)
    → IsGroupCall facts call steps answer → ((x : ℕ) → group_spent call x ≡ 0) → SpendNothing steps
calls-spend_nothing facts (Change g a) steps Done is none =
    let same : nat_eq g g ≡ true = eq-eqb g g refl in
    let here : (if nat_eq g g then unsigned_abs a else 0) ≡ unsigned_abs a = rw same refl in
    subst SpendNothing (sym is.in_order) (change-spends_nothing g a (sym here ∙ none g))
calls-spend_nothing facts (Value g) steps (Answers v) is none =
    subst SpendNothing (sym is.in_order) (free-first (LoadV g v) [] (load-free g v) free-none)
calls-spend_nothing facts (Flush g) steps Done (found, is) none =
    subst SpendNothing (sym is.in_order) (flushes-free facts.tree (subtree facts.tree g) found)
calls-spend_nothing facts _ steps _ is none = absurd is

-- what the steps of a call change in size is what the call spends
pub call-changes : (facts : GroupFacts) (x p : ℕ) (call : GroupCall) (steps : List GroupStep) (answer : GroupAnswer)
    → IsGroupCall facts call steps answer → (h : History)
    → total (changed size_of x) (after p steps h) ≡ pos (group_spent call x) +ℤ total (changed size_of x) h
call-changes facts x p (Change g a) steps Done is h =
    ap (λ ks. total (changed size_of x) (after p ks h)) is.in_order ∙ by (nat_eq g x)
  where
    by : (b : Bool) → (if b then size_of a else pos 0) +ℤ total (changed size_of x) h
        ≡ pos (if b then unsigned_abs a else 0) +ℤ total (changed size_of x) h
    by true = refl
    by false = refl
call-changes facts x p (Value g) steps (Answers v) is h =
    ap (λ ks. total (changed size_of x) (after p ks h)) is.in_order
call-changes facts x p (Flush g) steps Done (found, is) h =
    let none = subst SpendNothing (sym is.in_order) (flushes-free facts.tree (subtree facts.tree g) found) in
    let cpu : CpuId = record { number = 0 } in
    omega (arith, ints, nothing-changed cpu x p steps (none (Some cpu) 0 x) h)
call-changes facts x p _ steps _ is h = absurd is

pub call-spends : (facts : GroupFacts) (later earlier : History) (p : ℕ) (call : GroupCall) (steps : List GroupStep)
    (answer : GroupAnswer) → HasMade facts later earlier p steps → IsGroupCall facts call steps answer
    → SpendsSince later earlier p (group_spent call)
call-spends facts later earlier p call steps answer made is c x owns =
    omega (
      arith,
      ints,
      spent-made facts later earlier p steps made c x owns,
      call-changes facts x p call steps answer is (own earlier p),
    )
