-- For other crates too: calls leave what their caller carries, and what the CPUs have spent but for the size of a
-- change.
use Rattle.std.proofs.Common.{◌≡◌, ℕ, ◌+◌, ◌&&◌, Bool, true, false, nat_eq, if◌then◌else◌, ℤ, pos, neg_ℤ, List, [], ◌∷◌}
use Rattle.std.proofs.Common.{◌++◌, Option, Some, None, refl, sym, ap, ◌∙◌, subst, arith, unsigned_abs}
use Rattle.std.proofs.lemmas.Int.{ints}
use Rattle.vms_history.specs.Common.{Diffs, CounterId, CpuId, Mode, ZoneSize, Shape, IsLayout, place_of, group_of}
use Rattle.vms_history.specs.Common.{item_of, own, after, owner, owner_after, owner_in, Works}
use Rattle.vms_core.specs.declared.steps.Facts.{Facts}
use Rattle.vms_core.specs.declared.steps.Step.{Step}
use Rattle.vms_core.specs.declared.steps.Step.TheVariants.{LoadT, LoadD, Put, AddG, AddS, Take, SetO}
use Rattle.vms_core.specs.Common.{entry, carried_by, moved, moved_of_item, History, role, change_size, spent, spent_by}
use Rattle.vms_calls.specs.Common.{CarriesAsBefore, LeavesCaller, ChangesLeave, ChangesSpend, Carries, Exchanges}
use Rattle.vms_calls.specs.Common.{IsChange, nothing, amount, won, missed, IsFold, Buries}
use Rattle.vms_calls.proofs.Amounts.{if-neg_zero, if-cancelled}
use Rattle.vms_calls.proofs.CallSteps.{Each, OfLooks, OfRatings, OfFolds, each-append, fold-each, refresh-each}
use Rattle.vms_calls.proofs.FoldSums.{sum_steps, total-after, sum-append, fold-moves, fold-moves_of_item}

-- a step that moves nothing out of differentials and adds nothing to values
abbrev pub IsStill : Step → Type 0
IsStill (Put k w t delta how) = ⊥
IsStill (Take c j w) = ⊥
IsStill (AddG k a) = ⊥
IsStill (AddS i a) = ⊥
IsStill _ = Unit {0}

-- a step that is no put spends nothing
abbrev pub IsNoPut : Step → Type 0
IsNoPut (Put k w t delta how) = ⊥
IsNoPut _ = Unit {0}

pub looks-still : OfLooks IsStill
looks-still = record {
  value = λ k v. tt;
  system = λ i v. tt;
  group = λ c j w. tt;
  mark = λ g m a. tt;
  cpu = λ c x. tt;
}

pub ratings-still : OfRatings IsStill
ratings-still =
    record { looks = looks-still; acknowledged = λ c g x. tt; threshold = λ c g t. tt; set_mark = λ g m. tt }

folds-no_put : OfFolds IsNoPut
folds-no_put = record {
  threshold = λ g t a. tt;
  take = λ c j w. tt;
  place = λ k z. tt;
  system = λ i z. tt;
  acknowledge = λ g a. tt;
}

still-no_put : (step : Step) → IsStill step → IsNoPut step
still-no_put (Put k w t delta how) still = still
still-no_put _ still = tt

each-no_put : (steps : List Step) → Each IsStill steps → Each IsNoPut steps
each-no_put [] still = tt
each-no_put (step ∷ steps) still = (still-no_put step still.0, each-no_put steps still.1)

step-moves : (k : ℕ) (step : Step) → IsStill step → moved k step ≡ pos 0
step-moves k (Put l w t delta how) still = absurd still
step-moves k (Take c j w) still = absurd still
step-moves k (AddG l a) still = absurd still
step-moves k (AddS l a) still = absurd still
step-moves k _ still = refl

step-moves_of_item : (shape : Shape) (i : ℕ) (step : Step) → IsStill step → moved_of_item shape i step ≡ pos 0
step-moves_of_item shape i (Put l w t delta how) still = absurd still
step-moves_of_item shape i (Take c j w) still = absurd still
step-moves_of_item shape i (AddG l a) still = absurd still
step-moves_of_item shape i (AddS l a) still = absurd still
step-moves_of_item shape i _ still = refl

sum-none : (Kind : Step → Type 0) (m : Step → ℤ) → ((step : Step) → Kind step → m step ≡ pos 0)
    → (steps : List Step) → Each Kind steps → sum_steps m steps ≡ pos 0
sum-none Kind m none [] each = refl
sum-none Kind m none (step ∷ steps) each =
    omega (arith, ints, none step each.0, sum-none Kind m none steps each.1)

step-changes : (k : ℕ) (step : Step) → IsNoPut step → change_size k step ≡ pos 0
step-changes k (Put l w t delta how) no_put = absurd no_put
step-changes k _ no_put = refl

step-spends : (who : Option CpuId) (c k : ℕ) (step : Step) → IsNoPut step → spent_by who c k step ≡ 0
step-spends None c k step no_put = refl
step-spends (Some d) c k (Put l w t delta how) no_put = absurd no_put
step-spends (Some d) c k _ no_put = refl

pub spent-no_put : (p : ℕ) (steps : List Step) (h : History) → Each IsNoPut steps → (c k : ℕ)
    → spent (after p steps h) c k ≡ spent h c k
spent-no_put p [] h no_put c k = refl
spent-no_put p (step ∷ steps) h no_put c k = omega (
  arith,
  spent-no_put p steps (record { caller = p; step = step } ∷ h) no_put.1 c k,
  step-spends (owner_in role h p) c k step no_put.0,
)

-- steps that move nothing in sum, and that are no puts
pub record Balanced (shape : Shape) (steps : List Step) : Type 0 where
  pub counters : (k : ℕ) → sum_steps (moved k) steps ≡ pos 0
  pub items : (i : ℕ) → sum_steps (moved_of_item shape i) steps ≡ pos 0

pub balanced-carries : (shape : Shape) (steps : List Step) → Balanced shape steps → (p : ℕ) (h : History)
    → CarriesAsBefore shape p steps h
balanced-carries shape steps balanced p h = record {
  counters = λ k. omega (arith, ints, total-after (moved k) p steps h, balanced.counters k);
  items = λ i. omega (arith, ints, total-after (moved_of_item shape i) p steps h, balanced.items i);
}

still-balanced : (shape : Shape) (steps : List Step) → Each IsStill steps → Balanced shape steps
still-balanced shape steps still = record {
  counters = λ k. sum-none IsStill (moved k) (step-moves k) steps still;
  items = λ i. sum-none IsStill (moved_of_item shape i) (step-moves_of_item shape i) steps still;
}

append-balanced : (shape : Shape) (xs ys : List Step) → Balanced shape xs → Balanced shape ys
    → Balanced shape (xs ++ ys)
append-balanced shape xs ys first second = record {
  counters = λ k. omega (arith, ints, sum-append (moved k) xs ys, first.counters k, second.counters k);
  items = λ i. omega (arith, ints, sum-append (moved_of_item shape i) xs ys, first.items i, second.items i);
}

balanced-leaves : (shape : Shape) (steps : List Step) → Balanced shape steps → Each IsNoPut steps → (p : ℕ)
    (h : History) → LeavesCaller shape p steps h
balanced-leaves shape steps balanced no_put p h =
    record {
      carries = balanced-carries shape steps balanced p h;
      changes = λ k. omega (
        arith,
        ints,
        total-after (change_size k) p steps h,
        sum-none IsNoPut (change_size k) (step-changes k) steps no_put,
      );
      spends = spent-no_put p steps h no_put;
    }

-- steps that move nothing leave all
pub still-leaves : (shape : Shape) (p : ℕ) (steps : List Step) (h : History) → Each IsStill steps
    → LeavesCaller shape p steps h
still-leaves shape p steps h still =
    balanced-leaves shape steps (still-balanced shape steps still) (each-no_put steps still) p h

-- a fold does
fold-balanced : (shape : Shape) → IsLayout shape → (is_own : Bool) (c : CpuId) (steps : List Step)
    → IsFold shape is_own c steps → Balanced shape steps
fold-balanced shape layout is_own c steps fold = record {
  counters = fold-moves shape layout is_own c steps fold;
  items = fold-moves_of_item shape layout is_own c steps fold;
}

pub fold-leaves : (shape : Shape) → IsLayout shape → (is_own : Bool) (c : CpuId) (p : ℕ) (steps : List Step)
    (h : History) → IsFold shape is_own c steps → LeavesCaller shape p steps h
fold-leaves shape layout is_own c p steps h fold =
    balanced-leaves shape steps (fold-balanced shape layout is_own c steps fold)
    (fold-each IsNoPut folds-no_put shape is_own c steps fold) p h

pub burial-leaves : (facts : Facts) (normal : ZoneSize → ℕ → ℕ → Type 0) → IsLayout facts.layout → (c : CpuId) (p : ℕ)
    (began : History) (steps : List Step) → Buries facts normal c p began steps → (h : History)
    → LeavesCaller facts.layout p steps h
burial-leaves facts normal layout c p began steps buries h =
    let still : Each IsStill (SetO c ∷ buries.refresh) = (
      tt,
      refresh-each IsStill ratings-still facts normal p
          (after p (buries.fold ++ (SetO c ∷ [])) began) buries.refresh buries.refreshes,
    ) in
    subst (λ ks. LeavesCaller facts.layout p ks h) (sym buries.in_order)
    (balanced-leaves facts.layout (buries.fold ++ (SetO c ∷ buries.refresh))
    (append-balanced facts.layout buries.fold (SetO c ∷ buries.refresh)
    (fold-balanced facts.layout layout false c buries.fold buries.folds)
    (still-balanced facts.layout (SetO c ∷ buries.refresh) still))
    (each-append IsNoPut buries.fold (SetO c ∷ buries.refresh)
    (fold-each IsNoPut folds-no_put facts.layout false c buries.fold buries.folds)
    (each-no_put (SetO c ∷ buries.refresh) still)) p h)

-- what a change moves: the exchange carries an amount, and the additions add it
additions-move : (shape : Shape) (k : CounterId) (z : ℤ) (steps : List Step) → Carries shape k z steps → (l : ℕ)
    → sum_steps (moved l) steps ≡ (if nat_eq k.number l then neg_ℤ z else pos 0)
additions-move shape k z steps nothing l = sym (if-neg_zero (nat_eq k.number l))
additions-move shape k z steps (amount a some) l = omega (arith, ints)

additions-move_of_item : (shape : Shape) (k : CounterId) (z : ℤ) (steps : List Step) → Carries shape k z steps
    → (i : ℕ) → sum_steps (moved_of_item shape i) steps ≡ (if nat_eq (item_of shape k.number) i then neg_ℤ z else pos 0)
additions-move_of_item shape k z steps nothing i = sym (if-neg_zero (nat_eq (item_of shape k.number) i))
additions-move_of_item shape k z steps (amount a some) i = omega (arith, ints)

exchange-moves : (k : CounterId) (w : Diffs) (t : ℕ) (delta : ℤ) (how : Mode) (last : Diffs) (steps : List Step)
    → Exchanges k w t delta how last steps → (l : ℕ)
    → sum_steps (moved l) steps
    ≡ (if nat_eq k.number l then carried_by how t (entry last.values k.number) delta else pos 0)
exchange-moves k w t delta how last steps won l = omega (arith, ints)
exchange-moves k w t delta how last steps (missed zeros are) l = omega (arith, ints)

exchange-moves_of_item : (shape : Shape) (k : CounterId) (w : Diffs) (t : ℕ) (delta : ℤ) (how : Mode) (last : Diffs)
    (steps : List Step) → Exchanges k w t delta how last steps → (i : ℕ)
    → sum_steps (moved_of_item shape i) steps
    ≡ (if nat_eq (item_of shape k.number) i then carried_by how t (entry last.values k.number) delta else pos 0)
exchange-moves_of_item shape k w t delta how last steps won i = omega (arith, ints)
exchange-moves_of_item shape k w t delta how last steps (missed zeros are) i = omega (arith, ints)

change-carries : (shape : Shape) (cpu : CpuId) (k : CounterId) (delta : ℤ) (how : Mode) (steps : List Step)
    → IsChange shape cpu k delta how steps → (p : ℕ) (h : History) → CarriesAsBefore shape p steps h
change-carries shape cpu k delta how steps change p h =
    subst (λ ks. CarriesAsBefore shape p ks h) (sym change.in_order)
    (balanced-carries shape _ (record {
      counters = λ l. omega (
        arith,
        ints,
        sum-append (moved l) change.exchange change.additions,
        exchange-moves k change.first change.t delta how change.last change.exchange change.exchanges l,
        additions-move shape k (carried_by how change.t (entry change.last.values k.number) delta) change.additions
            change.carries l,
        if-cancelled (nat_eq k.number l) (carried_by how change.t (entry change.last.values k.number) delta) (pos 0),
      );
      items = λ i. omega (
        arith,
        ints,
        sum-append (moved_of_item shape i) change.exchange change.additions,
        exchange-moves_of_item shape k change.first change.t delta how change.last change.exchange change.exchanges i,
        additions-move_of_item shape k (carried_by how change.t (entry change.last.values k.number) delta)
            change.additions change.carries i,
        if-cancelled (nat_eq (item_of shape k.number) i)
            (carried_by how change.t (entry change.last.values k.number) delta) (pos 0),
      );
    }) p h)

additions-change : (shape : Shape) (k : CounterId) (z : ℤ) (steps : List Step) → Carries shape k z steps → (l : ℕ)
    → sum_steps (change_size l) steps ≡ pos 0
additions-change shape k z steps nothing l = refl
additions-change shape k z steps (amount a some) l = refl

exchange-changes : (k : CounterId) (w : Diffs) (t : ℕ) (delta : ℤ) (how : Mode) (last : Diffs) (steps : List Step)
    → Exchanges k w t delta how last steps → (l : ℕ)
    → sum_steps (change_size l) steps ≡ (if nat_eq k.number l then pos (unsigned_abs delta) else pos 0)
exchange-changes k w t delta how last steps won l = omega (arith, ints)
exchange-changes k w t delta how last steps (missed zeros are) l = omega (arith, ints)

pub change-leaves : ChangesLeave
change-leaves shape cpu k delta how steps change p h = record {
  carries = change-carries shape cpu k delta how steps change p h;
  changes = λ l. omega (
    arith,
    ints,
    total-after (change_size l) p steps h,
    ap (sum_steps (change_size l)) change.in_order,
    sum-append (change_size l) change.exchange change.additions,
    exchange-changes k change.first change.t delta how change.last change.exchange change.exchanges l,
    additions-change shape k (carried_by how change.t (entry change.last.values k.number) delta) change.additions
        change.carries l,
  );
}

-- a step that works leaves the owners
owner_in-working : (p : ℕ) (step : Step) (h : History) (q : ℕ) → role step ≡ Works
    → owner_in role (record { caller = p; step = step } ∷ h) q ≡ owner_in role h q
owner_in-working p step h q works = by (nat_eq p 0)
  where
    by : (b : Bool)
        → owner role (if b then record { caller = p; step = step } ∷ own h 0 else own h 0) q ≡ owner role (own h 0) q
    by true = ap (λ does. owner_after does q (owner role (own h 0) q)) works
    by false = refl

-- what working steps of a pass that owns `who` spend in a row
abbrev spend_of : Option CpuId → ℕ → ℕ → List Step → ℕ
spend_of who c k [] = 0
spend_of who c k (step ∷ steps) = spent_by who c k step + spend_of who c k steps

abbrev WorkOnly : Step → Type 0
WorkOnly step = role step ≡ Works

spent-working : (p : ℕ) (who : Option CpuId) (steps : List Step) (h : History) → Each WorkOnly steps
    → owner_in role h p ≡ who → (c k : ℕ) → spent (after p steps h) c k ≡ spend_of who c k steps + spent h c k
spent-working p who [] h work is c k = omega arith
spent-working p who (step ∷ steps) h work is c k = omega (
  arith,
  spent-working p who steps (record { caller = p; step = step } ∷ h) work.1
      (owner_in-working p step h p work.0 ∙ is) c k,
  ap (λ o. spent_by o c k step) is,
)

spend-append : (who : Option CpuId) (c k : ℕ) (xs ys : List Step)
    → spend_of who c k (xs ++ ys) ≡ spend_of who c k xs + spend_of who c k ys
spend-append who c k [] ys = omega arith
spend-append who c k (x ∷ xs) ys = omega (arith, spend-append who c k xs ys)

additions-work : (shape : Shape) (k : CounterId) (z : ℤ) (steps : List Step) → Carries shape k z steps
    → Each WorkOnly steps
additions-work shape k z steps nothing = tt
additions-work shape k z steps (amount a some) = (refl, (refl, tt))

exchange-works : (k : CounterId) (w : Diffs) (t : ℕ) (delta : ℤ) (how : Mode) (last : Diffs) (steps : List Step)
    → Exchanges k w t delta how last steps → Each WorkOnly steps
exchange-works k w t delta how last steps won = (refl, tt)
exchange-works k w t delta how last steps (missed zeros are) = (refl, (refl, tt))

module _ (cpu : CpuId) (c l : ℕ) where
  additions-spend : (shape : Shape) (k : CounterId) (z : ℤ) (steps : List Step) → Carries shape k z steps
      → spend_of (Some cpu) c l steps ≡ 0
  additions-spend shape k z steps nothing = refl
  additions-spend shape k z steps (amount a some) = refl

  exchange-spends : (k : CounterId) (w : Diffs) (t : ℕ) (delta : ℤ) (how : Mode) (last : Diffs) (steps : List Step)
      → Exchanges k w t delta how last steps
      → spend_of (Some cpu) c l steps ≡ (if nat_eq cpu.number c && nat_eq k.number l then unsigned_abs delta else 0)
  exchange-spends k w t delta how last steps won = omega arith
  exchange-spends k w t delta how last steps (missed zeros are) = omega arith

if-more : (b : Bool) (x y : ℕ) → (if b then x else 0) + y ≡ (if b then x + y else y)
if-more true x y = refl
if-more false x y = omega arith

pub change-spends : ChangesSpend
change-spends shape cpu k delta how steps change p h is c l =
    spent-working p (Some cpu) steps h (subst (Each WorkOnly) (sym change.in_order) work) is c l
    ∙ ap (λ n. n + spent h c l) (ap (spend_of (Some cpu) c l) change.in_order ∙ spends)
    ∙ if-more (nat_eq cpu.number c && nat_eq k.number l) (unsigned_abs delta) (spent h c l)
  where
    z : ℤ
    z = carried_by how change.t (entry change.last.values k.number) delta

    work : Each WorkOnly (LoadT (record { number = place_of shape k.number }) change.t change.number
        ∷ LoadD cpu (record { number = group_of k.number }) change.first ∷ (change.exchange ++ change.additions))
    work = (
      refl,
      (
        refl,
        each-append WorkOnly change.exchange change.additions
            (exchange-works k change.first change.t delta how change.last change.exchange change.exchanges)
            (additions-work shape k z change.additions change.carries),
      ),
    )

    spends : 0 + (0 + spend_of (Some cpu) c l (change.exchange ++ change.additions))
        ≡ (if nat_eq cpu.number c && nat_eq k.number l then unsigned_abs delta else 0)
    spends = omega (
      arith,
      spend-append (Some cpu) c l change.exchange change.additions,
      exchange-spends cpu c l k change.first change.t delta how change.last change.exchange change.exchanges,
      additions-spend cpu c l shape k z change.additions change.carries,
    )
