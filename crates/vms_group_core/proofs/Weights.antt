-- Each change is counted once: measured in whichever way that makes no sum more than its parts, no step makes what
-- stands and is carried in a subtree grow by more than it changes there.
use Rattle.std.proofs.Common.{◌≡◌, ℕ, zero, suc, ◌<◌, ◌&&◌, Bool, true, false, List, [], ◌∷◌, Option, Some, None, ℤ}
use Rattle.std.proofs.Common.{pos, neg_ℤ, ◌+ℤ◌, ◌≤ℤ◌, refl, sym, ap, subst, ◌∙◌, arith, if◌then◌else◌, nat_eq, eqb-true}
use Rattle.std.proofs.Common.{Contains, true≢false}
use Rattle.std.proofs.lemmas.Int.{ints}
use Rattle.std.specs.Ordering.{int_eq}
use Rattle.std.proofs.lemmas.Bool.Decides.{Decides-int_eq}
use Rattle.vms_history.specs.Common.{CpuId, own, owner_in, begun_in, sum_below, total}
use Rattle.vms_history.proofs.Common.{sum_below-same, sum_below-zeros, sum_below-one, sum_below-callers, base_can_begin}
use Rattle.vms_history.proofs.Common.{caller_is_below}
use Rattle.vms_group_core.specs.declared.states.GroupState.{GroupState}
use Rattle.vms_group_core.specs.declared.steps.GroupFacts.{GroupFacts}
use Rattle.vms_group_core.specs.declared.steps.GroupStep.{GroupStep}
use Rattle.vms_group_core.specs.declared.steps.GroupStep.TheVariants.{AddP, TakeP, TakeU, AddV, AddU}
use Rattle.vms_group_core.specs.declared.trees.Tree.{Tree}
use Rattle.vms_group_core.specs.Common.{IsTree, IsGroup, IsTreeCpu, is_child, over_subtree, HasShape, value_at, up_at}
use Rattle.vms_group_core.specs.Common.{pending_at, pending_of, standing, effect, role, moved, carried, without}
use Rattle.vms_group_core.specs.Common.{carried_up, carried_up_after, sum_of, in_hand, changed, Meets, groups, History}
use Rattle.vms_group_core.specs.Common.{TakesPending, TakesUp, AddsToValue, AddsUp, IsLegal, state_after}
use Rattle.vms_group_core.specs.Common.{carried_by_all, held}
use Rattle.vms_group_core.proofs.Effects.{value_after, up_after, pending_after, value_at-effect, up_at-effect}
use Rattle.vms_group_core.proofs.Effects.{pending_at-effect, HasShape-state_after, owner_known}
use Rattle.vms_group_core.proofs.SubtreeSums.{over-sum, over-zeros, over-le, over-raised}

-- a measure of amounts by which no sum is more than its parts
pub record IsMeasure (m : ℤ → ℤ) : Type 0 where
  pub none : m (pos 0) ≡ pos 0
  pub parts : (a b : ℤ) → m (a +ℤ b) ≤ℤ (m a +ℤ m b)

-- what a step brings to what is pending and carried for group x: a change, what was added to the value of a child, and
-- less what was added to the value of x
abbrev pub brought : (ℤ → ℤ) → Tree → ℕ → GroupStep → ℤ
brought m tree x (AddP y a) = if nat_eq y x then m a else pos 0
brought m tree x (AddV y a) = (if is_child tree y x then m a else pos 0) +ℤ (if nat_eq y x then neg_ℤ (m a) else pos 0)
brought m tree x _ = pos 0

-- what a step brings to the value of group g
abbrev pub raised : (ℤ → ℤ) → ℕ → GroupStep → ℤ
raised m g (AddV y a) = if nat_eq y g then m a else pos 0
raised m g _ = pos 0

-- all that a step brings in a subtree is what it changes there
brought-adds_up : (m : ℤ → ℤ) (facts : GroupFacts) (h : History) (s : GroupState) (p g : ℕ) (step : GroupStep)
    → IsTree facts.tree → IsGroup facts.tree g → Meets facts h s p step
    → over_subtree facts.tree g (λ x. brought m facts.tree x step) +ℤ raised m g step
    ≡ over_subtree facts.tree g (λ x. changed m x step)
brought-adds_up m facts h s p g (AddP y a) is g_in meets = omega (arith, ints)
brought-adds_up m facts h s p g (AddV y a) is g_in meets =
    let none = over-zeros facts.tree g (λ x. pos 0) (λ x x_in. refl) in
    omega (arith, ints, over-raised facts.tree g y (m a) is g_in meets.group, none)
brought-adds_up m facts h s p g _ is g_in meets = omega (arith, ints)

total-adds_up : (m : ℤ → ℤ) (facts : GroupFacts) (h : History) (g : ℕ) → IsLegal facts h → IsGroup facts.tree g
    → over_subtree facts.tree g (λ x. total (brought m facts.tree x) h) +ℤ total (raised m g) h
    ≡ over_subtree facts.tree g (λ x. total (changed m x) h)
total-adds_up m facts [] g legal g_in = omega (arith, ints)
total-adds_up m facts (e ∷ h) g legal g_in =
    let is = (base_can_begin groups facts h legal.0).tree in
    let step = brought-adds_up m facts h (state_after facts h) e.caller g e.step is g_in legal.2 in
    let first = over-sum facts.tree g (λ x. brought m facts.tree x e.step) (λ x. total (brought m facts.tree x) h) in
    let second = over-sum facts.tree g (λ x. changed m x e.step) (λ x. total (changed m x) h) in
    omega (arith, ints, step, first, second, total-adds_up m facts h g legal.0 g_in)

module _ (m : ℤ → ℤ) (is : IsMeasure m) where
  -- an amount that is used up was there
  sum_of-without : (a : ℤ) (amounts : List ℤ) → Contains amounts a
      → sum_of m (without a amounts) +ℤ m a ≡ sum_of m amounts
  sum_of-without a [] (k, within, at) = absurd (omega arith)
  sum_of-without a (b ∷ amounts) (zero, within, at) = by (int_eq b a) refl
    where
      by : (t : Bool) → int_eq b a ≡ t
          → sum_of m (if t then amounts else b ∷ without a amounts) +ℤ m a ≡ m b +ℤ sum_of m amounts
      by true same = omega (arith, ints, ap m at)
      by false differ = absurd (true≢false (sym ((Decides-int_eq b a).1 at) ∙ differ))
  sum_of-without a (b ∷ amounts) (suc k, within, at) =
      by (int_eq b a) refl (sum_of-without a amounts (k, omega arith, at))
    where
      by : (t : Bool) → int_eq b a ≡ t → sum_of m (without a amounts) +ℤ m a ≡ sum_of m amounts
          → sum_of m (if t then amounts else b ∷ without a amounts) +ℤ m a ≡ m b +ℤ sum_of m amounts
      by true same rest = omega (arith, ints, ap m ((Decides-int_eq b a).0 same))
      by false differ rest = omega (arith, ints, rest)

  -- words of CPUs: one grows, where b says that it is of this group, or is taken
  grown-weighs : (b : Bool) (pending : ℕ → ℤ) (a : ℤ) (d n : ℕ) → d < n
      → sum_below (λ c. m (if nat_eq d c && b then pending c +ℤ a else pending c)) n
      ≤ℤ (sum_below (λ c. m (pending c)) n +ℤ (if b then m a else pos 0))
  grown-weighs true pending a d n d_in =
      let one = sum_below-one m pending (λ c. pending c +ℤ a) d n true d_in in
      omega (arith, ints, one, is.parts (pending d) a)
  grown-weighs false pending a d n d_in =
      let one = sum_below-one m pending (λ c. pending c +ℤ a) d n false d_in in omega (arith, ints, one)

  taken-weighs : (b : Bool) (pending : ℕ → ℤ) (v : ℤ) (d n : ℕ) → d < n → (b ≡ true → pending d ≡ v)
      → sum_below (λ c. m (if nat_eq d c && b then pos 0 else pending c)) n +ℤ (if b then m v else pos 0)
      ≡ sum_below (λ c. m (pending c)) n
  taken-weighs true pending v d n d_in told =
      let one = sum_below-one m pending (λ c. pos 0) d n true d_in in
      omega (arith, ints, one, is.none, ap m (told refl))
  taken-weighs false pending v d n d_in told =
      let one = sum_below-one m pending (λ c. pos 0) d n false d_in in omega (arith, ints, one)

  none-more : (a : ℤ) → m (pos 0 +ℤ a) ≡ m a
  none-more a = ap m (let same : pos 0 +ℤ a ≡ a = omega (arith, ints) in same)

  module _ (facts : GroupFacts) (h : History) (s : GroupState) (p x : ℕ) where
    -- what is pending and carried for group x after a step
    abbrev weight_after : Option CpuId → GroupStep → ℤ
    weight_after who step =
        (sum_below (λ c. m (pending_after who c x step (pending_at facts.tree s c x))) facts.tree.cpus
        +ℤ m (up_after x step (up_at s x)))
        +ℤ (m (moved x step +ℤ carried x (own h p))
        +ℤ sum_of m (carried_up_after facts.tree x step (carried_up facts.tree x (own h p))))

    abbrev weight : ℤ
    weight = pending_of m facts.tree s x +ℤ in_hand m facts.tree x (own h p)

    -- names that stand for one another
    same_group : (y : ℕ) → nat_eq y x ≡ true → y ≡ x
    same_group y same = eqb-true y x same

    take-weighs : (b : Bool) (d : CpuId) (y : ℕ) (v : ℤ) → nat_eq y x ≡ b → TakesPending facts.tree s d y v
        → ((sum_below (λ c. m (if nat_eq d.number c && b then pos 0 else pending_at facts.tree s c x)) facts.tree.cpus
        +ℤ m (up_at s x)) +ℤ (m ((if b then v else pos 0) +ℤ carried x (own h p))
        +ℤ sum_of m (carried_up facts.tree x (own h p)))) ≤ℤ (weight +ℤ pos 0)
    take-weighs true d y v same meets =
        let told : pending_at facts.tree s d.number x ≡ v =
        ap (pending_at facts.tree s d.number) (sym (same_group y same)) ∙ meets.value in
        let words = taken-weighs true (λ c. pending_at facts.tree s c x) v d.number facts.tree.cpus meets.cpu
        (λ _. told) in
        omega (arith, ints, words, is.parts v (carried x (own h p)))
    take-weighs false d y v same meets =
        let words = taken-weighs false (λ c. pending_at facts.tree s c x) v d.number facts.tree.cpus meets.cpu
        (λ never. absurd (true≢false (sym never))) in
        omega (arith, ints, words, none-more (carried x (own h p)))

    take_up-weighs : (b : Bool) (y : ℕ) (v : ℤ) → nat_eq y x ≡ b → TakesUp facts.tree s y v
        → ((sum_below (λ c. m (pending_at facts.tree s c x)) facts.tree.cpus +ℤ m (if b then pos 0 else up_at s x))
        +ℤ (m ((if b then v else pos 0) +ℤ carried x (own h p))
        +ℤ sum_of m (carried_up facts.tree x (own h p)))) ≤ℤ (weight +ℤ pos 0)
    take_up-weighs true y v same meets =
        let told : up_at s x ≡ v = ap (up_at s) (sym (same_group y same)) ∙ meets.value in
        omega (arith, ints, ap m told, is.none, is.parts v (carried x (own h p)))
    take_up-weighs false y v same meets = omega (arith, ints, none-more (carried x (own h p)))

    lifted : (b : Bool) (a : ℤ) (amounts : List ℤ)
        → sum_of m (if b then a ∷ amounts else amounts) ≡ (if b then m a else pos 0) +ℤ sum_of m amounts
    lifted true a amounts = refl
    lifted false a amounts = omega (arith, ints)

    raise-weighs : (b child : Bool) (y : ℕ) (a : ℤ) → nat_eq y x ≡ b → AddsToValue facts.tree h p y a
        → (pending_of m facts.tree s x +ℤ (m ((if b then neg_ℤ a else pos 0) +ℤ carried x (own h p))
        +ℤ sum_of m (if child then a ∷ carried_up facts.tree x (own h p) else carried_up facts.tree x (own h p))))
        ≤ℤ (weight +ℤ ((if child then m a else pos 0) +ℤ (if b then neg_ℤ (m a) else pos 0)))
    raise-weighs true child y a same meets =
        let all : carried x (own h p) ≡ a = ap (λ n. carried n (own h p)) (sym (same_group y same)) ∙ meets.carries in
        let nothing : neg_ℤ a +ℤ carried x (own h p) ≡ pos 0 = omega (arith, ints, all) in
        omega (
          arith,
          ints,
          ap m all,
          ap m nothing,
          is.none,
          lifted child a (carried_up facts.tree x (own h p)),
        )
    raise-weighs false child y a same meets =
        omega (arith, ints, none-more (carried x (own h p)), lifted child a (carried_up facts.tree x (own h p)))

    up-weighs : (b : Bool) (y : ℕ) (a : ℤ) → nat_eq y x ≡ b → AddsUp facts.tree h p y a
        → ((sum_below (λ c. m (pending_at facts.tree s c x)) facts.tree.cpus
        +ℤ m (if b then up_at s x +ℤ a else up_at s x)) +ℤ (m (pos 0 +ℤ carried x (own h p))
        +ℤ sum_of m (if b then without a (carried_up facts.tree x (own h p)) else carried_up facts.tree x (own h p))))
        ≤ℤ (weight +ℤ pos 0)
    up-weighs true y a same meets =
        let there : Contains (carried_up facts.tree x (own h p)) a =
        subst (λ n. Contains (carried_up facts.tree n (own h p)) a) (same_group y same) meets.carries in
        omega (
          arith,
          ints,
          none-more (carried x (own h p)),
          is.parts (up_at s x) a,
          sum_of-without a (carried_up facts.tree x (own h p)) there,
        )
    up-weighs false y a same meets = omega (arith, ints, none-more (carried x (own h p)))

    step-weighs : (who : Option CpuId) (step : GroupStep) → owner_in role h p ≡ who
        → ((d : CpuId) → who ≡ Some d → IsTreeCpu facts.tree d.number) → Meets facts h s p step
        → weight_after who step ≤ℤ (weight +ℤ brought m facts.tree x step)
    step-weighs None (AddP y a) owns known meets = let some = meets.owns in absurd (cc)
    step-weighs (Some d) (AddP y a) owns known meets =
        omega (
          arith,
          ints,
          grown-weighs (nat_eq y x) (λ c. pending_at facts.tree s c x) a d.number facts.tree.cpus (known d refl),
          none-more (carried x (own h p)),
        )
    step-weighs None (TakeP d y v) owns known meets = take-weighs (nat_eq y x) d y v refl meets
    step-weighs (Some o) (TakeP d y v) owns known meets = take-weighs (nat_eq y x) d y v refl meets
    step-weighs None (TakeU y v) owns known meets = take_up-weighs (nat_eq y x) y v refl meets
    step-weighs (Some o) (TakeU y v) owns known meets = take_up-weighs (nat_eq y x) y v refl meets
    step-weighs None (AddV y a) owns known meets = raise-weighs (nat_eq y x) (is_child facts.tree y x) y a refl meets
    step-weighs (Some o) (AddV y a) owns known meets =
        raise-weighs (nat_eq y x) (is_child facts.tree y x) y a refl meets
    step-weighs None (AddU y a) owns known meets = up-weighs (nat_eq y x) y a refl meets
    step-weighs (Some o) (AddU y a) owns known meets = up-weighs (nat_eq y x) y a refl meets
    step-weighs None _ owns known meets = omega (arith, ints, none-more (carried x (own h p)))
    step-weighs (Some o) _ owns known meets = omega (arith, ints, none-more (carried x (own h p)))

    -- the same of the state after the step
    pending_of-effect : HasShape facts.tree s → IsGroup facts.tree x → (who : Option CpuId) (step : GroupStep)
        → ((d : CpuId) → who ≡ Some d → IsTreeCpu facts.tree d.number) → Meets facts h s p step
        → pending_of m facts.tree (effect facts who step s) x
        ≡ sum_below (λ c. m (pending_after who c x step (pending_at facts.tree s c x))) facts.tree.cpus
        +ℤ m (up_after x step (up_at s x))
    pending_of-effect shaped x_in who step known meets =
        let words = sum_below-same (λ c. m (pending_at facts.tree (effect facts who step s) c x))
        (λ c. m (pending_after who c x step (pending_at facts.tree s c x))) facts.tree.cpus
        (λ c c_in. ap m (pending_at-effect facts h s p shaped who step c x known meets x_in)) in
        omega (arith, ints, words, ap m (up_at-effect facts h s p shaped who step x meets))

    -- the value of a group grows by what is brought to it
    raised-weighs : HasShape facts.tree s → (who : Option CpuId) (step : GroupStep) → Meets facts h s p step
        → m (value_at (effect facts who step s) x) ≤ℤ (m (value_at s x) +ℤ raised m x step)
    raised-weighs shaped who step meets =
        let after = ap m (value_at-effect facts h s p shaped who step x meets) in
        let more = by step in
        omega (arith, ints, after, more)
      where
        one : (b : Bool) (a : ℤ) → m (if b then value_at s x +ℤ a else value_at s x)
            ≤ℤ (m (value_at s x) +ℤ (if b then m a else pos 0))
        one true a = is.parts (value_at s x) a
        one false a = omega (arith, ints)

        by : (step : GroupStep) → m (value_after x step (value_at s x)) ≤ℤ (m (value_at s x) +ℤ raised m x step)
        by (AddV y a) = one (nat_eq y x) a
        by _ = omega (arith, ints)

  -- over a whole history, for one group
  group-weighs : (facts : GroupFacts) (h : History) (x n : ℕ) → IsLegal facts h → IsGroup facts.tree x
      → begun_in role h < n
      → (pending_of m facts.tree (state_after facts h) x +ℤ sum_below (λ p. in_hand m facts.tree x (own h p)) n)
      ≤ℤ (pending_of m facts.tree facts.base x +ℤ total (brought m facts.tree x) h)
  group-weighs facts [] x n legal x_in above =
      let none : in_hand m facts.tree x [] ≡ pos 0 = omega (arith, ints, is.none) in
      omega (arith, ints, sum_below-zeros (λ p. in_hand m facts.tree x []) n (λ p below. none))
  group-weighs facts (e ∷ h) x n legal x_in above =
      let below = caller_is_below groups facts e h n legal above in
      let s = state_after facts h in
      let who = owner_in role h e.caller in
      let known = owner_known facts h e.caller legal.0 in
      let step = step-weighs facts h s e.caller x who e.step refl known legal.2 in
      let words = pending_of-effect facts h s e.caller x (HasShape-state_after facts h legal.0) x_in who e.step known
      legal.2 in
      let callers = sum_below-callers (in_hand m facts.tree x) e h n below.0 in
      omega (arith, ints, step, words, callers, group-weighs facts h x n legal.0 x_in below.1)

  value-weighs : (facts : GroupFacts) (h : History) (g : ℕ) → IsLegal facts h
      → m (value_at (state_after facts h) g) ≤ℤ (m (value_at facts.base g) +ℤ total (raised m g) h)
  value-weighs facts [] g legal = omega (arith, ints)
  value-weighs facts (e ∷ h) g legal =
      omega (
        arith,
        ints,
        raised-weighs facts h (state_after facts h) e.caller g (HasShape-state_after facts h legal.0)
            (owner_in role h e.caller) e.step legal.2,
        value-weighs facts h g legal.0,
      )

  -- what stands and is carried in a subtree is no more than what stood there in the base and what changed since
  pub held-weighs : (facts : GroupFacts) (h : History) (g : ℕ) → IsLegal facts h → IsGroup facts.tree g
      → held m facts h g
      ≤ℤ (standing m facts.tree facts.base g +ℤ over_subtree facts.tree g (λ x. total (changed m x) h))
  held-weighs facts h g legal g_in =
      let tree = facts.tree in
      let each = over-le tree g
      (λ x. pending_of m tree (state_after facts h) x +ℤ carried_by_all m tree h x)
      (λ x. pending_of m tree facts.base x +ℤ total (brought m tree x) h)
      (λ x x_in. group-weighs facts h x (suc (begun_in role h)) legal x_in (omega arith)) in
      let left = over-sum tree g (pending_of m tree (state_after facts h)) (carried_by_all m tree h) in
      let right = over-sum tree g (pending_of m tree facts.base) (λ x. total (brought m tree x) h) in
      let changes = total-adds_up m facts h g legal g_in in
      omega (arith, ints, each, left, right, changes, value-weighs facts h g legal)
