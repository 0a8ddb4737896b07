-- How large words and carried amounts are.
use Rattle.std.proofs.Common.{◌≡◌, ℕ, suc, ◌*◌, ◌≤◌, List, [], ◌∷◌, ℤ, pos, ◌+ℤ◌, ◌≤ℤ◌, All, inl, inr, refl, ap, arith}
use Rattle.std.proofs.Common.{mul-le-mul}
use Rattle.std.proofs.lemmas.Int.{ints}
use Rattle.std.proofs.lemmas.Bool.{cases_lt}
use Rattle.std.proofs.lemmas.List.Elements.{All-nil, All-cons}
use Rattle.vms_history.specs.Common.{own, begun_in, most_volume, sum_below, total}
use Rattle.vms_history.proofs.Common.{own-not_given, base_can_begin, sum_below-not_negative, sum_below-each}
use Rattle.vms_history.proofs.Common.{sum_below-most}
use Rattle.vms_group_core.specs.declared.states.GroupState.{GroupState}
use Rattle.vms_group_core.specs.declared.steps.GroupFacts.{GroupFacts}
use Rattle.vms_group_core.specs.declared.trees.Tree.{Tree}
use Rattle.vms_group_core.specs.Common.{IsTree, IsGroup, IsTreeCpu, group_count, over_subtree, size_of, value_at, up_at}
use Rattle.vms_group_core.specs.Common.{pending_at, pending_of, standing, carried_up, sum_of, in_hand, changed, spent}
use Rattle.vms_group_core.specs.Common.{IsBase, most_in_base, groups, History, IsLegal, state_after, role, held}
use Rattle.vms_group_core.specs.Common.{carried_by_all, most_in_subtree, IsSmall, BoundsWords}
use Rattle.vms_group_core.proofs.SubtreeSums.{over-same, over-most, over-least, over-itself}
use Rattle.vms_group_core.proofs.Spending.{spent-affordable, changed-spent}
use Rattle.vms_group_core.proofs.Weights.{IsMeasure, held-weighs}

pub size_of-measures : IsMeasure size_of
size_of-measures = record { none = refl; parts = λ a b. omega (arith, ints) }

pub sum_of-least : (amounts : List ℤ) → pos 0 ≤ℤ sum_of size_of amounts
sum_of-least [] = omega (arith, ints)
sum_of-least (a ∷ amounts) = omega (arith, ints, sum_of-least amounts)

-- each amount is at most their sum
sum_of-each : (amounts : List ℤ) → sum_of size_of amounts ≤ℤ pos most_in_subtree → All IsSmall amounts
sum_of-each [] most = All-nil IsSmall
sum_of-each (a ∷ amounts) most =
    let rest = sum_of-least amounts in
    All-cons IsSmall a amounts (omega (arith, ints)) (sum_of-each amounts (omega (arith, ints)))

-- what 64 CPUs may change in 64 groups
volumes-most : (n cpus : ℕ) → n ≤ 64 → cpus ≤ 64 → n * (cpus * most_volume) ≤ most_in_base
volumes-most n cpus n_most cpus_most =
    let one : cpus * most_volume ≤ 64 * most_volume = omega arith in
    let all : n * (cpus * most_volume) ≤ 64 * (64 * most_volume) = mul-le-mul n_most one in
    omega arith

module _ (tree : Tree) (s : GroupState) (x : ℕ) where
  pub pending_of-least : pos 0 ≤ℤ pending_of size_of tree s x
  pending_of-least =
      let words = sum_below-not_negative (λ c. size_of (pending_at tree s c x)) tree.cpus
      (λ c c_in. omega (arith, ints)) in
      omega (arith, ints, words)

  pending_of-each : (c : ℕ) → IsTreeCpu tree c → size_of (pending_at tree s c x) ≤ℤ pending_of size_of tree s x
  pending_of-each c c_in =
      let word = sum_below-each (λ d. size_of (pending_at tree s d x)) c tree.cpus c_in
      (λ d d_in. omega (arith, ints)) in
      omega (arith, ints, word)

  pending_of-up : size_of (up_at s x) ≤ℤ pending_of size_of tree s x
  pending_of-up =
      let words = sum_below-not_negative (λ c. size_of (pending_at tree s c x)) tree.cpus
      (λ c c_in. omega (arith, ints)) in
      omega (arith, ints, words)

-- what CPUs spent on the groups of a subtree
pub volumes-paid : (tree : Tree) (g : ℕ) (paid : ℕ → ℕ → ℕ) → IsTree tree
    → ((c x : ℕ) → IsTreeCpu tree c → IsGroup tree x → paid c x ≤ most_volume)
    → over_subtree tree g (λ x. sum_below (λ c. pos (paid c x)) tree.cpus) ≤ℤ pos most_in_base
volumes-paid tree g paid is within =
    let each = over-most tree g (λ x. sum_below (λ c. pos (paid c x)) tree.cpus) (tree.cpus * most_volume)
    (λ x x_in. sum_below-most (λ c. pos (paid c x)) tree.cpus most_volume
    (λ c c_in. let small = within c x c_in x_in in omega (arith, ints, small))) in
    omega (arith, ints, each, volumes-most (group_count tree) tree.cpus is.groups_most is.cpus_most)

module _ (facts : GroupFacts) (h : History) (legal : IsLegal facts h) where
  base : IsBase facts
  base = base_can_begin groups facts h legal

  -- the sizes of what stands and is carried are paid by the base and by what was spent
  pub held-paid : (g : ℕ) → IsGroup facts.tree g
      → held size_of facts h g ≤ℤ (standing size_of facts.tree facts.base g
      +ℤ over_subtree facts.tree g (λ x. sum_below (λ c. pos (spent h c x)) facts.tree.cpus))
  held-paid g g_in =
      let spending = over-same facts.tree g (λ x. total (changed size_of x) h)
      (λ x. sum_below (λ c. pos (spent h c x)) facts.tree.cpus) (λ x x_in. changed-spent facts h x legal) in
      omega (arith, ints, held-weighs size_of size_of-measures facts h g legal g_in, spending)

  held-most : (g : ℕ) → IsGroup facts.tree g → held size_of facts h g ≤ℤ pos most_in_subtree
  held-most g g_in =
      let volumes = volumes-paid facts.tree g (spent h) base.tree
      (λ c x c_in x_in. spent-affordable facts h c x legal) in
      omega (arith, ints, held-paid g g_in, base.sums g g_in, volumes)

  in_hand-least : (x p : ℕ) → pos 0 ≤ℤ in_hand size_of facts.tree x (own h p)
  in_hand-least x p = omega (arith, ints, sum_of-least (carried_up facts.tree x (own h p)))

  carried-least : (x : ℕ) → pos 0 ≤ℤ carried_by_all size_of facts.tree h x
  carried-least x =
      sum_below-not_negative (λ p. in_hand size_of facts.tree x (own h p)) (suc (begun_in role h))
      (λ p below. in_hand-least x p)

  pending-in_all : (g : ℕ) → IsGroup facts.tree g
      → pending_of size_of facts.tree (state_after facts h) g ≤ℤ pos most_in_subtree
  pending-in_all g g_in =
      let part = over-itself facts.tree g (pending_of size_of facts.tree (state_after facts h)) base.tree g_in
      (λ x x_in. pending_of-least facts.tree (state_after facts h) x) in
      let others = over-least facts.tree g (carried_by_all size_of facts.tree h) (λ x x_in. carried-least x) in
      omega (arith, ints, held-most g g_in, part, others)

  value-small : (g : ℕ) → IsGroup facts.tree g → IsSmall (value_at (state_after facts h) g)
  value-small g g_in =
      let pending = over-least facts.tree g (pending_of size_of facts.tree (state_after facts h))
      (λ x x_in. pending_of-least facts.tree (state_after facts h) x) in
      let others = over-least facts.tree g (carried_by_all size_of facts.tree h) (λ x x_in. carried-least x) in
      omega (arith, ints, held-most g g_in, pending, others)

  in_hand-most : (p g : ℕ) → IsGroup facts.tree g
      → in_hand size_of facts.tree g (own h p) ≤ℤ pos most_in_subtree
  in_hand-most p g g_in = elim (cases_lt p (suc (begun_in role h))) [
    | inl given ↦
        let one = sum_below-each (λ q. in_hand size_of facts.tree g (own h q)) p (suc (begun_in role h)) given
        (λ q below. in_hand-least g q) in
        let part = over-itself facts.tree g (carried_by_all size_of facts.tree h) base.tree g_in
        (λ x x_in. carried-least x) in
        let others = over-least facts.tree g (pending_of size_of facts.tree (state_after facts h))
        (λ x x_in. pending_of-least facts.tree (state_after facts h) x) in
        omega (arith, ints, held-most g g_in, one, part, others)
    | inr later ↦
        let none : in_hand size_of facts.tree g (own h p) ≡ pos 0 =
        ap (in_hand size_of facts.tree g) (own-not_given groups facts h p legal (omega arith)) in
        omega (arith, ints, none)
  ]

  pub words-bounded : BoundsWords facts h
  words-bounded = record {
    sums = held-most;
    value = value-small;
    up = λ g g_in. let up = pending_of-up facts.tree (state_after facts h) g in
        let all = pending-in_all g g_in in omega (arith, ints, up, all);
    pending = λ c g c_in g_in. let word = pending_of-each facts.tree (state_after facts h) g c c_in in
        let all = pending-in_all g g_in in omega (arith, ints, word, all);
    carried = λ p g g_in. let up = sum_of-least (carried_up facts.tree g (own h p)) in
        let most = in_hand-most p g g_in in omega (arith, ints, up, most);
    carried_up = λ p g g_in. sum_of-each (carried_up facts.tree g (own h p))
        (let most = in_hand-most p g g_in in omega (arith, ints, most));
  }
