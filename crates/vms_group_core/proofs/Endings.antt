-- A complete history holds its true totals in its words, and leaves a base.
use Rattle.std.proofs.Common.{◌≡◌, ℕ, suc, pos, ◌+ℤ◌, ◌≤ℤ◌, refl, ap, ◌∙◌, arith}
use Rattle.std.proofs.lemmas.Int.{ints}
use Rattle.vms_history.specs.Common.{own, begun_in, sum_below}
use Rattle.vms_history.proofs.Common.{base_can_begin, sum_below-same, sum_below-sum, sum_below-zeros}
use Rattle.vms_history.proofs.Common.{sum_below-not_negative}
use Rattle.vms_group_core.specs.declared.steps.GroupFacts.{GroupFacts}
use Rattle.vms_group_core.specs.Common.{IsGroup, over_subtree, as_is, size_of, standing, carried_up, sum_of, in_hand}
use Rattle.vms_group_core.specs.Common.{spent, IsBase, groups, History, IsComplete, state_after, role, carried_by_all}
use Rattle.vms_group_core.specs.Common.{true_total, BeginsAgain, HoldsTotals, IsPaid, ending, LeavesRoom}
use Rattle.vms_group_core.specs.Common.{StaysWithinVolumes, spent_by_now}
use Rattle.vms_group_core.proofs.Bounds.{held-paid, volumes-paid, sum_of-least}
use Rattle.vms_group_core.proofs.Carrying.{nothing_in_hand}
use Rattle.vms_group_core.proofs.Effects.{HasShape-state_after}
use Rattle.vms_group_core.proofs.SubtreeSums.{over-same, over-sum, over-zeros, over-least}
use Rattle.vms_group_core.proofs.Totals.{totals-kept}

module _ (facts : GroupFacts) (h : History) (complete : IsComplete facts h) where
  base : IsBase facts
  base = base_can_begin groups facts h complete.legal

  nothing_carried : (x : ℕ) → IsGroup facts.tree x → carried_by_all as_is facts.tree h x ≡ pos 0
  nothing_carried x x_in =
      sum_below-zeros (λ p. in_hand as_is facts.tree x (own h p)) (suc (begun_in role h))
      (λ p below. let none = nothing_in_hand facts h p complete x x_in in
      let up : sum_of as_is (carried_up facts.tree x (own h p)) ≡ pos 0 = ap (sum_of as_is) none.up in
      omega (arith, ints, none.value, up))

  words-held : (g : ℕ) → IsGroup facts.tree g
      → standing as_is facts.tree (state_after facts h) g ≡ true_total facts h g
  words-held g g_in =
      let none = over-zeros facts.tree g (carried_by_all as_is facts.tree h) nothing_carried in
      omega (arith, ints, none, totals-kept facts h complete.legal g g_in)

  pub totals-held : HoldsTotals facts h
  totals-held = record { nothing_in_hand = λ p. nothing_in_hand facts h p complete; words = words-held }

  pub begins_again : LeavesRoom facts h → BeginsAgain facts h
  begins_again room = record {
    base = record {
      tree = base.tree;
      shaped = HasShape-state_after facts h complete.legal;
      sums = room;
    };
    totals = λ g g_in.
        let none = over-zeros facts.tree g (λ x. pos 0) (λ x x_in. refl) in
        omega (arith, ints, none, words-held g g_in);
  }

  -- no words stand that were not paid for
  words-paid : (g : ℕ) → IsGroup facts.tree g → standing size_of facts.tree (state_after facts h) g
      ≤ℤ (standing size_of facts.tree facts.base g
      +ℤ over_subtree facts.tree g (λ x. sum_below (λ c. pos (spent h c x)) facts.tree.cpus))
  words-paid g g_in =
      let others = over-least facts.tree g (carried_by_all size_of facts.tree h)
      (λ x x_in. sum_below-not_negative (λ p. in_hand size_of facts.tree x (own h p)) (suc (begun_in role h))
      (λ p below. let up = sum_of-least (carried_up facts.tree x (own h p)) in omega (arith, ints, up))) in
      omega (arith, ints, others, held-paid facts h complete.legal g g_in)

  module _ (earlier : ℕ → ℕ → ℕ) (paid : IsPaid facts earlier) where
    paid_by_now : IsPaid (ending facts h) (spent_by_now earlier h)
    paid_by_now g g_in =
        let first = λ (x : ℕ). sum_below (λ c. pos (earlier c x)) facts.tree.cpus in
        let second = λ (x : ℕ). sum_below (λ c. pos (spent h c x)) facts.tree.cpus in
        let both = over-same facts.tree g
        (λ x. sum_below (λ c. pos (spent_by_now earlier h c x)) facts.tree.cpus)
        (λ x. sum_below (λ c. pos (earlier c x)) facts.tree.cpus +ℤ sum_below (λ c. pos (spent h c x)) facts.tree.cpus)
        (λ x x_in. sum_below-same (λ c. pos (spent_by_now earlier h c x))
        (λ c. pos (earlier c x) +ℤ pos (spent h c x)) facts.tree.cpus (λ c c_in. omega (arith, ints))
        ∙ sum_below-sum (λ c. pos (earlier c x)) (λ c. pos (spent h c x)) facts.tree.cpus) in
        let parts = over-sum facts.tree g (λ x. sum_below (λ c. pos (earlier c x)) facts.tree.cpus)
        (λ x. sum_below (λ c. pos (spent h c x)) facts.tree.cpus) in
        omega (arith, ints, both, parts, paid g g_in, words-paid g g_in)

    pub begins-paid : StaysWithinVolumes facts earlier h
        → BeginsAgain facts h × IsPaid (ending facts h) (spent_by_now earlier h)
    begins-paid within = (
      begins_again (λ g g_in.
          let all = volumes-paid facts.tree g (spent_by_now earlier h) base.tree within in
          omega (arith, ints, paid_by_now g g_in, all)),
      paid_by_now,
    )
