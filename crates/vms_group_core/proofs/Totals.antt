-- Nothing is lost and nothing is counted twice: as it is, and with its sign turned, what stands and is carried is no
-- more than what was changed.
use Rattle.std.proofs.Common.{◌≡◌, ℕ, suc, List, [], ◌∷◌, ℤ, pos, neg_ℤ, Bool, true, false, refl, ◌∙◌, arith}
use Rattle.std.proofs.Common.{if◌then◌else◌, nat_eq}
use Rattle.std.proofs.lemmas.Int.{ints}
use Rattle.vms_history.specs.Common.{own, begun_in, total}
use Rattle.vms_history.specs.declared.events.Event.{Event}
use Rattle.vms_history.proofs.Common.{sum_below-same}
use Rattle.vms_group_core.specs.declared.states.GroupState.{GroupState}
use Rattle.vms_group_core.specs.declared.steps.GroupFacts.{GroupFacts}
use Rattle.vms_group_core.specs.declared.steps.GroupStep.{GroupStep}
use Rattle.vms_group_core.specs.declared.steps.GroupStep.TheVariants.{AddP}
use Rattle.vms_group_core.specs.declared.trees.Tree.{Tree}
use Rattle.vms_group_core.specs.Common.{over_subtree, as_is, pending_at, pending_of, standing, role, carried_up, sum_of}
use Rattle.vms_group_core.specs.Common.{in_hand, changed, History, IsLegal, state_after, carried_by_all, changes, held}
use Rattle.vms_group_core.specs.Common.{KeepsTotals}
use Rattle.vms_group_core.proofs.SubtreeSums.{over-same, over-neg, sum_below-neg}
use Rattle.vms_group_core.proofs.Weights.{IsMeasure, held-weighs}

as_is-measures : IsMeasure as_is
as_is-measures = record { none = refl; parts = λ a b. omega (arith, ints) }

neg-measures : IsMeasure neg_ℤ
neg-measures = record { none = omega (arith, ints); parts = λ a b. omega (arith, ints) }

sum_of-neg : (amounts : List ℤ) → sum_of neg_ℤ amounts ≡ neg_ℤ (sum_of as_is amounts)
sum_of-neg [] = omega (arith, ints)
sum_of-neg (a ∷ amounts) = omega (arith, ints, sum_of-neg amounts)

changed-neg : (x : ℕ) (step : GroupStep) → changed neg_ℤ x step ≡ neg_ℤ (changed as_is x step)
changed-neg x (AddP y a) = by (nat_eq y x)
  where
    by : (b : Bool) → (if b then neg_ℤ a else pos 0) ≡ neg_ℤ (if b then a else pos 0)
    by true = refl
    by false = omega (arith, ints)
changed-neg x _ = omega (arith, ints)

total-neg : (x : ℕ) (h : List (Event GroupStep)) → total (changed neg_ℤ x) h ≡ neg_ℤ (total (changed as_is x) h)
total-neg x [] = omega (arith, ints)
total-neg x (e ∷ h) = omega (arith, ints, changed-neg x e.step, total-neg x h)

module _ (tree : Tree) where
  pending_of-neg : (s : GroupState) (x : ℕ) → pending_of neg_ℤ tree s x ≡ neg_ℤ (pending_of as_is tree s x)
  pending_of-neg s x = omega (arith, ints, sum_below-neg (λ c. pending_at tree s c x) tree.cpus)

  standing-neg : (s : GroupState) (g : ℕ) → standing neg_ℤ tree s g ≡ neg_ℤ (standing as_is tree s g)
  standing-neg s g =
      let each = over-same tree g (pending_of neg_ℤ tree s) (λ x. neg_ℤ (pending_of as_is tree s x))
      (λ x x_in. pending_of-neg s x) in
      omega (arith, ints, each, over-neg tree g (pending_of as_is tree s))

  carried_by_all-neg : (h : History) (x : ℕ) → carried_by_all neg_ℤ tree h x ≡ neg_ℤ (carried_by_all as_is tree h x)
  carried_by_all-neg h x =
      sum_below-same (λ p. in_hand neg_ℤ tree x (own h p)) (λ p. neg_ℤ (in_hand as_is tree x (own h p)))
      (suc (begun_in role h))
      (λ p below. let up = sum_of-neg (carried_up tree x (own h p)) in omega (arith, ints, up))
      ∙ sum_below-neg (λ p. in_hand as_is tree x (own h p)) (suc (begun_in role h))

module _ (facts : GroupFacts) (h : History) (g : ℕ) where
  held-neg : held neg_ℤ facts h g ≡ neg_ℤ (held as_is facts h g)
  held-neg =
      let each = over-same facts.tree g (carried_by_all neg_ℤ facts.tree h)
      (λ x. neg_ℤ (carried_by_all as_is facts.tree h x)) (λ x x_in. carried_by_all-neg facts.tree h x) in
      let all = over-neg facts.tree g (carried_by_all as_is facts.tree h) in
      omega (arith, ints, each, all, standing-neg facts.tree (state_after facts h) g)

  changes-neg : over_subtree facts.tree g (λ x. total (changed neg_ℤ x) h) ≡ neg_ℤ (changes facts h g)
  changes-neg =
      over-same facts.tree g (λ x. total (changed neg_ℤ x) h) (λ x. neg_ℤ (total (changed as_is x) h))
      (λ x x_in. total-neg x h) ∙ over-neg facts.tree g (λ x. total (changed as_is x) h)

pub totals-kept : (facts : GroupFacts) (h : History) → IsLegal facts h → KeepsTotals facts h
totals-kept facts h legal g g_in =
    let most = held-weighs as_is as_is-measures facts h g legal g_in in
    let least = held-weighs neg_ℤ neg-measures facts h g legal g_in in
    omega (
      arith,
      ints,
      most,
      least,
      held-neg facts h g,
      standing-neg facts.tree facts.base g,
      changes-neg facts h g,
    )
