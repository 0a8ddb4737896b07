-- What holds of every legal history of a tree of groups.
use Rattle.std.specs.Prelude.{◌≡◌, ◌⊎◌, ℕ, suc, true, ◌^◌, ◌≤◌, ℤ, pos, ◌+ℤ◌, ◌≤ℤ◌, Some, All, unsigned_abs}
use Rattle.vms_history.specs.Common.{CpuId, most_volume, own, total, begun_in, lives_in, owner_in, sum_below}
use Rattle.vms_group_core.specs.declared.steps.GroupFacts.{GroupFacts}
use Rattle.vms_group_core.specs.declared.trees.Tree.{Tree}
use Rattle.vms_group_core.specs.Histories.{History, MayOwn, state_after}
use Rattle.vms_group_core.specs.Own.{carried, carried_up, in_hand, CarriesNothing}
use Rattle.vms_group_core.specs.Steps.{role}
use Rattle.vms_group_core.specs.Totals.{changed, spent}
use Rattle.vms_group_core.specs.Trees.{IsGroup, IsTreeCpu, over_subtree}
use Rattle.vms_group_core.specs.Words.{HasShape, value_at, up_at, pending_at, standing, as_is, size_of}

-- what all callers carry for the words of a group together
abbrev pub carried_by_all : (ℤ → ℤ) → Tree → History → ℕ → ℤ
carried_by_all measure tree h g = sum_below (λ p. in_hand measure tree g (own h p)) (suc (begun_in role h))

-- the value of group g, all that is pending in its subtree, and all that is carried there
abbrev pub held : (ℤ → ℤ) → GroupFacts → History → ℕ → ℤ
held measure facts h g = standing measure facts.tree (state_after facts h) g
    +ℤ over_subtree facts.tree g (carried_by_all measure facts.tree h)

-- all changes in the subtree of group g
abbrev pub changes : GroupFacts → History → ℕ → ℤ
changes facts h g = over_subtree facts.tree g (λ x. total (changed as_is x) h)

-- what stood in the base for group g and in its subtree, and every change there since: what g is in truth
abbrev pub true_total : GroupFacts → History → ℕ → ℤ
true_total facts h g = standing as_is facts.tree facts.base g +ℤ changes facts h g

-- each change is counted once, whatever the interleaving: the value of a group, what is pending in its subtree and what
-- is carried there add up to its true total
abbrev pub KeepsTotals : GroupFacts → History → Type 0
KeepsTotals facts h = (g : ℕ) → IsGroup facts.tree g → held as_is facts h g ≡ true_total facts h g

-- what the sizes of a group's value, of all that is pending in its subtree and of all that is carried there may come to
abbrev pub most_in_subtree : ℕ
most_in_subtree = 2 ^ 61

-- an amount that is small enough for a word, also when another such amount is added to it
abbrev pub IsSmall : ℤ → Type 0
IsSmall a = unsigned_abs a ≤ most_in_subtree

-- what stands and what is carried in a subtree is bounded in sum, and so is each word and each carried amount
pub record BoundsWords (facts : GroupFacts) (h : History) : Type 0 where
  pub sums : (g : ℕ) → IsGroup facts.tree g → held size_of facts h g ≤ℤ pos most_in_subtree
  pub value : (g : ℕ) → IsGroup facts.tree g → IsSmall (value_at (state_after facts h) g)
  pub up : (g : ℕ) → IsGroup facts.tree g → IsSmall (up_at (state_after facts h) g)
  pub pending : (c g : ℕ) → IsTreeCpu facts.tree c → IsGroup facts.tree g →
      IsSmall (pending_at facts.tree (state_after facts h) c g)
  pub carried : (p g : ℕ) → IsGroup facts.tree g → IsSmall (carried g (own h p))
  pub carried_up : (p g : ℕ) → IsGroup facts.tree g → All IsSmall (carried_up facts.tree g (own h p))

-- a pass that doesn't live carries nothing
abbrev pub LivesToCarry : GroupFacts → History → Type 0
LivesToCarry facts h = (p : ℕ) → (lives_in role h p ≡ true) ⊎ CarriesNothing facts.tree (own h p)

-- what holds of every legal history
pub record KeepsLaws (facts : GroupFacts) (h : History) : Type 0 where
  -- there are two words for each group, and one for each CPU and group
  pub shape : HasShape facts.tree (state_after facts h)
  -- each change is counted once
  pub totals : KeepsTotals facts h
  -- the sizes of the changes of a group are what the CPUs spent on it, in sum
  pub spendings : (g : ℕ) → total (changed size_of g) h ≡ sum_below (λ c. pos (spent h c g)) facts.tree.cpus
  -- a CPU changes a group by at most 2^48
  pub volumes : (c g : ℕ) → spent h c g ≤ most_volume
  -- words and carried amounts are bounded, each and in sum
  pub bounds : BoundsWords facts h
  -- only a pass that lives carries something
  pub carriers : LivesToCarry facts h
  -- a pass owns a CPU of the tree
  pub owners : (p : ℕ) (c : CpuId) → owner_in role h p ≡ Some c → MayOwn facts (Some c)
