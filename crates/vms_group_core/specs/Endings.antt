-- How a complete history of a tree of groups ends, and that the next one may begin with its words.
use Rattle.std.specs.Prelude.{◌≡◌, ℕ, ◌+◌, ◌≤◌, pos, ◌≤ℤ◌, []}
use Rattle.vms_history.specs.Common.{most_volume, own, sum_below}
use Rattle.vms_group_core.specs.declared.steps.GroupFacts.{GroupFacts}
use Rattle.vms_group_core.specs.Bases.{IsBase, most_in_base}
use Rattle.vms_group_core.specs.Histories.{History, state_after}
use Rattle.vms_group_core.specs.Laws.{true_total}
use Rattle.vms_group_core.specs.Own.{CarriesNothing}
use Rattle.vms_group_core.specs.Totals.{spent}
use Rattle.vms_group_core.specs.Trees.{IsGroup, IsTreeCpu, over_subtree}
use Rattle.vms_group_core.specs.Words.{standing, as_is, size_of}

-- where every pass has ended nobody carries anything, and the value of a group and what is pending in its subtree are
-- its true total
pub record HoldsTotals (facts : GroupFacts) (h : History) : Type 0 where
  pub nothing_in_hand : (p : ℕ) → CarriesNothing facts.tree (own h p)
  pub words : (g : ℕ) → IsGroup facts.tree g →
      standing as_is facts.tree (state_after facts h) g ≡ true_total facts h g

-- the facts for a history that begins with the words that this one leaves
abbrev pub ending : GroupFacts → History → GroupFacts
ending facts h = record facts { base = state_after facts h }

-- the words that stand are small enough for a base
abbrev pub LeavesRoom : GroupFacts → History → Type 0
LeavesRoom facts h = (g : ℕ) → IsGroup facts.tree g →
    standing size_of facts.tree (state_after facts h) g ≤ℤ pos most_in_base

-- a complete history leaves a base, and the next history begins with the same true totals
pub record BeginsAgain (facts : GroupFacts) (h : History) : Type 0 where
  pub base : IsBase (ending facts h)
  pub totals : (g : ℕ) → IsGroup facts.tree g → true_total (ending facts h) [] g ≡ true_total facts h g

-- the words of a subtree in the base are in size at most what the CPUs have spent in earlier histories on its groups
abbrev pub IsPaid : GroupFacts → (ℕ → ℕ → ℕ) → Type 0
IsPaid facts earlier = (g : ℕ) → IsGroup facts.tree g → standing size_of facts.tree facts.base g
    ≤ℤ over_subtree facts.tree g (λ x. sum_below (λ c. pos (earlier c x)) facts.tree.cpus)

-- what each CPU has spent in the earlier histories and this one
abbrev pub spent_by_now : (ℕ → ℕ → ℕ) → History → ℕ → ℕ → ℕ
spent_by_now earlier h c g = earlier c g + spent h c g

-- no CPU spends more than its volume in the earlier histories and this one together
abbrev pub StaysWithinVolumes : GroupFacts → (ℕ → ℕ → ℕ) → History → Type 0
StaysWithinVolumes facts earlier h = (c g : ℕ) → IsTreeCpu facts.tree c → IsGroup facts.tree g →
    spent_by_now earlier h c g ≤ most_volume
