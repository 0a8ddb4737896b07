-- What the parts of a flush have made, whatever others did in between.
use Rattle.std.specs.Prelude.{◌≡◌, ℕ, ℤ, List, [], ◌++◌, length, All, Bool, true, false}
use Rattle.vms_group_core.specs.declared.steps.GroupFacts.{GroupFacts}
use Rattle.vms_group_core.specs.declared.steps.GroupStep.{GroupStep}
use Rattle.vms_group_core.specs.declared.trees.Tree.{Tree}
use Rattle.vms_group_core.specs.Common.{groups, as_is, sum_of, subtree, subtree_below, Found, flushes, flushes_each}
use Rattle.vms_group_core.specs.Common.{takes, IsFlush}
use Rattle.vms_seats.specs.Common.{Pass, Made}

-- the words that are pending for a group from the CPUs below c were taken, and come to this sum
pub record TookFrom (g : ℕ) (now old : Pass GroupFacts GroupStep) (c : ℕ) (sum : ℤ) : Type 0 where
  pub found : List ℤ
  pub one_each : length found ≡ c
  pub made : Made groups now old (takes g 0 found)
  pub adds_up : sum ≡ sum_of as_is found

-- one group was flushed
pub record FlushedGroup (tree : Tree) (g : ℕ) (now old : Pass GroupFacts GroupStep) : Type 0 where
  pub found : Found
  pub every_cpu : length found.by_cpu ≡ tree.cpus
  pub made : Made groups now old (flushes tree g found)

-- one group was flushed if a flag says so
abbrev pub FlushedWhere : Bool → Tree → ℕ → Pass GroupFacts GroupStep → Pass GroupFacts GroupStep → Type 0
FlushedWhere true tree g now old = FlushedGroup tree g now old
FlushedWhere false tree g now old = Made groups now old []

-- the groups of the subtree of g from number n on were flushed, the last declared first
pub record FlushedFrom (tree : Tree) (g : ℕ) (now old : Pass GroupFacts GroupStep) (n : ℕ) : Type 0 where
  pub names : List ℕ
  pub found : List Found
  pub so_far : subtree tree g ≡ names ++ subtree_below tree g n
  pub one_each : length found ≡ length names
  pub every_cpu : All (λ one. length one.by_cpu ≡ tree.cpus) found
  pub made : Made groups now old (flushes_each tree names found)

-- a whole subtree was flushed
pub record Flushed (tree : Tree) (g : ℕ) (now old : Pass GroupFacts GroupStep) : Type 0 where
  pub found : List Found
  pub steps : List GroupStep
  pub is : IsFlush tree g found steps
  pub made : Made groups now old steps
