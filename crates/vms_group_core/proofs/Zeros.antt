-- Words that are all 0 are a base.
use Rattle.std.proofs.Common.{◌≡◌, ℕ, ◌*◌, ◌<◌, pos, ◌+ℤ◌, ◌≤ℤ◌, refl, ap, arith, replicate}
use Rattle.std.proofs.lemmas.Int.{ints}
use Rattle.std.proofs.lemmas.List.{get_or-replicate, length-replicate}
use Rattle.vms_history.specs.Common.{cell, sum_below}
use Rattle.vms_base.proofs.Common.{cell-lt}
use Rattle.vms_history.proofs.Common.{sum_below-zeros, sum_below-not_negative}
use Rattle.vms_group_core.specs.declared.trees.Tree.{Tree}
use Rattle.vms_group_core.specs.Common.{IsTree, IsGroup, IsBase, IsPaid, fresh, zeros_of, group_count, over_subtree}
use Rattle.vms_group_core.specs.Common.{size_of, value_at, up_at, pending_at, pending_of, standing}
use Rattle.vms_group_core.proofs.SubtreeSums.{over-zeros, over-least}

module _ (tree : Tree) where
  nothing-pending : (g : ℕ) → IsGroup tree g → pending_of size_of tree (zeros_of tree) g ≡ pos 0
  nothing-pending g g_in =
      let words = sum_below-zeros (λ c. size_of (pending_at tree (zeros_of tree) c g)) tree.cpus
      (λ c c_in. ap size_of
      (get_or-replicate (tree.cpus * group_count tree) (cell (group_count tree) c g) (pos 0) (pos 0)
      (cell-lt (group_count tree) tree.cpus c g c_in g_in))) in
      let up = ap size_of (get_or-replicate (group_count tree) g (pos 0) (pos 0) g_in) in
      omega (arith, ints, words, up)

  nothing-stands : (g : ℕ) → IsGroup tree g → standing size_of tree (zeros_of tree) g ≡ pos 0
  nothing-stands g g_in =
      let value = ap size_of (get_or-replicate (group_count tree) g (pos 0) (pos 0) g_in) in
      omega (arith, ints, value, over-zeros tree g (pending_of size_of tree (zeros_of tree)) nothing-pending)

  pub zeros-base : IsTree tree → IsBase (fresh tree)
  zeros-base is = record {
    tree = is;
    shaped = record {
      value = length-replicate (group_count tree) (pos 0);
      up = length-replicate (group_count tree) (pos 0);
      pending = length-replicate (tree.cpus * group_count tree) (pos 0);
    };
    sums = λ g g_in. omega (arith, ints, nothing-stands g g_in);
  }

  pub zeros-paid : IsTree tree → IsPaid (fresh tree) (λ c g. 0)
  zeros-paid is g g_in =
      let least = over-least tree g (λ x. sum_below (λ c. pos 0) tree.cpus)
      (λ x x_in. sum_below-not_negative (λ c. pos 0) tree.cpus (λ c c_in. omega (arith, ints))) in
      omega (arith, ints, nothing-stands g g_in, least)
