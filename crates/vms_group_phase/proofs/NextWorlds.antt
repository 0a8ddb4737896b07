-- A phase may begin with the first world, and with the one that a phase leaves. Its totals grow by its lines.
use Rattle.std.proofs.Common.{◌≡◌, ℕ, ◌*◌, List, pos, ◌+ℤ◌, sym, ap, arith}
use Rattle.std.proofs.lemmas.Int.{ints}
use Rattle.std.proofs.lemmas.List.{get_or-replicate, length-replicate}
use Rattle.vms_base.proofs.Common.{cell-lt}
use Rattle.vms_history.specs.Common.{cell, sum_below, total}
use Rattle.vms_history.proofs.Common.{sum_below-same}
use Rattle.vms_group_core.specs.declared.steps.GroupFacts.{GroupFacts}
use Rattle.vms_group_core.specs.declared.trees.Tree.{Tree}
use Rattle.vms_group_core.specs.Common.{BeginsAgain, History, HoldsTotals, IsBase, IsGroup, IsPaid, IsTreeCpu}
use Rattle.vms_group_core.specs.Common.{StaysWithinVolumes, as_is, changed, ending, fresh, group_count, spent_by_now}
use Rattle.vms_group_core.specs.Common.{standing, state_after}
use Rattle.vms_group_core.proofs.SubtreeSums.{over-same}
use Rattle.vms_group_phase.specs.declared.items.GroupItem.{GroupItem}
use Rattle.vms_group_phase.specs.declared.worlds.GroupWorld.{GroupWorld}
use Rattle.vms_group_phase.specs.Common.{FitGroups, IsGroupPhase, IsGroupWorld, first_group_world, group_facts}
use Rattle.vms_group_phase.specs.Common.{group_volume_after, group_volume_in, left_group_world, plain_group_sum}
use Rattle.vms_group_phase.proofs.LineSums.{lines_change, phase-changes, phase-spends, plain-sum}
use Rattle.vms_group_phase.proofs.ListedReads.{get_or-listed, length-listed}

-- what is paid goes by what was spent on groups of the tree by its CPUs
paid-same : (facts : GroupFacts) (first second : ℕ → ℕ → ℕ)
    → ((c x : ℕ) → IsTreeCpu facts.tree c → IsGroup facts.tree x → first c x ≡ second c x) → IsPaid facts first
    → IsPaid facts second
paid-same facts first second same paid g g_in =
    let sums = over-same facts.tree g (λ x. sum_below (λ c. pos (first c x)) facts.tree.cpus)
    (λ x. sum_below (λ c. pos (second c x)) facts.tree.cpus)
    (λ x x_in. sum_below-same (λ c. pos (first c x)) (λ c. pos (second c x)) facts.tree.cpus
    (λ c c_in. ap pos (same c x c_in x_in))) in
    omega (arith, ints, sums, paid g g_in)

pub first-world : (tree : Tree) → IsBase (fresh tree) → IsPaid (fresh tree) (λ c g. 0)
    → IsGroupWorld tree (first_group_world tree)
first-world tree base paid = record {
  base = base;
  one_each = length-replicate (tree.cpus * group_count tree) 0;
  most = λ c g c_in g_in. let none = nothing c g c_in g_in in omega (arith, none);
  paid = paid-same (fresh tree) (λ c g. 0) (group_volume_in (first_group_world tree).volumes tree)
      (λ c g c_in g_in. sym (nothing c g c_in g_in)) paid;
}
  where
    nothing : (c g : ℕ) → IsTreeCpu tree c → IsGroup tree g
        → group_volume_in (first_group_world tree).volumes tree c g ≡ 0
    nothing c g c_in g_in =
        get_or-replicate (tree.cpus * group_count tree) (cell (group_count tree) c g) 0 0
        (cell-lt (group_count tree) tree.cpus c g c_in g_in)

module _ (tree : Tree) (w : GroupWorld) (items : List GroupItem) (h : History) (phase : IsGroupPhase tree w items h)
    (fit : FitGroups tree w items) where
  abbrev facts : GroupFacts
  facts = group_facts tree w

  -- each CPU keeps to its volume in all phases together
  pub stays-within : StaysWithinVolumes facts (group_volume_in w.volumes tree) h
  stays-within c g c_in g_in =
      let spends = phase-spends tree w items h phase c g c_in in
      let most = fit.most c g c_in g_in in
      omega (arith, spends, most)

  volume-left : (c g : ℕ) → IsTreeCpu tree c → IsGroup tree g
      → group_volume_in (left_group_world tree w items h).volumes tree c g ≡ group_volume_after w.volumes tree items c g
  volume-left c g c_in g_in =
      get_or-listed (group_volume_after w.volumes tree items) tree.cpus (group_count tree) c g 0 c_in g_in

  pub next-world : BeginsAgain facts h → IsPaid (ending facts h) (spent_by_now (group_volume_in w.volumes tree) h)
      → IsGroupWorld tree (left_group_world tree w items h)
  next-world again paid = record {
    base = again.base;
    one_each = length-listed (group_volume_after w.volumes tree items) tree.cpus (group_count tree);
    most = λ c g c_in g_in.
        let is = volume-left c g c_in g_in in
        let most = fit.most c g c_in g_in in
        omega (arith, is, most);
    paid = paid-same (ending facts h) (spent_by_now (group_volume_in w.volumes tree) h)
        (group_volume_in (left_group_world tree w items h).volumes tree)
        (λ c g c_in g_in.
        let is = volume-left c g c_in g_in in
        let spends = phase-spends tree w items h phase c g c_in in
        omega (arith, is, spends)) paid;
  }

  -- the plain sum of the lines is added
  pub lines-added : HoldsTotals facts h → (g : ℕ) → IsGroup tree g
      → standing as_is tree (state_after facts h) g
      ≡ standing as_is tree w.words g +ℤ plain_group_sum tree items g
  lines-added holds g g_in =
      let each = over-same tree g (λ x. total (changed as_is x) h) (lines_change items)
      (λ x x_in. phase-changes tree w items h phase x fit.lines) in
      let plain = plain-sum tree g items fit.lines in
      omega (arith, ints, holds.words g g_in, each, plain)
