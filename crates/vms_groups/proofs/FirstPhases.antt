-- What stands before the first line of a body: nothing was changed.
use Rattle.std.proofs.Common.{◌≡◌, ℕ, ◌*◌, pos, List, [], Some, sym, ap, subst, arith}
use Rattle.std.proofs.lemmas.Int.{ints}
use Rattle.std.proofs.lemmas.List.{get_or-replicate}
use Rattle.std.proofs.lemmas.List.Elements.{All-nil}
use Rattle.vms_base.proofs.Common.{cell-lt}
use Rattle.vms_history.specs.Common.{cell}
use Rattle.vms_history.proofs.Common.{sum_below-zeros}
use Rattle.vms_group_core.specs.declared.trees.Tree.{Tree}
use Rattle.vms_group_core.specs.Common.{IsGroup, IsTree, IsTreeCpu, as_is, group_count, pending_at, pending_of}
use Rattle.vms_group_core.specs.Common.{zeros_of}
use Rattle.vms_group_core.proofs.SubtreeSums.{over-zeros}
use Rattle.vms_group_lines.specs.declared.headers.GroupHeader.{GroupHeader}
use Rattle.vms_group_lines.specs.Common.{IsGroupHeader}
use Rattle.vms_group_phase.specs.Common.{IsGroupWorld, IsLineOf, first_group_world, group_volume_after}
use Rattle.vms_groups.specs.declared.open_phases.OpenPhase.{OpenPhase}
use Rattle.vms_groups.specs.declared.waits.GroupWait.{GroupWait}
use Rattle.vms_groups.specs.GroupStates.{PhaseStands}
use Rattle.vms_groups.specs.GroupTexts.{first_kept}
use Rattle.vms_groups.specs.GroupWaits.{TellsWaits, asked_in}
use Rattle.vms_groups.specs.Common.{HasPlainTotals}
use Rattle.vms_groups.proofs.WaitingLines.{TellsWaits-none}

module _ (tree : Tree) where
  nothing-pending : (g : ℕ) → IsGroup tree g → pending_of as_is tree (zeros_of tree) g ≡ pos 0
  nothing-pending g g_in =
      let words = sum_below-zeros (λ c. as_is (pending_at tree (zeros_of tree) c g)) tree.cpus
      (λ c c_in. get_or-replicate (tree.cpus * group_count tree) (cell (group_count tree) c g) (pos 0) (pos 0)
      (cell-lt (group_count tree) tree.cpus c g c_in g_in)) in
      let up = get_or-replicate (group_count tree) g (pos 0) (pos 0) g_in in
      omega (arith, ints, words, up)

  HasPlainTotals-first : HasPlainTotals tree [] (first_group_world tree)
  HasPlainTotals-first g g_in =
      let value = get_or-replicate (group_count tree) g (pos 0) (pos 0) g_in in
      omega (arith, ints, value, over-zeros tree g (pending_of as_is tree (zeros_of tree)) nothing-pending)

  volumes-first : (c g : ℕ) → IsTreeCpu tree c → IsGroup tree g
      → group_volume_after (first_group_world tree).volumes tree [] c g ≡ 0
  volumes-first c g c_in g_in =
      let none = get_or-replicate {A = ℕ} (tree.cpus * group_count tree) (cell (group_count tree) c g) 0 0
      (cell-lt (group_count tree) tree.cpus c g c_in g_in) in
      omega (arith, none)

pub PhaseStands-first : (header : GroupHeader) → IsGroupHeader header
    → ((tree : Tree) → IsTree tree → IsGroupWorld tree (first_group_world tree)) → (phase : OpenPhase)
    → phase.world ≡ Some (first_group_world header.tree) → phase.items.items ≡ [] → phase.waits.items ≡ []
    → PhaseStands header (first_kept header) [] phase
PhaseStands-first header valid first phase in_world no_items no_waits = record {
  in_world = in_world;
  keeps = no_items;
  tells = subst (λ (ws : List GroupWait). TellsWaits header.tree (first_group_world header.tree) ws []) (sym no_waits)
      (TellsWaits-none header.tree (first_group_world header.tree));
  asked = ap asked_in no_waits;
  only_open = λ none. no_waits;
  begins = first header.tree valid.tree;
  fits = record {
    lines = All-nil (IsLineOf header.tree);
    most = λ c g c_in g_in. let none = volumes-first header.tree c g c_in g_in in omega (arith, none);
  };
  volumes = volumes-first header.tree;
  totals = HasPlainTotals-first header.tree;
}
