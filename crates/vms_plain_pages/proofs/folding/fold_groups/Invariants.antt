use Rattle.std.proofs.Common.{ℕ, ◌+◌, ◌*◌}
use Rattle.vms_plain_pages.specs.Common.{AreSums, FoldsGroups}
use Rattle.vms_plain_pages.proofs.folding.fold_groups.Given as goal

-- the groups so far are taken, and the sums grow by little
abbrev pub invariant-loop-n : goal.invariant-loop-n
invariant-loop-n l = FoldsGroups l.layout l.cpu l.first l.n l.initial.pages l.pages l.initial.sums l.sums
    × ((most : ℕ) → AreSums most l.initial.sums → AreSums (most + 1024 * l.n) l.sums)
