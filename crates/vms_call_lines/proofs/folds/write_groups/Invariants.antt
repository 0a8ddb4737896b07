use Rattle.std.proofs.Common.{ℕ, ◌+◌, ◌*◌}
use Rattle.vms_plain_pages.specs.Common.{AreSums}
use Rattle.vms_call_lines.specs.Folds.{WritesGroups}
use Rattle.vms_call_lines.proofs.folds.write_groups.Given as goal

-- the groups so far are taken, and the sums grow by little
abbrev pub invariant-loop-n : goal.invariant-loop-n
invariant-loop-n l = WritesGroups l.layout l.cpu l.first l.n l.caller l.initial.pages l.pages l.initial.sums l.sums
    l.initial.out.items l.out.items
    × ((most : ℕ) → AreSums most l.initial.sums → AreSums (most + 1024 * l.n) l.sums)
