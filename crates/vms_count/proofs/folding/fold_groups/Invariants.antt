use Rattle.std.proofs.Common.{◌≡◌, ℕ, ◌+◌, ◌*◌, List, length}
use Rattle.vms_calls.specs.Common.{Diffs}
use Rattle.vms_count.specs.Common.{AreSums, FoldsGroups}
use Rattle.vms_count.proofs.folding.fold_groups.Given as goal

-- the groups so far are taken, and the sums grow by little
abbrev pub invariant-loop-n : goal.invariant-loop-n
invariant-loop-n g l =
    ((groups : List Diffs) × (length groups ≡ l.n) × FoldsGroups l.table.facts.layout l.cpu l.first groups
    (g.P.Caller.pass l.pass) (g.P.Caller.pass l.initial.pass) l.initial.sums l.sums)
    × ((most : ℕ) → AreSums most l.initial.sums → AreSums (most + 1024 * l.n) l.sums)
    × (g.P.Caller.volume l.pass ≡ g.P.Caller.volume l.initial.pass)
