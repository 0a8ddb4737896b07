use Rattle.std.proofs.Common.{◌≡◌, ℕ, ◌+◌, drop}
use Rattle.vms_calls.specs.Common.{in_turn, to_place}
use Rattle.vms_cursors.proofs.fold_positions.some_entry.Given as goal

-- the entries so far are 0
abbrev pub invariant-loop-n : goal.invariant-loop-n
invariant-loop-n l = (k : ℕ) → in_turn to_place (k + l.from) (drop l.from l.list.values)
    ≡ in_turn to_place (k + l.n) (drop l.n l.list.values)
