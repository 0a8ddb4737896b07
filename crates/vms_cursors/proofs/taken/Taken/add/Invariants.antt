use Rattle.std.proofs.Common.{◌≡◌, ◌≤◌, ◌+◌, ◌*◌, ◌+ℤ◌, ℕ, unsigned_abs}
use Rattle.vms_calls.specs.Common.{sum_below}
use Rattle.vms_cursors.specs.Totals.{total_at}
use Rattle.vms_cursors.proofs.TakenTotals.{entry_for}
use Rattle.vms_cursors.proofs.taken.Taken.add.Given as goal

-- the entries so far are added
abbrev pub invariant-loop-n : goal.invariant-loop-n
invariant-loop-n l = record {
  value : (i : ℕ) → total_at l.totals i
      ≡ total_at l.self.totals i +ℤ sum_below (entry_for l.layout l.self.groups l.list.values i) l.n;
  bound : (i : ℕ) → unsigned_abs (total_at l.totals i) ≤ 1024 * l.self.groups + 128 * l.n;
}
