use Rattle.std.proofs.Common.{◌≡◌, ℕ, ◌<◌, length, get_or}
use Rattle.vms_core.proofs.plain.clear.Given as goal

-- the items so far are the value
abbrev pub invariant-loop-at : goal.invariant-loop-at
invariant-loop-at g l = record {
  same_length : length l.row ≡ length l.initial.row;
  done : (n : ℕ) → n < l.at → get_or l.row n l.value ≡ l.value;
}
