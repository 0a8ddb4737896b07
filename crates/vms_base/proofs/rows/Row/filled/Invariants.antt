use Rattle.std.proofs.Common.{◌≡◌, ◌≤◌, ◌-◌, vec_len, replicate}
use Rattle.vms_base.proofs.rows.Row.filled.Given as goal

abbrev pub invariant-loop-value : goal.invariant-loop-value
invariant-loop-value g l = (l.items.items ≡ replicate (vec_len l.items) l.value) × (vec_len l.items ≤ l.len)

abbrev pub decreases-loop-value : goal.decreases-loop-value
decreases-loop-value g l = l.len - vec_len l.items
