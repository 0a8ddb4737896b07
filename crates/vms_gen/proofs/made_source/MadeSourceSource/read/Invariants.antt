use Rattle.std.proofs.Common.{length, ◌-◌, ◌≡◌, ◌≤◌, ◌++◌, take, drop}
use Rattle.vms_gen.proofs.made_source.MadeSourceSource.read.Given as goal

abbrev pub invariant-loop-filled : goal.invariant-loop-filled
invariant-loop-filled l =
    (l.filled ≤ length l.buf) × (l.initial.self.left ≡ take l.filled l.buf ++ l.self.left)
    × (drop l.filled l.buf ≡ drop l.filled l.initial.buf) × (l.self.calls ≡ l.initial.self.calls)

abbrev pub decreases-loop-filled : goal.decreases-loop-filled
decreases-loop-filled l = length l.initial.buf - l.filled
