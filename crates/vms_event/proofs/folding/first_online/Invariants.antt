use Rattle.std.proofs.Common.{◌≢◌, ℕ, ◌<◌}
use Rattle.vms_history.specs.Common.{Online, state_at}
use Rattle.vms_event.proofs.folding.first_online.Given as goal

-- no CPU so far is online
abbrev pub invariant-loop-number : goal.invariant-loop-number
invariant-loop-number l = (b : ℕ) → b < l.number → state_at l.states b ≢ Online
