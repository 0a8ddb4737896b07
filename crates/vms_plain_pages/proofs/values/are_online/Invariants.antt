use Rattle.std.proofs.Common.{◌≡◌, ◌<◌, ℕ}
use Rattle.std.specs.Prelude.{◌↔◌}
use Rattle.vms_calls.specs.Common.{Online, state_at}
use Rattle.vms_plain_pages.proofs.values.are_online.Given as goal

-- whether the CPUs so far are online
abbrev pub invariant-loop-state : goal.invariant-loop-state
invariant-loop-state l = (l.marks ≡ 0) ↔ ((c : ℕ) → c < l.state-index → state_at l.states c ≡ Online)
