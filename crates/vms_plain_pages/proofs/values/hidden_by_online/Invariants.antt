use Rattle.std.proofs.Common.{◌≡◌, ◌*◌, ◌≤◌, unsigned_abs}
use Rattle.vms_calls.specs.Common.{sum_below}
use Rattle.vms_plain_pages.specs.Common.{online_diff}
use Rattle.vms_plain_pages.proofs.values.hidden_by_online.Given as goal

-- the differentials so far are added
abbrev pub invariant-loop-number : goal.invariant-loop-number
invariant-loop-number l = (l.sum ≡ sum_below (λ c. online_diff l.pages c l.counter.number) l.number)
    × (unsigned_abs l.sum ≤ l.number * 125)
