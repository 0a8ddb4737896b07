use Rattle.std.proofs.Common.{◌≡◌, take}
use Rattle.vms_calls.specs.Common.{threshold_steps, peak_sum, after}
use Rattle.vms_control.proofs.rating.hidden_under.Given as goal

-- the sum once the CPUs so far have the threshold
abbrev pub invariant-loop-cpu : goal.invariant-loop-cpu
invariant-loop-cpu l = l.hidden ≡ peak_sum l.table.facts l.zone.number
    (after l.pass.number (threshold_steps l.zone.number l.threshold (take l.cpu-index l.online)) l.pass.seen)
