use Rattle.std.proofs.Common.{◌≡◌, ℕ, ◌<◌, List, Option, length, take}
use Rattle.vms_calls.specs.Common.{acknowledged_steps, IsControl, pages}
use Rattle.vms_control.proofs.visiting.load_acknowledged.Given as goal
use Rattle.vms_seats.specs.Common.{Made}

-- what the CPUs so far acknowledged was loaded
abbrev pub invariant-loop-cpu : goal.invariant-loop-cpu
invariant-loop-cpu l = record {
  made : (numbers : List (Option ℕ)) × (length numbers ≡ l.cpu-index)
      × Made pages l.pass l.fn.pass (acknowledged_steps l.zone.number (take l.cpu-index l.online) numbers);
  control : 0 < l.cpu-index → IsControl l.fn.pass.seen l.fn.pass.number;
}
