use Rattle.std.proofs.Common.{◌≡◌, ℕ, suc, ◌<◌, ◌≤◌, length, take}
use Rattle.vms_calls.specs.Common.{threshold_steps, threshold_sets_at, pages, state_after}
use Rattle.vms_control.specs.Common.{cpu_number_in, SetsAtMost, never, once}
use Rattle.vms_control.proofs.rating.set_thresholds.Given as goal
use Rattle.vms_seats.specs.Common.{Made}

-- the CPUs so far have the threshold, and those that follow were not set yet
abbrev pub invariant-loop-cpu : goal.invariant-loop-cpu
invariant-loop-cpu l = record {
  made : Made pages l.pass l.fn.pass
      (threshold_steps l.place.number l.threshold (take l.cpu-index l.online));
  sets : SetsAtMost l.table.facts (once l.place.number (suc l.place.number)) never l.pass.seen l.fn.pass.seen;
  unset : (j : ℕ) → l.cpu-index ≤ j → j < length l.online →
      threshold_sets_at (state_after l.table.facts l.pass.seen) (cpu_number_in l.online j) l.place.number
      ≡ threshold_sets_at (state_after l.table.facts l.fn.pass.seen) (cpu_number_in l.online j) l.place.number;
}
