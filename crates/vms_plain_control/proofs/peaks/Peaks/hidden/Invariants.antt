use Rattle.std.proofs.Common.{◌≡◌, ◌≤◌, ◌*◌}
use Rattle.vms_calls.specs.Common.{count_below, cpu_at, if_present}
use Rattle.vms_plain_control.specs.Common.{peak_in}
use Rattle.vms_plain_control.proofs.peaks.Peaks.hidden.Given as goal

-- what the CPUs so far may hide
abbrev pub invariant-loop-number : goal.invariant-loop-number
invariant-loop-number l = record {
  value : l.sum
      ≡ count_below (λ c. if_present (cpu_at l.pages c) (peak_in l.layout l.self c l.zone.number)) l.number;
  most : l.sum ≤ l.number * 125;
}
