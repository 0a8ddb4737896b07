use Rattle.std.proofs.Common.{◌≡◌, ◌≤◌, ◌*◌}
use Rattle.vms_world.specs.Common.{count_below, cpu_at, if_present, opening_peak}
use Rattle.vms_hotplug.proofs.settings.hidden.Given as goal

-- what the CPUs so far may hide
abbrev pub invariant-loop-number : goal.invariant-loop-number
invariant-loop-number l = record {
  value : l.sum ≡ count_below (λ c. if_present (cpu_at l.pages c) (opening_peak l.layout l.pages c l.zone)) l.number;
  most : l.sum ≤ l.number * 125;
}
