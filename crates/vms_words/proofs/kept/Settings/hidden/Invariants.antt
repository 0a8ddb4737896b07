use Rattle.std.proofs.Common.{◌≡◌, ◌≤◌, ◌*◌, ◌^◌}
use Rattle.vms_calls.specs.Common.{state_at, count_below, if_present}
use Rattle.vms_words.specs.Common.{kept_peak}
use Rattle.vms_words.proofs.kept.Settings.hidden.Given as goal

-- what the CPUs so far may hide
abbrev pub invariant-loop-number : goal.invariant-loop-number
invariant-loop-number l = record {
  value : l.sum
      ≡ count_below (λ c. if_present (state_at l.self.cpus c) (kept_peak l.layout l.self c l.zone.number)) l.number;
  most : l.sum ≤ l.number * 2 ^ 32;
}
