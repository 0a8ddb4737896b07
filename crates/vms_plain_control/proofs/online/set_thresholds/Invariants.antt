use Rattle.std.proofs.Common.{◌≡◌, ℕ, ◌≤◌, ◌<◌}
use Rattle.vms_calls.specs.Common.{IsCpu, HasShape, threshold_sets_at, most_sets}
use Rattle.vms_plain_control.specs.Common.{online_in, with_place_thresholds}
use Rattle.vms_plain_control.proofs.OnlineLeft.{online_left}
use Rattle.vms_plain_control.proofs.online.set_thresholds.Given as goal

-- with the CPUs that are left it comes to what is wanted
abbrev pub invariant-loop-number : goal.invariant-loop-number
invariant-loop-number l = record {
  shaped : HasShape l.layout l.pages;
  cpus : l.pages.cpu ≡ l.initial.pages.cpu;
  sets : (c : ℕ) → l.number ≤ c → IsCpu l.layout c → threshold_sets_at l.pages c l.place.number < most_sets;
  rest : with_place_thresholds l.place.number l.threshold (online_left l.initial.pages.cpu l.number) l.pages
      ≡ with_place_thresholds l.place.number l.threshold (online_in l.initial.pages) l.initial.pages;
}
