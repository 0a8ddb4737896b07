use Rattle.std.proofs.Common.{◌≡◌, ◌≤◌, ◌+◌, length}
use Rattle.vms_plain_control.specs.Common.{online_in}
use Rattle.vms_plain_control.proofs.OnlineLeft.{online_left}
use Rattle.vms_plain_control.proofs.online.count_online.Given as goal

-- the CPUs so far are counted
abbrev pub invariant-loop-number : goal.invariant-loop-number
invariant-loop-number l = record {
  count : l.count + length (online_left l.pages.cpu l.number) ≡ length (online_in l.pages);
  most : l.count ≤ l.number;
}
