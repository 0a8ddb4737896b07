use Rattle.std.proofs.Common.{length}
use Rattle.std.specs.Prelude.{Option}
use Rattle.vms_calls.specs.Common.{CpuId}
use Rattle.vms_call_lines.proofs.OrderWays.{ZonesLeft}
use Rattle.vms_call_lines.proofs.orders.write_balance.Given as goal

-- the zones that are left are to be tested
abbrev pub invariant-loop-place : goal.invariant-loop-place
invariant-loop-place l = (who : Option CpuId) → ZonesLeft who l.pages l.caller l.header l.most l.order l.number l.place
    (length l.zones) l.initial.out.items l.out.items
