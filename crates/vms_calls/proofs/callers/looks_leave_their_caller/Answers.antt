use Rattle.vms_calls.specs.Common.{node_number, zones_up_to}
use Rattle.vms_calls.proofs.CallerLaws.{IsStill, looks-still, still-leaves}
use Rattle.vms_calls.proofs.CallSteps.{snapshot-each, test-each, order-each, balance-each, Each}
use Rattle.std.proofs.Common.{sym, subst}
use Rattle.vms_calls.proofs.callers.looks_leave_their_caller.Goals as goal

pub returns : goal.returns
returns c = record {
  place_value = λ shape k p began steps call h.
      still-leaves shape p steps h (subst (Each IsStill) (sym call.1.in_order) (tt, tt));
  system_value = λ shape i p began steps call h.
      still-leaves shape p steps h (subst (Each IsStill) (sym call.1.in_order) (tt, tt));
  snapshot = λ shape k p began steps call h.
      still-leaves shape p steps h (snapshot-each IsStill looks-still shape k steps call.0 call.1);
  test = λ header z mark most p began steps call h.
      still-leaves header.layout p steps h (test-each IsStill looks-still header z mark most steps call.0 call.1);
  order = λ header z mark most order p began steps call h.
      still-leaves header.layout p steps h
      (order-each IsStill looks-still header z mark most order steps call.0 call.1);
  balance = λ header n order most p began steps call h.
      still-leaves header.layout p steps h
      (balance-each IsStill looks-still header most order
      (zones_up_to header.layout most (node_number header.layout n)) steps call.0 call.1);
}
