use Rattle.std.proofs.Common.{◌≡◌, None}
use Rattle.std.specs.List.{find}
use Rattle.vms_calls.specs.Common.{High}
use Rattle.vms_plain_pages.specs.Common.{zone_passes}
use Rattle.vms_calls.proofs.Common.{zones_below}
use Rattle.vms_plain_pages.proofs.balances.balance_test.Given as goal

-- no zone passed so far
abbrev pub invariant-loop-place : goal.invariant-loop-place
invariant-loop-place l = find (λ g. zone_passes l.header g High l.most l.order l.pages)
    (zones_below l.header.layout l.most l.number l.place) ≡ None
