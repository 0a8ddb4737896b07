-- An area is looked at, or there is none.
use Rattle.std.proofs.Common.{ℕ, ap, refl, sym}
use Rattle.vms_calls.specs.Common.{CounterId}
use Rattle.vms_call_lines.proofs.OrderWays.{begins-area}
use Rattle.vms_call_lines.proofs.orders.write_blocks.Goals as goal

pub returns-in_ok-blocks-in-Some-clause-ok : goal.returns-in_ok-blocks-in-Some-clause-ok
returns-in_ok-blocks-in-Some-clause-ok c = λ who areas.
    begins-area who c.args.pages.now c.args.caller c.args.header.now.layout c.args.zone c.args.order c.in-Some.index
    c.in_ok-blocks-in-Some.blocks _ c.counter-counter.result _ areas c.args.out.now.items
    c.write_snapshot.new.out.items (sym c.in-Some.ensures.value)
    (ap (λ (n : ℕ). let x : CounterId = record { number = n } in x) c.counter-counter.ensures.value)
    refl (c.in_ok-blocks-in-Some.ensures.writes who)
