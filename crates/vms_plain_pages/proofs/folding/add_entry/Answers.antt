-- An addition of 0 changes nothing.
use Rattle.std.proofs.Common.{sym, arith}
use Rattle.std.proofs.lemmas.Int.{ints}
use Rattle.vms_calls.specs.Common.{item_of}
use Rattle.vms_plain_pages.proofs.TakenGroups.{set-nothing, with_value-nothing}
use Rattle.vms_plain_pages.proofs.folding.add_entry.Goals as goal

pub returns-else-amount-ne0-clause-value : goal.returns-else-amount-ne0-clause-value
returns-else-amount-ne0-clause-value c =
    sym (with_value-nothing c.args.pages.now c.args.counter.number c.args.amount (omega (arith, ints)))

pub returns-else-amount-ne0-clause-sum : goal.returns-else-amount-ne0-clause-sum
returns-else-amount-ne0-clause-sum c =
    sym (set-nothing c.args.sums.now (item_of c.args.layout.now c.args.counter.number) c.args.amount
    (omega (arith, ints)))
