-- An addition of 0 leaves the sum.
use Rattle.std.proofs.Common.{sym, arith}
use Rattle.std.proofs.lemmas.Int.{ints}
use Rattle.vms_calls.specs.Common.{item_of}
use Rattle.vms_count.proofs.TakenGroups.{set-nothing}
use Rattle.vms_count.proofs.folding.add_entry.Goals as goal

pub returns-else-amount-ne0-clause-sum : goal.returns-else-amount-ne0-clause-sum
returns-else-amount-ne0-clause-sum g c =
    sym (set-nothing c.args.sums.now (item_of c.args.table.now.facts.layout c.args.counter.number) c.args.amount
    (omega (arith, ints)))
