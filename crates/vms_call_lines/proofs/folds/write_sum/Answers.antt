-- An addition of 0 changes nothing.
use Rattle.std.proofs.Common.{sym, arith}
use Rattle.std.proofs.lemmas.Int.{ints}
use Rattle.vms_call_lines.proofs.FoldLines.{with_system-nothing}
use Rattle.vms_call_lines.proofs.folds.write_sum.Goals as goal

pub returns-then-sum-eq0-clause-system : goal.returns-then-sum-eq0-clause-system
returns-then-sum-eq0-clause-system c =
    sym (with_system-nothing c.args.pages.now c.args.item.number c.args.sum (omega (arith, ints)))
