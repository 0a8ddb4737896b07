use Rattle.std.proofs.Common.{◌≡◌}
use Rattle.vms_core.specs.Cells.{zeroed}
use Rattle.vms_core.proofs.plain.zero_eight.Given as goal

abbrev pub invariant-loop-n : goal.invariant-loop-n
invariant-loop-n l = l.numbers ≡ zeroed l.initial.numbers l.start l.n
