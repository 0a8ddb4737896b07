-- All totals are 0.
use Rattle.std.proofs.Common.{◌≡◌, pos, arith}
use Rattle.std.proofs.lemmas.Int.{ints}
use Rattle.std.specs.Prelude.{replicate}
use Rattle.vms_core.proofs.Common.{get_or-copies}
use Rattle.vms_cursors.specs.Totals.{total_at}
use Rattle.vms_cursors.proofs.taken.Taken.nothing.Goals as goal

pub invariant_of-result : goal.invariant_of-result
invariant_of-result c = record {
  bounded = λ i. let none : total_at (replicate 32 (pos 0)) i ≡ pos 0 = get_or-copies 32 i (pos 0) in
      omega (arith, ints, none);
}
