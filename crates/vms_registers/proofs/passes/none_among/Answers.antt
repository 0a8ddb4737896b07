-- Past the last slot nothing is held.
use Rattle.std.proofs.Common.{inl, inr, arith, length}
use Rattle.std.proofs.lemmas.Bool.{cases_lt}
use Rattle.std.proofs.lemmas.List.{get_or_past}
use Rattle.vms_registers.proofs.passes.none_among.Goals as goal

pub returns-then-holder-ne0 : goal.returns-then-holder-ne0
returns-then-holder-ne0 c = (c.loop-slot.slot, c.if-holder-ne0.true)

pub returns : goal.returns
returns c = λ s. elim (cases_lt s (length c.args.holders.now)) [
  | inl below ↦ c.loop-slot.invariant s (omega arith)
  | inr past ↦ get_or_past c.args.holders.now s 0 past
]
