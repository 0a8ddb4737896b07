-- Past the last slot nothing is held.
use Rattle.std.proofs.Common.{inl, inr, sym, ◌∙◌, arith, length}
use Rattle.std.proofs.lemmas.Bool.{cases_lt}
use Rattle.std.proofs.lemmas.List.{get_or_past}
use Rattle.vms_registers.proofs.passes.slot_among.Goals as goal

pub returns : goal.returns
returns c = λ s same. elim (cases_lt s (length c.args.holders.now)) [
  | inl below ↦ c.loop-slot.invariant s (omega arith) same
  | inr past ↦ c.requires.some (sym same ∙ get_or_past c.args.holders.now s 0 past)
]
