-- Numbers that fit a byte each are one list.
use Rattle.std.proofs.Common.{refl, sym, ◌∙◌}
use Rattle.vms_written_lines.proofs.NarrowSteps.{diffs_of-is}
use Rattle.vms_written_lines.proofs.narrowing.diffs_of.Goals as goal

pub returns-then-are_bytes-clause-value : goal.returns-then-are_bytes-clause-value
returns-then-are_bytes-clause-value c =
    sym (diffs_of-is c.args.values _ refl (sym c.are_bytes.ensures ∙ c.if-are_bytes.true))
