-- The parts of a base are tested one after another.
use Rattle.std.proofs.Common.{rules}
use Rattle.vms_group_registers.proofs.bases.is_base.Goals as goal

pub returns : goal.returns
returns c = (
  λ yes. record {
    tree = c.is_tree.ensures.0 (search rules);
    shaped = c.is_shaped.ensures.0 (search rules);
    sums = c.sums_fit.ensures.0 yes;
  },
  λ base. c.sums_fit.ensures.1 base.sums,
)
