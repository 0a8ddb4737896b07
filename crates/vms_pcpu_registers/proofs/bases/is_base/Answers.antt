use Rattle.std.proofs.Common.{rules}
use Rattle.vms_pcpu_registers.proofs.bases.is_base.Goals as goal

pub returns : goal.returns
returns c = (
  λ yes. record {
    layout = c.has_lengths.ensures.layout;
    lengths = c.has_lengths.ensures.value.0 (search rules);
    some_online = c.has_online.ensures.0 (search rules);
    counters = c.counters_fit.ensures.0 (search rules);
    locals = c.locals_fit.ensures.0 yes;
  },
  λ base. c.locals_fit.ensures.1 base.locals,
)
