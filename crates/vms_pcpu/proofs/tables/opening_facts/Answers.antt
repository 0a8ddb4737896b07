-- The goal was that the facts are these.
use Rattle.std.proofs.Common.{◌∙◌}
use Rattle.vms_pcpu.proofs.tables.opening_facts.Goals as goal

pub returns : goal.returns
returns c i = record {
  layout = c.copied.ensures i;
  cpus = c.in_ok-cpus.ensures i;
  base = record {
    batch = (c.in_ok-batch.ensures ∙ c.as_slice.ensures) i;
    count = (c.in_ok-count.ensures ∙ c.as_slice-2.ensures) i;
    local = (c.in_ok-local.ensures ∙ c.as_slice-3.ensures) i;
  };
}
