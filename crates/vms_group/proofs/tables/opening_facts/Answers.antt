-- The goal was that the facts are these.
use Rattle.std.proofs.Common.{◌∙◌}
use Rattle.vms_group.proofs.tables.opening_facts.Goals as goal

pub returns : goal.returns
returns c i = record {
  tree = record { parents = (c.in_ok-parents.ensures ∙ c.as_slice.ensures) i; cpus = c.args.tree.now.cpus };
  base = record {
    value = (c.in_ok-value.ensures ∙ c.as_slice-2.ensures) i;
    up = (c.in_ok-up.ensures ∙ c.as_slice-3.ensures) i;
    pending = (c.in_ok-pending.ensures ∙ c.as_slice-4.ensures) i;
  };
}
