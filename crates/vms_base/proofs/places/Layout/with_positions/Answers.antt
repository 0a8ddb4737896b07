-- The zones stand in order, so they differ, and each fact of a layout is a fact of its parts.
use Rattle.std.proofs.Common.{arith, inl, inr, length, refl}
use Rattle.vms_base.specs.Common.{IsLayout}
use Rattle.vms_base.proofs.Doubled.{not-HasDoubled}
use Rattle.vms_base.proofs.Made.{not_empty, IsLayout-made}
use Rattle.vms_base.proofs.places.Layout.with_positions.Goals as goal
use Rattle.vms_base.proofs.places.Layout.with_positions.Goals.{then-cpus-eq0-via-then-cpus-eq0}
use Rattle.vms_base.proofs.places.Layout.with_positions.Goals.{then-cpus-eq0-via-else-cpus-eq0+then-cpus-most_cpus}

pub returns-then-cpus-eq0 : goal.returns-then-cpus-eq0
returns-then-cpus-eq0 c = (
  not_empty (length c.args.zones.now) c.is_empty.result c.is_empty.ensures c.if-is_empty.false,
  omega arith,
  not-HasDoubled c.args.zones.now c.in_ok-zones.zones.items c.in_ok-zones.ensures.permutation
      c.in_ok-zones.ensures.ascend,
  elim c.then-cpus-eq0.either [ inl none ↦ inl none | inr more ↦ inr more.1 ],
)

is_layout : (c : goal.After-nodes_of-nodes)
    → IsLayout (record {
      zones = c.in_ok-zones.zones.items;
      nodes = c.nodes_of-nodes.result.items;
      cpus = c.args.cpus;
      positions = c.args.positions;
    })
is_layout c =
    IsLayout-made c.args.zones.now c.in_ok-zones.zones.items c.nodes_of-nodes.result.items c.args.cpus c.args.most_cpus
    c.args.positions
    c.requires.nodes
    (not_empty (length c.args.zones.now) c.is_empty.result c.is_empty.ensures c.if-is_empty.false)
    (omega arith)
    c.in_ok-zones.ensures.permutation c.in_ok-zones.ensures.ascend c.nodes_of-nodes.ensures.ascend
    (rw c.as_slice.ensures.value at c.nodes_of-nodes.ensures.named)
    c.requires.widths
    (omega arith)
    c.if-cpus-most_cpus.false

pub invariant_of-result : goal.invariant_of-result
invariant_of-result c = is_layout c

pub returns : goal.returns
returns c = record {
  is_layout = is_layout c;
  same_zones = c.in_ok-zones.ensures.permutation;
  same_cpus = refl;
  same_positions = refl;
}
