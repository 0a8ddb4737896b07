-- What stands of a node more.
use Rattle.std.proofs.Common.{◌≡◌, ◌+◌, ◌-◌, ◌<◌, ◌++◌, ◌∙◌, List, ℕ, ap, sym, arith, length, get_or}
use Rattle.vms_base.proofs.Common.{nodes_most-holds}
use Rattle.vms_text.proofs.Common.{Begins-after, OnErr-true, append_twice}
use Rattle.vms_report.specs.Common.{node_text}
use Rattle.vms_report.proofs.Entries.{texts-more}
use Rattle.vms_report.proofs.zoneinfo.write_nodes.Goals as goal

pub overflow_cast-place : goal.overflow_cast-place
overflow_cast-place c =
    omega (
      arith,
      c.zones-zones.ensures.is_layout.zones_most,
      ap length c.zones-zones.ensures.value,
      c.loop-index-test.true,
      ap length c.nodes-node-items.ensures.value,
      nodes_most-holds c.args.header.now.layout c.zones-zones.ensures.is_layout,
    )

pub loop-index-preserved : goal.loop-index-preserved
loop-index-preserved c =
    let header = c.args.header.now in
    let w = c.args.world.now in
    let n = c.loop-index.index in
    let listed = c.nodes-node-items.ensures.value in
    let within : n < length header.layout.nodes = omega (arith, c.loop-index-test.true, ap length listed) in
    let back : length c.zones-zones.result.now + n - length header.layout.zones ≡ n =
    omega (arith, ap length c.zones-zones.ensures.value) in
    append_twice _ _ _ _ _ _ (c.in_ok-write_node.ensures.ok
    ∙ ap (λ (i : ℕ). c.loop-index.out.items ++ node_text header w (i, get_or c.nodes-node-items.result.now n 0)) back
    ∙ ap (λ (nodes : List ℕ). c.loop-index.out.items ++ node_text header w (n, get_or nodes n 0)) listed)
    c.loop-index.invariant (sym (texts-more (node_text header w) header.layout.nodes n 0 within))

pub returns-in_err-write_node-clause-err : goal.returns-in_err-write_node-clause-err
returns-in_err-write_node-clause-err c =
    OnErr-true c.from_residual.result _ (Begins-after _ _ _ _ c.loop-index.invariant c.in_err-write_node.ensures.err)
