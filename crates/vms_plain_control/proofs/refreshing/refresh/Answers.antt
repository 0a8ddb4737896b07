-- The visits of the zones leave room at the nodes, and both make the call.
use Rattle.std.proofs.Common.{ℕ, List, inr, ap, subst, arith}
use Rattle.vms_calls.specs.Common.{IsNode, State, largest_on, node_number}
use Rattle.vms_plain_control.specs.Common.{GetsThreshold, MakesPart}
use Rattle.vms_plain_control.proofs.NodeThresholds.{SetsNodes}
use Rattle.vms_plain_control.proofs.PlaceSteps.{refreshed-places}
use Rattle.vms_plain_control.proofs.RefreshCalls.{refresh-makes}
use Rattle.vms_plain_control.proofs.refreshing.refresh.Goals as goal

pub set_nodes-requires-clause-sets : goal.set_nodes-requires-clause-sets
set_nodes-requires-clause-sets g c d f d_in past f_in = omega (
  arith,
  c.visit_all-thresholds.ensures.once.other_thresholds d f d_in f_in (inr past),
  c.requires.room.thresholds d f d_in f_in,
)

pub returns-clause-makes : goal.returns-clause-makes
returns-clause-makes g c =
    let header = c.args.header.now in
    let first = c.args.pages.now in
    let mid = c.visit_all-thresholds.new.pages in
    let known = c.visit_all-thresholds.new.peaks in
    let next = c.set_nodes.new.pages in
    let ts = c.visit_all-thresholds.result.items in
    refresh-makes header c.requires.header.is_layout first mid next c.args.peaks.now known ts c.requires.shaped
    (g.N.Rule.answers c.args.rules.now.normal) c.tells.ensures.normal c.visit_all-thresholds.ensures.makes
    (ap (λ (x : State). x.cpu) c.visit_all-thresholds.ensures.rest)
    (subst (λ (us : List ℕ). MakesPart header (SetsNodes header.layout us mid.cpu header.layout.nodes) mid known next
    known) c.as_slice.ensures.value (c.set_nodes.ensures.makes known))

pub returns-clause-places : goal.returns-clause-places
returns-clause-places g c =
    let header = c.args.header.now in
    let mid = c.visit_all-thresholds.new.pages in
    let next = c.set_nodes.new.pages in
    let ts = c.visit_all-thresholds.result.items in
    refreshed-places header (g.N.Rule.answers c.args.rules.now.normal) c.args.pages.now mid next c.args.peaks.now
    c.visit_all-thresholds.new.peaks ts c.visit_all-thresholds.ensures.length c.visit_all-thresholds.ensures.rest
    c.visit_all-thresholds.ensures.zones c.visit_all-thresholds.ensures.nodes c.set_nodes.ensures.zones
    c.set_nodes.ensures.marks
    (subst (λ (us : List ℕ). (f : ℕ) → IsNode header.layout f → GetsThreshold header.layout f
    (largest_on header.layout us (node_number header.layout (record { number = f }))) mid next)
    c.as_slice.ensures.value c.set_nodes.ensures.nodes)
