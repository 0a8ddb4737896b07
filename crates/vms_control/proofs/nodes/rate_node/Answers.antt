-- The loads and the visits make the call, and each word was set once at most.
use Rattle.std.proofs.Common.{length, sym, ◌∙◌, subst, arith}
use Rattle.vms_control.specs.Common.{FoundOnline, never, once}
use Rattle.vms_calls.specs.Common.{choice_of}
use Rattle.vms_control.proofs.LargestSets.{largest-grows}
use Rattle.vms_control.proofs.PassCalls.{has-made}
use Rattle.vms_control.proofs.StepCounts.{set-both}
use Rattle.vms_control.proofs.WholeCalls.{first-control, loaded-room, loaded-still, node-call, node-nothing}
use Rattle.vms_control.proofs.WholeCalls.{once-little}
use Rattle.vms_control.proofs.nodes.rate_node.Goals as goal
use Rattle.vms_drift.proofs.LeftMarks.{node-settles}

pub visit_node-requires-clause-online : goal.visit_node-requires-clause-online
visit_node-requires-clause-online g c =
    subst (FoundOnline c.args.table.now.facts) (sym c.as_slice.ensures.value) c.load_online-online.ensures.found

pub visit_node-requires-clause-room : goal.visit_node-requires-clause-room
visit_node-requires-clause-room g c =
    loaded-room c.args.table.now c.load_online-online.new.pass c.args.pass.now c.requires.table
    c.load_online-online.ensures.made.0 c.load_online-online.ensures.made.3
    c.requires.room

pub returns-clause-made : goal.returns-clause-made
returns-clause-made g c =
    let made = c.load_online-online.ensures.made in
    node-call c.args.table.now c.load_online-online.new.pass c.args.pass.now c.requires.table made.0 made.3
    c.control_passes_know_by_own_steps.ensures c.visit_node.ensures.control made.1 c.as_slice.result.now
    (c.as_slice.ensures.value ∙ made.2) c.visit_node.new.pass c.args.node (g.P.Rule.answers c.args.rules.now.pressure)
    (g.N.Rule.answers c.args.rules.now.normal) c.args.rating c.requires.node_alone c.visit_node.ensures.made

pub returns-clause-control : goal.returns-clause-control
returns-clause-control g c =
    let made = c.load_online-online.ensures.made in
    first-control c.args.table.now c.load_online-online.new.pass c.args.pass.now c.requires.table made.0 made.3
    c.visit_node.ensures.control

pub returns-clause-marks : goal.returns-clause-marks
returns-clause-marks g c =
    let words = c.args.table.now in
    let new = c.visit_node.new.pass in
    let old = c.args.pass.now in
    let call = returns-clause-made g c in (
      call.0,
      call.2,
      node-settles c.control_passes_know_by_own_steps.ensures
          (choice_of c.args.rating (g.P.Rule.answers c.args.rules.now.pressure)
          (g.N.Rule.answers c.args.rules.now.normal)) words.facts c.args.node old.number new.seen old.seen call.0 call.1
          (has-made words new old call.0 c.requires.table call.2) (returns-clause-control g c),
    )

pub returns-clause-carries : goal.returns-clause-carries
returns-clause-carries g c =
    let call = returns-clause-made g c in
    node-nothing c.args.table.now.facts (choice_of c.args.rating (g.P.Rule.answers c.args.rules.now.pressure)
    (g.N.Rule.answers c.args.rules.now.normal)) c.args.node c.visit_node.new.pass c.args.pass.now call.0 call.1 call.2

pub returns-clause-sets : goal.returns-clause-sets
returns-clause-sets g c =
    let facts = c.args.table.now.facts in
    let all = once 0 (length facts.layout.zones) in
    let made = c.load_online-online.ensures.made in
    let still = loaded-still c.args.table.now c.load_online-online.new.pass c.args.pass.now c.requires.table made.0
    made.3 c.visit_node.ensures.control in
    let grown = largest-grows facts all all 1 c.visit_node.new.pass.seen c.args.pass.now.seen
    (set-both facts never never all all all all c.visit_node.new.pass.seen c.load_online-online.new.pass.seen
    c.args.pass.now.seen c.visit_node.ensures.sets still (λ n. omega arith)
    (λ n. omega arith))
    (once-little 0 (length facts.layout.zones)) (once-little 0 (length facts.layout.zones)) in
    omega (arith, grown)
