-- The loads, the visits and the thresholds of nodes make the call, and each word was set once at most.
use Rattle.std.proofs.Common.{ℕ, ◌+◌, List, length, sym, ◌∙◌, subst, arith}
use Rattle.vms_calls.specs.Common.{CpuId, place_count, in_turn, pages}
use Rattle.vms_control.specs.Common.{never, once}
use Rattle.vms_control.proofs.LargestSets.{largest-grows}
use Rattle.vms_control.proofs.NodeThresholds.{node_steps}
use Rattle.vms_control.proofs.PassCalls.{control-new, has-made}
use Rattle.vms_control.proofs.StepCounts.{once-other, once-parts, set-both, still-may}
use Rattle.vms_control.proofs.WholeCalls.{first-control, loaded-room, loaded-still, once-little, refresh-call}
use Rattle.vms_control.proofs.WholeCalls.{refresh-nothing}
use Rattle.vms_control.proofs.refreshing.refresh_thresholds.Goals as goal
use Rattle.vms_drift.proofs.LeftMarks.{refresh-settles}
use Rattle.vms_seats.specs.Common.{Made}

pub visit_all-thresholds-requires-clause-room : goal.visit_all-thresholds-requires-clause-room
visit_all-thresholds-requires-clause-room g c =
    loaded-room c.args.table.now c.load_online-online.new.pass c.args.pass.now c.requires.table
    c.load_online-online.ensures.made.0 c.load_online-online.ensures.made.3
    c.requires.room

pub set_nodes-requires-clause-control : goal.set_nodes-requires-clause-control
set_nodes-requires-clause-control g c =
    control-new c.args.table.now c.visit_all-thresholds.new.pass c.load_online-online.new.pass
    c.visit_all-thresholds.ensures.made.0
    (record {
      table = c.load_online-online.ensures.made.3.table ∙ c.requires.table.table;
      facts = c.load_online-online.ensures.made.3.facts ∙ c.requires.table.facts;
    })
    c.visit_all-thresholds.ensures.made.2 c.visit_all-thresholds.ensures.control

pub set_nodes-requires-clause-room : goal.set_nodes-requires-clause-room
set_nodes-requires-clause-room g c place past place_in =
    let facts = c.args.table.now.facts in
    let zones = once 0 (length facts.layout.zones) in
    let none = once-other 0 (length facts.layout.zones) place past in
    still-may facts zones zones c.visit_all-thresholds.new.pass.seen c.load_online-online.new.pass.seen place place_in
    c.visit_all-thresholds.ensures.sets none none
    (loaded-room c.args.table.now c.load_online-online.new.pass c.args.pass.now c.requires.table
    c.load_online-online.ensures.made.0 c.load_online-online.ensures.made.3
    c.requires.room c.visit_all-thresholds.ensures.control place place_in)

pub returns-clause-made : goal.returns-clause-made
returns-clause-made g c =
    let words = c.args.table.now in
    let made = c.load_online-online.ensures.made in
    let ts = c.visit_all-thresholds.result.items in
    let online = c.as_slice.result.now in
    let found = c.as_slice.ensures.value ∙ made.2 in
    let nodes : Made pages c.set_nodes.new.pass c.visit_all-thresholds.new.pass
    (in_turn (node_steps words.facts.layout ts online) 0 words.facts.layout.nodes) =
    subst (λ (us : List ℕ). Made pages c.set_nodes.new.pass c.visit_all-thresholds.new.pass
    (in_turn (node_steps words.facts.layout us online) 0 words.facts.layout.nodes)) c.as_slice-3.ensures.value
    (subst (λ (cs : List CpuId). Made pages c.set_nodes.new.pass c.visit_all-thresholds.new.pass
    (in_turn (node_steps words.facts.layout c.as_slice-3.result.now cs) 0 words.facts.layout.nodes))
    (c.as_slice-2.ensures.value ∙ sym c.as_slice.ensures.value) c.set_nodes.ensures.made) in
    refresh-call words c.load_online-online.new.pass c.args.pass.now c.requires.table made.0 made.3
    c.control_passes_know_by_own_steps.ensures c.visit_all-thresholds.ensures.control made.1 online found
    c.set_nodes.new.pass (g.N.Rule.answers c.args.rules.now.normal) ts
    c.visit_all-thresholds.new.pass c.visit_all-thresholds.ensures.made nodes

pub returns-clause-marks : goal.returns-clause-marks
returns-clause-marks g c =
    let words = c.args.table.now in
    let new = c.set_nodes.new.pass in
    let old = c.args.pass.now in
    let made = c.load_online-online.ensures.made in
    let call = returns-clause-made g c in (
      call.0,
      call.2,
      refresh-settles c.control_passes_know_by_own_steps.ensures
          (g.N.Rule.answers c.args.rules.now.normal) words.facts old.number new.seen old.seen call.0 call.1
          (has-made words new old call.0 c.requires.table call.2)
          (first-control words c.load_online-online.new.pass old c.requires.table made.0 made.3
          c.visit_all-thresholds.ensures.control),
    )

pub returns-clause-carries : goal.returns-clause-carries
returns-clause-carries g c =
    let call = returns-clause-made g c in
    refresh-nothing c.args.table.now.facts (g.N.Rule.answers c.args.rules.now.normal) c.set_nodes.new.pass
    c.args.pass.now call.0 call.1 call.2

pub returns-clause-sets : goal.returns-clause-sets
returns-clause-sets g c =
    let facts = c.args.table.now.facts in
    let zones = once 0 (length facts.layout.zones) in
    let nodes = once (length facts.layout.zones) (place_count facts.layout) in
    let made = c.load_online-online.ensures.made in
    let still = loaded-still c.args.table.now c.load_online-online.new.pass c.args.pass.now c.requires.table made.0
    made.3 c.visit_all-thresholds.ensures.control in
    let visited = set-both facts never never zones zones zones zones c.visit_all-thresholds.new.pass.seen
    c.load_online-online.new.pass.seen c.args.pass.now.seen c.visit_all-thresholds.ensures.sets
    still (λ n. omega arith) (λ n. omega arith) in
    let grown = largest-grows facts (λ n. nodes n + zones n) (λ n. never n + zones n) 1 c.set_nodes.new.pass.seen
    c.args.pass.now.seen
    (set-both facts zones zones nodes never (λ n. nodes n + zones n) (λ n. never n + zones n)
    c.set_nodes.new.pass.seen c.visit_all-thresholds.new.pass.seen c.args.pass.now.seen c.set_nodes.ensures.sets visited
    (λ n. omega arith) (λ n. omega arith))
    (once-parts (length facts.layout.zones) (place_count facts.layout))
    (λ n. let little = once-little 0 (length facts.layout.zones) n in omega (arith, little)) in
    omega (arith, grown)
