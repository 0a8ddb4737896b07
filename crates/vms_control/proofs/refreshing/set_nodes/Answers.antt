-- A node more gets its threshold.
use Rattle.std.proofs.Common.{◌≡◌, ℕ, suc, ◌+◌, ◌-◌, ◌<◌, ◌≤◌, List, length, get_or, take, ap, subst, ◌∙◌, arith}
use Rattle.vms_calls.specs.Common.{IsPlace, Shape, in_turn, largest_on, threshold_steps, pages}
use Rattle.vms_control.specs.Common.{never, once}
use Rattle.vms_control.proofs.NodeThresholds.{node-may, node_steps, nodes-more}
use Rattle.vms_control.proofs.PassCalls.{control-new}
use Rattle.vms_control.proofs.StepCounts.{once-from, once-other, set-both}
use Rattle.vms_control.proofs.refreshing.set_nodes.Goals as goal
use Rattle.vms_seats.specs.Common.{Made}

pub set_thresholds-requires-clause-control : goal.set_thresholds-requires-clause-control
set_thresholds-requires-clause-control c =
    control-new c.args.table.now c.loop-number.pass c.args.pass.now _ c.requires.table c.loop-number.invariant.made
    c.requires.control

pub set_thresholds-requires-clause-may : goal.set_thresholds-requires-clause-may
set_thresholds-requires-clause-may c =
    let shape = c.args.table.now.facts.layout in
    let laid = c.layout-layout.ensures in
    let same = ap length c.zones-zones.ensures.value ∙ ap (λ (s : Shape). length s.zones) laid in
    let places = c.places-number-end.ensures.value
    ∙ ap (λ (s : Shape). length s.zones + length s.nodes) laid in
    let place : IsPlace shape c.loop-number.number = omega (arith, c.loop-number-test.true, places) in
    node-may c.args.table.now.facts c.loop-number.pass.seen c.loop-number.pass.number c.loop-number.number
    c.node_threshold-threshold.result c.args.online.now
    (control-new c.args.table.now c.loop-number.pass c.args.pass.now _ c.requires.table c.loop-number.invariant.made
    c.requires.control)
    (omega (arith, c.loop-number.invariant.least, same)) place c.node_threshold-threshold.ensures.least
    c.node_threshold-threshold.ensures.most c.requires.online

pub set_thresholds-requires-clause-room : goal.set_thresholds-requires-clause-room
set_thresholds-requires-clause-room c d d_in =
    let shape = c.args.table.now.facts.layout in
    let n = c.loop-number.number in
    let laid = c.layout-layout.ensures in
    let same = ap length c.zones-zones.ensures.value ∙ ap (λ (s : Shape). length s.zones) laid in
    let places = c.places-number-end.ensures.value
    ∙ ap (λ (s : Shape). length s.zones + length s.nodes) laid in
    let place : IsPlace shape n = omega (arith, c.loop-number-test.true, places) in
    let past : length shape.zones ≤ n = omega (arith, c.loop-number.invariant.least, same) in
    let before = (c.requires.room n past place).thresholds d d_in in
    let since = c.loop-number.invariant.sets.thresholds d n d_in place in
    let none = once-other (length shape.zones) n n (omega arith) in
    omega (arith, before, since, none)

pub loop-number-preserved : goal.loop-number-preserved
loop-number-preserved c =
    let facts = c.args.table.now.facts in
    let shape = facts.layout in
    let ts = c.args.thresholds.now in
    let online = c.args.online.now in
    let old = c.args.pass.now in
    let now = c.loop-number.pass in
    let new = c.set_thresholds.new.pass in
    let n = c.loop-number.number in
    let zones = length c.zones-zones.result.now in
    let i = n - zones in
    let so_far = c.loop-number.invariant in
    let laid = c.layout-layout.ensures in
    let same : zones ≡ length shape.zones =
    ap length c.zones-zones.ensures.value ∙ ap (λ (s : Shape). length s.zones) laid in
    let places = c.places-number-end.ensures.value
    ∙ ap (λ (s : Shape). length s.zones + length s.nodes) laid in
    let i_in : i < length shape.nodes = omega (arith, c.loop-number-test.true, places, same, so_far.least) in
    let t = c.node_threshold-threshold.result in
    let t_is : t ≡ largest_on shape ts (get_or shape.nodes i 0) = c.node_threshold-threshold.ensures.value
    ∙ ap (λ (xs : List ℕ). largest_on c.layout-layout.result.now ts (get_or xs i 0))
    (c.nodes.ensures.value ∙ ap (λ (s : Shape). s.nodes) laid)
    ∙ ap (λ (s : Shape). largest_on s ts (get_or shape.nodes i 0)) laid in
    let at : n ≡ length shape.zones + i = omega (arith, same, so_far.least) in
    let moved : i + 1 ≡ n + 1 - zones = omega (arith, so_far.least) in
    record {
      made = subst (λ (m : ℕ). Made pages new old (in_turn (node_steps shape ts online) 0 (take m shape.nodes))) moved
          (nodes-more shape ts online new now old i t i_in so_far.made t_is
          (subst (λ (m : ℕ). Made pages new now (threshold_steps m t online)) at c.set_thresholds.ensures.made));
      sets = set-both facts (once (length shape.zones) n) never (once n (suc n)) never
          (once (length shape.zones) (n + 1)) never new.seen now.seen old.seen c.set_thresholds.ensures.sets so_far.sets
          (λ g. once-from (length shape.zones) n g (omega (arith, same, so_far.least))) (λ g. omega arith);
      least = omega (arith, so_far.least);
    }
