-- A zone more is visited, if it is on the node. The node has a zone, whose visit tells that the pass is the control
-- pass.
use Rattle.std.proofs.Common.{◌≡◌, ℕ, ◌+◌, ◌-◌, ◌≤◌, nat_eq, true, List, [], ◌∷◌, ◌++◌, length, sym, get_or, ap, subst}
use Rattle.std.proofs.Common.{◌∙◌, arith, ⊎_elim, true≢false}
use Rattle.std.proofs.lemmas.Bool.{cases_eq}
use Rattle.vms_calls.specs.Common.{ZoneName, IsPlace, Shape, node_of_zone, IsBase, IsControl, pages}
use Rattle.vms_control.specs.Common.{SetsAtMost, once}
use Rattle.vms_calls.proofs.Common.{on-false, on-true, zones-more, zones-same, zones_so_far}
use Rattle.vms_control.proofs.VisitedZones.{Visited, node-tells, visited-control, visited-more, visited-none}
use Rattle.vms_control.proofs.VisitedZones.{visited-past, visited-room}
use Rattle.vms_control.proofs.nodes.visit_node.Goals as goal
use Rattle.vms_control.proofs.nodes.visit_node.Goals.{then-zones-zone, else-zones-zone}
use Rattle.vms_history.proofs.Common.{base_can_begin}

pub loop-zone-init : goal.loop-zone-init
loop-zone-init g c = record {
  visited = (
    [],
    visited-none c.args.table.now c.args.pass.now (g.P.Rule.answers c.args.rules.now.pressure)
        (g.N.Rule.answers c.args.rules.now.normal) c.args.rating c.args.online.now c.is_live.ensures,
  );
  control = λ z below on. absurd (omega arith);
}

pub visit-requires-clause-room : goal.visit-requires-clause-room
visit-requires-clause-room g c =
    let words = c.args.table.now in
    let same = ap (λ (shape : Shape). length shape.zones) c.layout-layout.ensures in
    let place : IsPlace words.facts.layout c.loop-zone.zone = omega (
      arith,
      c.loop-zone-test.true,
      ap length c.zones-zone-end.ensures.value,
      same,
    ) in
    visited-room words c.args.pass.now (g.P.Rule.answers c.args.rules.now.pressure)
    (g.N.Rule.answers c.args.rules.now.normal) c.args.rating c.args.online.now c.requires.table _
    c.loop-zone.invariant.visited.0 c.loop-zone.zone c.loop-zone.pass c.loop-zone.invariant.visited.1 place
    c.requires.room

pub loop-zone-preserved : goal.loop-zone-preserved
loop-zone-preserved g c =
    let words = c.args.table.now in
    let shape = words.facts.layout in
    let old = c.args.pass.now in
    let now = c.loop-zone.pass in
    let n = c.loop-zone.zone in
    let node = get_or c.nodes.result.now (c.args.node.number - length c.zones.result.now) 0 in
    let pressure = g.P.Rule.answers c.args.rules.now.pressure in
    let normal = g.N.Rule.answers c.args.rules.now.normal in
    let online = c.args.online.now in
    let so_far = c.loop-zone.invariant in
    let zones_are = c.zones-in-loop-zone.ensures.value ∙ ap (λ (s : Shape). s.zones) c.layout-layout.ensures in
    elim c.if-zones-zone.branch [
      | then-zones-zone w ↦
          let on = on-true shape c.zones-in-loop-zone.result.now n node zones_are w.if-zones-zone.true in
          let ts = so_far.visited.0 ++ (w.visit.result ∷ []) in
          let visited = visited-more words old pressure normal c.args.rating online c.requires.table
          (zones_so_far shape node n) so_far.visited.0 n now so_far.visited.1
          c.control_passes_know_by_own_steps.ensures w.visit.result w.visit.new.pass w.visit.ensures.made
          w.visit.ensures.control w.visit.ensures.sets in
          record {
            visited = (
              ts,
              subst (Visited words old pressure normal c.args.rating online (zones_so_far shape node (n + 1)) ts
                  (n + 1)) (sym w.pass-is)
                  (subst (λ (gs : List ℕ). Visited words old pressure normal c.args.rating online gs ts (n + 1)
                  w.visit.new.pass) (sym (zones-more shape node n on)) visited),
            );
            control = λ z below on_node. visited-control words old pressure normal c.args.rating online
                c.requires.table (zones_so_far shape node n) so_far.visited.0 n now so_far.visited.1
                w.visit.ensures.control;
          }
      | else-zones-zone w ↦
          let off = on-false shape c.zones-in-loop-zone.result.now n node zones_are w.if-zones-zone.false in
          let past = visited-past words old pressure normal c.args.rating online c.requires.table
          (zones_so_far shape node n) so_far.visited.0 n now so_far.visited.1 in
          record {
            visited = (
              so_far.visited.0,
              subst (Visited words old pressure normal c.args.rating online (zones_so_far shape node (n + 1))
                  so_far.visited.0 (n + 1)) (sym w.pass-is)
                  (subst (λ (gs : List ℕ). Visited words old pressure normal c.args.rating online gs so_far.visited.0
                  (n + 1) now) (sym (zones-same shape node n off)) past),
            );
            control = λ z below on_node. ⊎_elim
                (λ (here : z ≡ n). absurd (true≢false
                (sym (subst (λ (m : ℕ). nat_eq (node_of_zone shape m) node ≡ true) here on_node) ∙ off)))
                (λ (other : z ≡ n → ⊥). so_far.control z (omega arith) on_node)
                (cases_eq z n);
          }
    ]

pub returns-clause-control : goal.returns-clause-control
returns-clause-control g c =
    let shape = c.args.table.now.facts.layout in
    let old = c.args.pass.now in
    let laid = c.layout-layout.ensures in
    let base = subst IsBase c.requires.table.facts (base_can_begin pages old.facts old.seen c.is_live.ensures.legal) in
    let same = ap length c.zones-zone-end.ensures.value ∙ ap (λ (s : Shape). length s.zones) laid in
    let past : length shape.zones ≤ c.loop-zone.zone = omega (arith, c.loop-zone-test.false, same) in
    node-tells shape base.layout c.args.node c.requires.node (IsControl old.seen old.number)
    (get_or c.nodes.result.now (c.args.node.number - length c.zones.result.now) 0) c.loop-zone.zone
    (sym (ap (λ (xs : List ℕ). get_or xs (c.args.node.number - length c.zones.result.now) 0)
    (c.nodes.ensures.value ∙ ap (λ (s : Shape). s.nodes) laid)
    ∙ ap (λ (xs : List ZoneName). get_or shape.nodes (c.args.node.number - length xs) 0)
    (c.zones.ensures.value ∙ ap (λ (s : Shape). s.zones) laid)))
    past c.loop-zone.invariant.control

pub returns-clause-sets : goal.returns-clause-sets
returns-clause-sets g c =
    let words = c.args.table.now in
    let shape = words.facts.layout in
    let old = c.args.pass.now in
    let laid = c.layout-layout.ensures in
    let same = ap length c.zones-zone-end.ensures.value ∙ ap (λ (s : Shape). length s.zones) laid in
    let all : c.loop-zone.zone ≡ length shape.zones = omega (
      arith,
      c.loop-zone-test.false,
      c.loop-zone.auto.«zone-end»,
      same,
    ) in
    subst (λ (m : ℕ). SetsAtMost words.facts (once 0 m) (once 0 m) c.loop-zone.pass.seen old.seen) all
    (c.loop-zone.invariant.visited.1.sets (returns-clause-control g c))
