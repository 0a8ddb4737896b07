-- The next zone is visited, if it is on the node; the visits come after the loads of the CPUs' states.
use Rattle.std.proofs.Common.{◌≡◌, ℕ, ◌+◌, ◌-◌, Bool, ◌++◌, List, length, nat_eq, get_or, sym, ap, ◌∙◌, arith}
use Rattle.vms_text.proofs.Common.{Begins-after, OnErr-true}
use Rattle.vms_calls.specs.Common.{in_turn, node_number, state_steps}
use Rattle.vms_calls.proofs.Common.{on-false, on-true, zones-more, zones-same, zones_so_far}
use Rattle.vms_rating_lines.specs.Lines.{step_lines}
use Rattle.vms_rating_lines.specs.ToldSteps.{visits_told}
use Rattle.vms_rating_lines.proofs.StepLines.{lines-both}
use Rattle.vms_rating_lines.proofs.VisitLines.{visited-next}
use Rattle.vms_rating_lines.proofs.ratings.write_node.Goals as goal
use Rattle.vms_rating_lines.proofs.ratings.write_node.Goals.{then-zones-zone+in_ok-write_visit, else-zones-zone}

pub loop-zone-preserved : goal.loop-zone-preserved
loop-zone-preserved c =
    let p = c.args.caller in
    let shape = c.args.layout.now in
    let s = c.args.pages.now in
    let found = c.args.found.now in
    let n = c.loop-zone.zone in
    let out = c.write_states.new.out.items in
    let node = get_or c.nodes.result.now (c.args.node.number - length c.zones.result.now) 0 in
    elim c.if-zones-zone.branch [
      | then-zones-zone+in_ok-write_visit w ↦
          let on = on-true shape c.zones-in-loop-zone.result.now n node c.zones-in-loop-zone.ensures.value
          w.if-zones-zone.true in
          visited-next s found (λ m. nat_eq m 0) p (zones_so_far shape node n) (zones_so_far shape node (n + 1)) n out
          c.loop-zone.out.items c.if-zones-zone.out.items (zones-more shape node n on) c.loop-zone.invariant
          (ap (λ (v : _). v.items) w.out-is ∙ w.in_ok-write_visit.ensures.ok)
      | else-zones-zone w ↦
          let off = on-false shape c.zones-in-loop-zone.result.now n node c.zones-in-loop-zone.ensures.value
          w.if-zones-zone.false in
          ap (λ (v : _). v.items) w.out-is ∙ c.loop-zone.invariant
          ∙ ap (λ gs. out ++ step_lines p (visits_told s found (λ m. nat_eq m 0) gs))
          (sym (zones-same shape node n off))
    ]

pub returns-clause-ok : goal.returns-clause-ok
returns-clause-ok c =
    let p = c.args.caller in
    let shape = c.args.layout.now in
    let s = c.args.pages.now in
    let found = c.args.found.now in
    let spares : ℕ → Bool = λ m. nat_eq m 0 in
    let node = get_or c.nodes.result.now (c.args.node.number - length c.zones.result.now) 0 in
    let end : c.loop-zone.zone ≡ length shape.zones = omega (
      arith,
      c.loop-zone-test.false,
      c.loop-zone.auto.«zone-end»,
      ap length c.zones-zone-end.ensures.value,
    ) in
    let is_node : node ≡ node_number shape c.args.node =
    ap (λ (xs : List ℕ). get_or xs (c.args.node.number - length c.zones.result.now) 0) c.nodes.ensures.value
    ∙ ap (λ (m : ℕ). get_or shape.nodes (c.args.node.number - m) 0) (ap length c.zones.ensures.value) in
    let all : zones_so_far shape node c.loop-zone.zone
    ≡ zones_so_far shape (node_number shape c.args.node) (length shape.zones) =
    ap (zones_so_far shape node) end ∙ ap (λ (m : ℕ). zones_so_far shape m (length shape.zones)) is_node in
    lines-both p (in_turn state_steps 0 s.cpu)
    (visits_told s found spares (zones_so_far shape (node_number shape c.args.node) (length shape.zones)))
    c.args.out.now.items c.write_states.new.out.items c.loop-zone.out.items c.in_ok-write_states.ensures.ok
    (c.loop-zone.invariant
    ∙ ap (λ gs. c.write_states.new.out.items ++ step_lines p (visits_told s found spares gs)) all)

pub returns-in_err-write_visit-clause-err : goal.returns-in_err-write_visit-clause-err
returns-in_err-write_visit-clause-err c =
    OnErr-true c.from_residual-in_err-write_visit.result _
    (Begins-after _ _ _ _ c.in_ok-write_states.ensures.ok
    (Begins-after _ _ _ _ c.loop-zone.invariant c.in_err-write_visit.ensures.err))
